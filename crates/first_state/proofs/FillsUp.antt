-- A table on the way to have a list of objects.
use Rattle.std.proofs.Common.{◌≡◌, ◌≢◌, ℕ, suc, ◌+◌, ◌<◌, ◌≤◌, ◌==◌, Bool, true, false, List, [], ◌∷◌, ◌++◌, length, map, get_or, sum_by, Some, refl, ap, sym, ◌∙◌, subst, arith, inl, inr, append_assoc, length-append}
use Rattle.std.specs.Prelude.{◌↔◌}
use Rattle.std.specs.List.{All, flat_map, range_with_len}
use Rattle.std.proofs.lemmas.Bool.{cases_lt, eqb-true, eqb-false, ne_eqb}
use Rattle.std.proofs.lemmas.List.{append-nil}
use Rattle.std.proofs.lemmas.List.Concat.{flat_map-cons}
use Rattle.std.proofs.lemmas.List.FromFn.{length-map-range_with_len}
use Rattle.std.proofs.lemmas.List.Sums.{sum_by-cons}
use Rattle.sls_base.specs.declared.image.Program.{Program}
use Rattle.sls_base.specs.declared.image.RegionSpec.{RegionSpec}
use Rattle.sls_base.specs.declared.thread.Ring.{Ring}
use Rattle.link_lists.specs.Lists.{list_at}
use Rattle.mem_space.specs.declared.memory.MemPage.{MemPage}
use Rattle.mem_space.specs.declared.memory.Memory.{Memory}
use Rattle.plain_model.specs.Objects as plain
use Rattle.plain_model.specs.Objects.{Object, Page}
use Rattle.plain_model.specs.Initial as initial
use Rattle.kobj_table.specs.declared.slot.Slot.{Slot}
use Rattle.kobj_table.specs.declared.objects.Objects.{Objects}
use Rattle.kobj_table.specs.Slots.{object_of, ring_of, has_list, memory_in, page_of}
use Rattle.kobj_table.specs.Objects.{slot_at}
use Rattle.first_state.specs.Content.{region_parts, program_parts, HoldsParts, HasPartsAt}
use Rattle.first_state.specs.Filled.{IsFilled, KeepsBelow, AreMarked, region_page}
use Rattle.first_state.proofs.Parts.{memory_shows, pages_marked, parts_first, parts_behind, region_count}

-- The table has the first n objects of a whole, of which these are the rest.
pub record FillsUp (content : ℕ → ℕ → ℕ) (o : Objects) (n : ℕ) (rest whole : List Object) : Type 0 where
  pub list : List Object
  pub filled : IsFilled content o list
  pub count : length list ≡ n
  pub all : list ++ rest ≡ whole

pub begins : {content : ℕ → ℕ → ℕ} {o : Objects} {list : List Object} {n : ℕ} (rest : List Object) → IsFilled content o list → length list ≡ n → FillsUp content o n rest (list ++ rest)
begins {content} {o} {list} rest filled count = record { list = list; filled = filled; count = count; all = refl }

pub goes_on : {content : ℕ → ℕ → ℕ} {old new : Objects} {n m : ℕ} {rest whole : List Object} (some behind : List Object) → FillsUp content old n rest whole → rest ≡ some ++ behind → m ≡ n + length some →
    ((list : List Object) → IsFilled content old list → length list ≡ n → IsFilled content new (list ++ some)) → FillsUp content new m behind whole
goes_on some behind h first next adds = record {
  list = h.list ++ some;
  filled = adds h.list h.filled h.count;
  count = (let long = length-append h.list some in let count = h.count in omega arith);
  all = append_assoc h.list some behind ∙ (ap (λ (l : List Object). h.list ++ l) (sym first) ∙ h.all);
}

pub ends : {content : ℕ → ℕ → ℕ} {o : Objects} {n : ℕ} {rest whole : List Object} → FillsUp content o n rest whole → rest ≡ [] → IsFilled content o whole
ends {content} {o} {n} {rest} {whole} h none =
    subst (λ (l : List Object). IsFilled content o l) (sym (append-nil h.list) ∙ (ap (λ (l : List Object). h.list ++ l) (sym none) ∙ h.all)) h.filled

-- What else of the table stays.

-- the marks of a slot are those of its pages
abbrev pub IsMarked : List (List ℕ) → Slot → Type 0
IsMarked parts slot = All (λ (p : MemPage). (p.fresh ≡ true) ↔ (get_or parts p.page [] ≡ [])) (memory_in slot).pages.items

marked_by : (parts : List (List ℕ)) (old new : Objects) (n : ℕ) (slot : Slot) (i : ℕ) (b : Bool) → (i == n) ≡ b → slot_at new n ≡ slot → ((i : ℕ) → i ≢ n → slot_at new i ≡ slot_at old i) → IsMarked parts slot →
    AreMarked parts old → IsMarked parts (slot_at new i)
marked_by parts old new n slot i true same there others mark marks = subst (IsMarked parts) (sym (ap (slot_at new) (eqb-true i n same) ∙ there)) mark
marked_by parts old new n slot i false same there others mark marks = subst (IsMarked parts) (sym (others i (eqb-false i n same))) (marks i)

pub marked_more : (parts : List (List ℕ)) (old new : Objects) (n : ℕ) (slot : Slot) → slot_at new n ≡ slot → ((i : ℕ) → i ≢ n → slot_at new i ≡ slot_at old i) → IsMarked parts slot →
    AreMarked parts old → AreMarked parts new
marked_more parts old new n slot there others mark marks i = marked_by parts old new n slot i (i == n) refl there others mark marks

pub unmarked : (parts : List (List ℕ)) → All (λ (p : MemPage). (p.fresh ≡ true) ↔ (get_or parts p.page [] ≡ [])) []
unmarked parts k d inside = absurd (omega arith)

pub kept_more : (first old new : Objects) (n id : ℕ) → n ≤ id → ((i : ℕ) → i ≢ id → slot_at new i ≡ slot_at old i) → KeepsBelow first old n → KeepsBelow first new n
kept_more first old new n id le others kept i below = others i (λ e. absurd (omega arith)) ∙ kept i below

-- Memory objects.

pub memory_is : (content : ℕ → ℕ → ℕ) (parts : List (List ℕ)) (spec : RegionSpec) (page : ℕ) (memory : Memory) → HoldsParts content parts → HasPartsAt parts page (region_parts spec) →
    memory.pages.items ≡ map (region_page spec page) (range_with_len 0 spec.pages) → object_of content (Slot.Memory memory) [] ≡ Some (initial.memory_of spec page)
memory_is content parts spec page memory holds has items =
    ap (λ (pages : List Page). Some (plain.Memory pages)) (ap (map (page_of content)) items ∙ memory_shows content parts spec page holds has)

pub memory_marked : (parts : List (List ℕ)) (spec : RegionSpec) (page : ℕ) (memory : Memory) → HasPartsAt parts page (region_parts spec) → memory.pages.items ≡ map (region_page spec page) (range_with_len 0 spec.pages) →
    IsMarked parts (Slot.Memory memory)
memory_marked parts spec page memory has items =
    subst (λ (pages : List MemPage). All (λ (p : MemPage). (p.fresh ≡ true) ↔ (get_or parts p.page [] ≡ [])) pages) (sym items) (pages_marked parts spec page has)

-- the parts of the regions from one on are those of this one, and then those of the others

region_first : (specs rest : List RegionSpec) (spec : RegionSpec) → specs ≡ spec ∷ rest → flat_map region_parts specs ≡ region_parts spec ++ flat_map region_parts rest
region_first specs rest spec first = ap (flat_map region_parts) first ∙ flat_map-cons region_parts spec rest

pub first_region : (parts : List (List ℕ)) (specs rest : List RegionSpec) (spec : RegionSpec) (page : ℕ) → specs ≡ spec ∷ rest → HasPartsAt parts page (flat_map region_parts specs) → HasPartsAt parts page (region_parts spec)
first_region parts specs rest spec page first has =
    parts_first parts (region_parts spec) (flat_map region_parts rest) page (subst (HasPartsAt parts page) (region_first specs rest spec first) has)

pub other_regions : (parts : List (List ℕ)) (specs rest : List RegionSpec) (spec : RegionSpec) (page next : ℕ) → specs ≡ spec ∷ rest → next ≡ page + spec.pages → HasPartsAt parts page (flat_map region_parts specs) →
    HasPartsAt parts next (flat_map region_parts rest)
other_regions parts specs rest spec page next first at has =
    subst (λ k. HasPartsAt parts k (flat_map region_parts rest)) (sym at)
    (parts_behind parts (region_parts spec) (flat_map region_parts rest) page spec.pages (region_count spec) (subst (HasPartsAt parts page) (region_first specs rest spec first) has))

pub memories_first : (specs rest : List RegionSpec) (spec : RegionSpec) (page next : ℕ) → specs ≡ spec ∷ rest → next ≡ page + spec.pages →
    initial.program_memories specs page ≡ (initial.memory_of spec page ∷ []) ++ initial.program_memories rest next
memories_first specs rest spec page next first at =
    ap (λ (l : List RegionSpec). initial.program_memories l page) first ∙ ap (λ k. initial.memory_of spec page ∷ initial.program_memories rest k) (sym at)

-- Programs.

pub memories_count : (specs : List RegionSpec) (page : ℕ) → length (initial.program_memories specs page) ≡ length specs
memories_count [] page = refl
memories_count (spec ∷ specs) page = let e = memories_count specs (page + initial.pages_taken spec) in omega arith

pub three_more : (list memories : List Object) (group space : Object) → ((list ++ group ∷ []) ++ space ∷ []) ++ memories ≡ list ++ (group ∷ space ∷ memories)
three_more list memories group space = append_assoc (list ++ group ∷ []) (space ∷ []) memories ∙ append_assoc list (group ∷ []) (space ∷ memories)

pub counted_more : (list : List Object) (object : Object) (n : ℕ) → length list ≡ n → length (list ++ object ∷ []) ≡ n + 1
counted_more list object n count = let long = length-append list (object ∷ []) in omega arith

-- the first number of a range, and the others
pub rest_of : (f : ℕ → Object) (j m n : ℕ) → m ≡ n + 1 → map f (range_with_len j m) ≡ (f j ∷ []) ++ map f (range_with_len (j + 1) n)
rest_of f j m n e = let next : m ≡ suc n = omega arith in ap (λ k. map f (range_with_len j k)) next

parts_count : (specs : List RegionSpec) → length (flat_map region_parts specs) ≡ sum_by initial.pages_taken specs
parts_count [] = refl
parts_count (spec ∷ specs) =
    let one = region_count spec in
    let others = parts_count specs in
    let long = length-append (region_parts spec) (flat_map region_parts specs) in
    let parts : length (flat_map region_parts (spec ∷ specs)) ≡ length (region_parts spec ++ flat_map region_parts specs) = ap length (flat_map-cons region_parts spec specs) in
    let pages = sum_by-cons initial.pages_taken spec specs in
    omega arith

program_first : (ps rest : List Program) (p : Program) → ps ≡ p ∷ rest → flat_map program_parts ps ≡ program_parts p ++ flat_map program_parts rest
program_first ps rest p first = ap (flat_map program_parts) first ∙ flat_map-cons program_parts p rest

pub first_program : (parts : List (List ℕ)) (ps rest : List Program) (p : Program) (page : ℕ) → ps ≡ p ∷ rest → HasPartsAt parts page (flat_map program_parts ps) → HasPartsAt parts page (program_parts p)
first_program parts ps rest p page first has =
    parts_first parts (program_parts p) (flat_map program_parts rest) page (subst (HasPartsAt parts page) (program_first ps rest p first) has)

pub other_programs : (parts : List (List ℕ)) (ps rest : List Program) (p : Program) (page next : ℕ) → ps ≡ p ∷ rest → next ≡ page + initial.program_pages p → HasPartsAt parts page (flat_map program_parts ps) →
    HasPartsAt parts next (flat_map program_parts rest)
other_programs parts ps rest p page next first at has =
    subst (λ k. HasPartsAt parts k (flat_map program_parts rest)) (sym at)
    (parts_behind parts (program_parts p) (flat_map program_parts rest) page (initial.program_pages p) (parts_count p.regions.items) (subst (HasPartsAt parts page) (program_first ps rest p first) has))

pub objects_count : (p : Program) (n k : ℕ) → length (initial.program_objects p n k) ≡ initial.program_size p
objects_count p n k =
    let memories = initial.program_memories p.regions.items k in
    let threads = map (initial.program_thread p n) (range_with_len 0 p.threads) in
    let a = memories_count p.regions.items k in
    let b = length-map-range_with_len (initial.program_thread p n) 0 p.threads in
    let long = length-append memories threads in
    omega arith

pub programs_first : (ps rest : List Program) (p : Program) (n m k l : ℕ) → ps ≡ p ∷ rest → m ≡ n + initial.program_size p → l ≡ k + initial.program_pages p →
    initial.programs_objects ps n k ≡ initial.program_objects p n k ++ initial.programs_objects rest m l
programs_first ps rest p n m k l first a b =
    ap (λ (qs : List Program). initial.programs_objects qs n k) first
    ∙ (ap (λ i. initial.program_objects p n k ++ initial.programs_objects rest i (k + initial.program_pages p)) (sym a)
    ∙ ap (λ page. initial.program_objects p n k ++ initial.programs_objects rest m page) (sym b))

-- The objects that are always there.

pub nothing_filled : (content : ℕ → ℕ → ℕ) (o : Objects) → ((i : ℕ) → slot_at o i ≡ Slot.Empty) → ((i : ℕ) → list_at o.links i ≡ []) → IsFilled content o []
nothing_filled content o slots lists = record {
  objects = λ i. ap (λ (s : Slot). object_of content s (list_at o.links i)) (slots i);
  listless = λ i. ap has_list (slots i);
  queue = lists 1;
  lists = λ i other. lists i;
}

pub output_is : (content : ℕ → ℕ → ℕ) (ring : Ring) (channel : ℕ) → ring ≡ record { channel = channel; fresh = true; count = 0; page = channel } → channel < 4 → object_of content (Slot.Ring ring) [] ≡ Some (plain.OutputRing channel)
output_is content ring channel is below =
    ap (λ (r : Ring). Some (ring_of r.channel)) is ∙ rw (ne_eqb channel 4 (λ e. absurd (omega arith))) refl

pub outputs_more : (old new : Objects) (ring : Ring) (next channel : ℕ) → ((c : ℕ) → c < next → slot_at old (2 + c) ≡ Slot.Ring (record { channel = c; fresh = true; count = 0; page = c })) →
    slot_at new (2 + next) ≡ Slot.Ring ring → ring ≡ record { channel = next; fresh = true; count = 0; page = next } → ((i : ℕ) → i ≢ 2 + next → slot_at new i ≡ slot_at old i) → channel < next + 1 →
    slot_at new (2 + channel) ≡ Slot.Ring (record { channel = channel; fresh = true; count = 0; page = channel })
outputs_more old new ring next channel before there is others below =
    elim (cases_lt channel next) [
      | inl lt ↦ others (2 + channel) (λ e. absurd (omega arith)) ∙ before channel lt
      | inr ge ↦
          let at : next ≡ channel = omega arith in
          subst (λ c. slot_at new (2 + c) ≡ Slot.Ring (record { channel = c; fresh = true; count = 0; page = c })) at (there ∙ ap (λ (r : Ring). Slot.Ring r) is)
    ]
