-- A call that makes an object.
use Rattle.std.specs.Prelude.{◌≡◌, ◌≢◌, ℕ, ◌==◌, ◌||◌, ◌&&◌, ◌<◌, Bool, true, false, if◌then◌else◌, List, [], ◌∷◌, All, map, length, Option, Some, None, is_some, slice_get, slice_index_or}
use Rattle.std.specs.List.{list_any, range_with_len}
use Rattle.std.proofs.Common.{refl, ap, sym, ◌∙◌, ◌+◌, arith, inl, inr, ne_eqb}
use Rattle.std.proofs.lemmas.Bool.{cases_Bool, eqb-true, eqb-false, eq-eqb, false≢true}
use Rattle.std.proofs.lemmas.List.Folds.{list_any-from_Any}
use Rattle.std.proofs.lemmas.List.FromFn.{length-range_with_len, get_or-range_with_len}
use Rattle.sls_base.specs.declared.limits.TheConstants.{OBJECTS}
use mathlib.Core.Path.{fun_ext}
use Rattle.sls_base.specs.declared.thread.Thread.{Thread as ThreadRecord}
use Rattle.link_lists.specs.Lists.{list_at}
use Rattle.ipc_note.specs.declared.lists.TheConstants.{RUN_QUEUE}
use Rattle.plain_state.specs.declared.objects.Kind.TheVariants.{GroupKind}
use Rattle.plain_state.specs.Objects as plain
use Rattle.plain_state.specs.Objects.{Object, is_kind, page_numbers, every_object}
use Rattle.plain_state.specs.States.{with_object}
use Rattle.plain_state.specs.Worlds.{World, has_page}
use Rattle.plain_state.specs.CallRefusals.{no_slot}
use Rattle.plain_state.specs.CallEffects.{makes, new_id}
use Rattle.kobj_table.specs.declared.slot.Slot.{Slot}
use Rattle.mem_space.specs.declared.memory.MemPage.{MemPage}
use Rattle.std.proofs.lemmas.List.Elements.{All-head, All-tail}
use Rattle.kobj_table.specs.Slots.{object_of, page_of}
use Rattle.kobj_table.specs.Objects.{Rest, state_of, object_at}
use Rattle.call_readings.specs.NumberSets.{uses_object, uses_page}
use Rattle.call_readings.specs.Kernel.{world_of, IsCounted}
use Rattle.kernel_calls.specs.declared.runtime.Runtime.{Runtime}
use Rattle.kernel_calls.specs.declared.done.Done.{Done}
use Rattle.kernel_calls.specs.Does.{Does, Makes}
use Rattle.kernel_calls.specs.Pages.{is_among}
use Rattle.kernel_calls.proofs.Objects.{told}
use Rattle.kernel_calls.proofs.Frames.{no_more}

-- nothing stands where no object is
pub none_there : (content : ℕ → ℕ → ℕ) (slot : Slot) (threads : List ℕ) → object_of content slot threads ≡ None → slot ≡ Slot.Empty
none_there content Slot.Empty threads e = refl
none_there content (Slot.Group group) threads e = absurd (cc)
none_there content (Slot.Thread thread) threads e = absurd (cc)
none_there content (Slot.Space space) threads e = absurd (cc)
none_there content (Slot.Memory memory) threads e = absurd (cc)
none_there content (Slot.Connection connection) threads e = absurd (cc)
none_there content (Slot.Notification note) threads e = absurd (cc)
none_there content (Slot.Ring ring) threads e = absurd (cc)
none_there content (Slot.Scheduler cores) threads e = absurd (cc)

pub not_there : (o : Option Object) → is_some o ≡ false → o ≡ None
not_there None e = refl
not_there (Some object) e = absurd (cc)

-- what is no group has no free slot
pub no_group : (o : Option Object) → is_kind GroupKind o ≡ false → no_slot o ≡ true
no_group None e = refl
no_group (Some (plain.Group slots)) e = absurd (cc)
no_group (Some (plain.Thread thread)) e = refl
no_group (Some (plain.Space regions)) e = refl
no_group (Some (plain.Memory pages)) e = refl
no_group (Some (plain.Connection server client clients)) e = refl
no_group (Some (plain.Notification count waiters)) e = refl
no_group (Some (plain.OutputRing channel)) e = refl
no_group (Some plain.InputRing) e = refl
no_group (Some plain.Scheduler) e = refl

-- a group is there and has no pages
group_tells : (o : Option Object) → is_kind GroupKind o ≡ true → told o ≡ (true, [])
group_tells None e = absurd (cc)
group_tells (Some (plain.Group slots)) e = refl
group_tells (Some (plain.Thread thread)) e = absurd (cc)
group_tells (Some (plain.Space regions)) e = absurd (cc)
group_tells (Some (plain.Memory pages)) e = absurd (cc)
group_tells (Some (plain.Connection server client clients)) e = absurd (cc)
group_tells (Some (plain.Notification count waiters)) e = absurd (cc)
group_tells (Some (plain.OutputRing channel)) e = absurd (cc)
group_tells (Some plain.InputRing) e = absurd (cc)
group_tells (Some plain.Scheduler) e = absurd (cc)

pub none_first : (xs : List ℕ) → None ≡ slice_get xs 0 → (length xs == 0) ≡ true
none_first [] e = refl
none_first (x ∷ xs) e = absurd (cc)

first_or : Option ℕ → ℕ
first_or None = 0
first_or (Some n) = n

pub first_is : (xs : List ℕ) (x : ℕ) → Some x ≡ slice_get xs 0 → slice_index_or xs 0 0 ≡ x
unfolding first_or
first_is [] x e = absurd (cc)
first_is (y ∷ ys) x e = ap first_or (sym e)

or_true : (b : Bool) → true ≡ (b || true)
or_true true = refl
or_true false = refl

or_false : (b : Bool) → b ≡ (b || false)
or_false true = refl
or_false false = refl

or_moved : (a b c : Bool) → ((a || b) || c) ≡ ((a || c) || b)
or_moved true b c = refl
or_moved false true true = refl
or_moved false true false = refl
or_moved false false true = refl
or_moved false false false = refl

-- which objects are there
some_made : (objects : ℕ → Option Object) (id own i : ℕ) (object group : Object) (a b : Bool) → (i == own) ≡ a → (i == id) ≡ b → is_some (objects own) ≡ true →
    is_some (if a then Some group else (if b then Some object else objects i)) ≡ (is_some (objects i) || b)
some_made objects id own i object group true b same same' there = sym (rw (ap (λ (j : ℕ). is_some (objects j)) (eqb-true i own same) ∙ there) refl)
some_made objects id own i object group false true same same' there = or_true (is_some (objects i))
some_made objects id own i object group false false same same' there = or_false (is_some (objects i))

-- which pages they have, where the new one has none
pages_made : (objects : ℕ → Option Object) (id own i : ℕ) (object group : Object) (a b : Bool) → (i == own) ≡ a → (i == id) ≡ b →
    page_numbers (Some group) ≡ page_numbers (objects own) → page_numbers (Some object) ≡ page_numbers (objects id) →
    page_numbers (if a then Some group else (if b then Some object else objects i)) ≡ page_numbers (objects i)
pages_made objects id own i object group true b same same' g x = g ∙ ap (λ (j : ℕ). page_numbers (objects j)) (sym (eqb-true i own same))
pages_made objects id own i object group false true same same' g x = x ∙ ap (λ (j : ℕ). page_numbers (objects j)) (sym (eqb-true i id same'))
pages_made objects id own i object group false false same same' g x = refl

-- so the numbers of objects are those in use
pub counted_objects : (k k' : Runtime) (rest : Rest) (w : World) (thread : ThreadRecord) (object : Object) (done : Done) → Makes k k' rest w thread object done →
    IsCounted k.numbers (world_of k.objects rest w) → (i : ℕ) → uses_object k'.numbers i ≡ (is_some (object_at rest.content k'.objects i) || is_some (w.saved.objects i))
unfolding world_of state_of
counted_objects k k' rest w thread object done m h i =
    let objects = object_at rest.content k.objects in
    let id = new_id (world_of k.objects rest w) in
    m.taken i
    ∙ ap (λ (b : Bool). b || (i == id)) (h.objects i)
    ∙ or_moved (is_some (objects i)) (is_some (w.saved.objects i)) (i == id)
    ∙ ap (λ (b : Bool). b || is_some (w.saved.objects i))
    (sym (ap (λ (x : Option Object). is_some x) (m.objects i)
    ∙ some_made objects id thread.group i object _ (i == thread.group) (i == id) refl refl (ap (λ (t : Bool × List ℕ). t.0) (group_tells (objects thread.group) m.own))))

some_page : (ℕ → List ℕ) → ℕ → Bool
some_page numbers page = list_any (λ i. list_any (λ number. number == page) (numbers i)) every_object

-- a call that makes an object without pages
pub made : (k k' : Runtime) (rest : Rest) (w : World) (thread : ThreadRecord) (object : Object) (done : Done) → Makes k k' rest w thread object done →
    page_numbers (Some object) ≡ [] → IsCounted k.numbers (world_of k.objects rest w) → Does k k' rest w (makes (world_of k.objects rest w) thread object) done
unfolding world_of state_of has_page some_page
made k k' rest w thread object done m no_pages h =
    let objects = object_at rest.content k.objects in
    let id = new_id (world_of k.objects rest w) in
    let pages : (λ (i : ℕ). page_numbers (object_at rest.content k'.objects i)) ≡ (λ (i : ℕ). page_numbers (objects i)) =
    fun_ext (λ i. ap (λ (x : Option Object). page_numbers x) (m.objects i)
    ∙ pages_made objects id thread.group i object _ (i == thread.group) (i == id) refl refl
    (sym (ap (λ (t : Bool × List ℕ). t.1) (group_tells (objects thread.group) m.own)))
    (no_pages ∙ sym (ap (λ (x : Option Object). page_numbers x) m.unused))) in
    record {
      objects = m.objects;
      queue = rw m.links (sym (no_more (list_at k.objects.links RUN_QUEUE)));
      scheduler = m.scheduler;
      counted = record {
        objects = counted_objects k k' rest w thread object done m h;
        pages = λ page. rw m.pages (h.pages page ∙ ap (λ (f : ℕ → List ℕ). some_page f page || has_page w.saved page) (sym pages));
      };
      caller = m.caller;
      quiet = record { stores = refl; output = refl; takes = refl };
    }

-- A call that makes an object with pages.

-- where a test passes more for one number
some_more : (f g : ℕ → Bool) (id : ℕ) (b : Bool) (xs : List ℕ) → g id ≡ b → f id ≡ false → ((i : ℕ) → i ≢ id → g i ≡ f i) →
    list_any g xs ≡ (list_any f xs || (list_any (λ i. i == id) xs && b))
some_more f g id b [] here none others = refl
some_more f g id b (x ∷ xs) here none others =
    let later = some_more f g id b xs here none others in
    elim (cases_Bool (x == id)) [
      | inl same ↦
          (let at_id : x ≡ id = eqb-true x id same in
          rw (ap g at_id ∙ here, ap f at_id ∙ none, same, later) (twice b (list_any f xs) (list_any (λ i. i == id) xs)))
      | inr apart ↦ rw (others x (eqb-false x id apart), apart, later) (moved (f x) (list_any f xs) _)
    ]
  where
    twice : (b x y : Bool) → (b || (x || (y && b))) ≡ (x || b)
    twice true true y = refl
    twice true false y = refl
    twice false x true = refl
    twice false x false = refl

    moved : (a x y : Bool) → (a || (x || y)) ≡ ((a || x) || y)
    moved true x y = refl
    moved false x y = refl

-- each number below 128 is one that objects have
every_one : (id : ℕ) → id < OBJECTS → list_any (λ i. i == id) every_object ≡ true
unfolding every_object
every_one id below = list_any-from_Any (λ i. i == id) (range_with_len 0 128) (id, id, omega (arith, length-range_with_len 0 128), get_or-range_with_len 0 128 id id below ∙ at_zero, eq-eqb id id refl)
  where
    at_zero : 0 + id ≡ id
    at_zero = omega arith

pages_other : (objects : ℕ → Option Object) (id own i : ℕ) (object group : Object) (a b : Bool) → (i == own) ≡ a → (i == id) ≡ b → b ≡ false → page_numbers (Some group) ≡ page_numbers (objects own) →
    page_numbers (if a then Some group else (if b then Some object else objects i)) ≡ page_numbers (objects i)
pages_other objects id own i object group true b same same' other g = g ∙ ap (λ (j : ℕ). page_numbers (objects j)) (sym (eqb-true i own same))
pages_other objects id own i object group false true same same' other g = absurd (cc)
pages_other objects id own i object group false false same same' other g = refl

made_there : (objects : ℕ → Option Object) (id own : ℕ) (object group : Object) → id ≢ own → with_object (with_object objects id object) own group id ≡ Some object
made_there objects id own object group apart = rw (ne_eqb id own apart) (rw (eq-eqb id id refl) refl)

-- the pages of the objects, where the new one has these
pages_with : (k m : Runtime) (rest : Rest) (w : World) (thread : ThreadRecord) (object : Object) (done : Done) (page : ℕ) → Makes k m rest w thread object done → new_id (world_of k.objects rest w) < OBJECTS →
    some_page (λ i. page_numbers (object_at rest.content m.objects i)) page ≡ (some_page (λ i. page_numbers (object_at rest.content k.objects i)) page || is_among (page_numbers (Some object)) page)
unfolding world_of state_of some_page
pages_with k m rest w thread object done page makes_it below =
    let objects = object_at rest.content k.objects in
    let id = new_id (world_of k.objects rest w) in
    let f = λ (i : ℕ). list_any (λ number. number == page) (page_numbers (objects i)) in
    let g = λ (i : ℕ). list_any (λ number. number == page) (page_numbers (object_at rest.content m.objects i)) in
    let none : f id ≡ false = ap (λ (o : Option Object). list_any (λ number. number == page) (page_numbers o)) makes_it.unused in
    let group = group_tells (objects thread.group) makes_it.own in
    let apart : id ≢ thread.group = λ same. false≢true (sym (ap (λ (o : Option Object). is_some o) (sym (ap objects same) ∙ makes_it.unused)) ∙ ap (λ (t : Bool × List ℕ). t.0) group) in
    let here : g id ≡ is_among (page_numbers (Some object)) page =
    ap (λ (o : Option Object). list_any (λ number. number == page) (page_numbers o)) (makes_it.objects id ∙ made_there objects id thread.group object _ apart) in
    some_more f g id (is_among (page_numbers (Some object)) page) every_object here none
    (λ i other. ap (λ (ns : List ℕ). list_any (λ number. number == page) ns)
    (ap (λ (o : Option Object). page_numbers o) (makes_it.objects i) ∙ pages_other objects id thread.group i object _ (i == thread.group) (i == id) refl refl (ne_eqb i id other) (sym (ap (λ (t : Bool × List ℕ). t.1) group))))
    ∙ ap (λ (b : Bool). list_any f every_object || (b && is_among (page_numbers (Some object)) page)) (every_one id below)

pub made_with_pages : (k m k' : Runtime) (rest : Rest) (w : World) (thread : ThreadRecord) (object : Object) (done : Done) → Makes k m rest w thread object done → new_id (world_of k.objects rest w) < OBJECTS →
    k'.objects ≡ m.objects → k'.numbers.objects ≡ m.numbers.objects → ((page : ℕ) → uses_page k'.numbers page ≡ (uses_page k.numbers page || is_among (page_numbers (Some object)) page)) →
    IsCounted k.numbers (world_of k.objects rest w) → Does k k' rest w (makes (world_of k.objects rest w) thread object) done
unfolding world_of state_of has_page some_page
made_with_pages k m k' rest w thread object done makes_it below objects numbers pages h = record {
  objects = λ i. rw objects (makes_it.objects i);
  queue = rw objects (rw makes_it.links (sym (no_more (list_at k.objects.links RUN_QUEUE))));
  scheduler = rw objects makes_it.scheduler;
  counted = record {
    objects = λ i. rw (objects, numbers) (counted_objects k m rest w thread object done makes_it h i);
    pages = λ page. rw objects (pages page ∙ ap (λ (b : Bool). b || is_among (page_numbers (Some object)) page) (h.pages page)
        ∙ or_moved (some_page (λ i. page_numbers (object_at rest.content k.objects i)) page) (has_page w.saved page) (is_among (page_numbers (Some object)) page)
        ∙ ap (λ (b : Bool). b || has_page w.saved page) (sym (pages_with k m rest w thread object done page makes_it below)));
  };
  caller = makes_it.caller;
  quiet = record { stores = refl; output = refl; takes = refl };
}

-- fresh pages are new ones
pub fresh_pages : (content : ℕ → ℕ → ℕ) (pages : List MemPage) → All (λ page. page.fresh ≡ true) pages → map (page_of content) pages ≡ map plain.new_page (map (λ page. page.page) pages)
fresh_pages content [] fresh = refl
fresh_pages content (page ∷ pages) fresh =
    let here : page.fresh ≡ true = All-head (λ page. page.fresh ≡ true) page pages fresh in
    ap (λ (p : plain.Page). p ∷ map (page_of content) pages) (zero_page content page.page page.fresh here)
    ∙ ap (λ (l : List plain.Page). plain.new_page page.page ∷ l) (fresh_pages content pages (All-tail (λ page. page.fresh ≡ true) page pages fresh))
  where
    zero_page : (content : ℕ → ℕ → ℕ) (number : ℕ) (b : Bool) → b ≡ true → page_of content (record { page = number; fresh = b }) ≡ plain.new_page number
    zero_page content number true e = refl
    zero_page content number false e = absurd (cc)

pub new_numbers : (numbers : List ℕ) → page_numbers (Some (plain.new_memory numbers)) ≡ numbers
new_numbers [] = refl
new_numbers (n ∷ numbers) = ap (λ (l : List ℕ). n ∷ l) (new_numbers numbers)
