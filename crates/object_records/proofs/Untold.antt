-- What no plain state tells, and what the plain machine tells, are all that a record says.
use Rattle.std.proofs.Common.{◌≡◌, ℕ, ◌<◌, ◌≤◌, ◌==◌, Bool, true, false, List, [], ◌∷◌, map, get_or, Option, Some, None, refl, ap, sym, ◌∙◌, subst, arith, inl, inr}
use Rattle.std.specs.Prelude.{◌⊎◌, ◌^◌, option_map}
use Rattle.std.proofs.lemmas.Bool.{cases_lt}
use Rattle.std.proofs.lemmas.List.{get_or-take, get_or_default, same_lists}
use Rattle.std.proofs.Math.ListN.{get_or-map}
use Rattle.sls_base.specs.declared.limits.TheConstants.{OUTPUT_CHANNELS}
use Rattle.sls_base.specs.declared.thread.Ring.{Ring}
use Rattle.link_lists.specs.Lists.{list_at}
use Rattle.cap_group.specs.declared.cap.Cap.{Cap}
use Rattle.cap_group.specs.declared.group.Group.{Group}
use Rattle.mem_space.specs.declared.region.Region.{Region}
use Rattle.mem_space.specs.declared.space.Space.{Space}
use Rattle.plain_state.specs.declared.objects.Capability.{Capability}
use Rattle.plain_state.specs.declared.objects.Occupant.{Occupant}
use Rattle.plain_state.specs.declared.objects.Region.{Region as PlainRegion}
use Rattle.plain_model.specs.Objects as plain
use Rattle.plain_model.specs.Objects.{Object}
use Rattle.kobj_table.specs.declared.slot.Slot.{Slot}
use Rattle.kobj_table.specs.declared.slot.Cores.{Cores}
use Rattle.kobj_table.specs.declared.objects.Objects.{Objects}
use Rattle.kobj_table.specs.Slots.{capability_of, region_of, occupant_of, ring_of, object_of, cores_of, is_scheduler}
use Rattle.kobj_table.specs.Objects.{slot_at}
use Rattle.object_records.specs.Records.{record_of, record_at}
use Rattle.object_records.specs.Ranges.{IsCores, IsUntoldInRange, AreUntoldInRange}
use Rattle.object_records.specs.Untold.{CountsOn, KeepsRing, KeepsCores, IsUntoldKept, KeepsUntold, IsToldSame, count_in}

-- Where nothing changes, and where one change follows another.

ring_kept : (ring : Ring) → KeepsRing ring ring
ring_kept ring = record { channel = refl; fresh = refl; page = refl; count = inl refl }

cores_kept : (cores : Cores) → KeepsCores cores cores
cores_kept cores = record { cores = refl; size = refl; past = λ core past. refl }

pub slot_kept : (slot : Slot) → IsUntoldKept slot slot
slot_kept Slot.Empty = refl
slot_kept (Slot.Group group) = tt
slot_kept (Slot.Thread thread) = tt
slot_kept (Slot.Space space) = tt
slot_kept (Slot.Memory memory) = inl refl
slot_kept (Slot.Connection c) = tt
slot_kept (Slot.Notification note) = tt
slot_kept (Slot.Ring ring) = (ring, refl, ring_kept ring)
slot_kept (Slot.Scheduler cores) = (cores, refl, cores_kept cores)

counts_on : (a b c : Ring) → c.channel ≡ b.channel → CountsOn a b → CountsOn b c → CountsOn a c
counts_on a b c same (inl one) (inl two) = inl (two ∙ one)
counts_on a b c same (inl one) (inr two) = inr (two.0, subst (λ (n : ℕ). n ≤ c.count) one two.1, two.2)
counts_on a b c same (inr one) (inl two) =
    inr (subst (λ (n : ℕ). n < OUTPUT_CHANNELS) (sym same) one.0, subst (λ (n : ℕ). a.count ≤ n) (sym two) one.1, subst (λ (n : ℕ). n < 2 ^ 64) (sym two) one.2)
counts_on a b c same (inr one) (inr two) = (let first = one.1 in let second = two.1 in inr (two.0, omega (arith, first, second), two.2))

ring_joined : (a b c : Ring) → KeepsRing a b → KeepsRing b c → KeepsRing a c
ring_joined a b c one two = record {
  channel = two.channel ∙ one.channel;
  fresh = two.fresh ∙ one.fresh;
  page = two.page ∙ one.page;
  count = counts_on a b c two.channel one.count two.count;
}

cores_joined : (a b c : Cores) → KeepsCores a b → KeepsCores b c → KeepsCores a c
cores_joined a b c one two = record {
  cores = two.cores ∙ one.cores;
  size = two.size ∙ one.size;
  past = λ core past. two.past core (subst (λ (n : ℕ). n ≤ core) (sym one.cores) past) ∙ one.past core past;
}

pub joined : (a b c : Slot) → IsUntoldKept a b → IsUntoldKept b c → IsUntoldKept a c
joined a b Slot.Empty one two = subst (λ (s : Slot). IsUntoldKept a s) two one
joined a b (Slot.Group group) one two = tt
joined a b (Slot.Thread thread) one two = tt
joined a b (Slot.Space space) one two = tt
joined a b (Slot.Memory memory) one (inl same) = subst (λ (s : Slot). IsUntoldKept a s) same one
joined a b (Slot.Memory memory) one (inr made) = inr (subst (λ (s : Slot). IsUntoldKept a s) made.0 one, made.1)
joined a b (Slot.Connection c) one two = tt
joined a b (Slot.Notification note) one two = tt
joined a b (Slot.Ring ring) one two =
    let first = subst (λ (s : Slot). IsUntoldKept a s) two.1 one in
    (first.0, first.1, ring_joined first.0 two.0 ring first.2 two.2)
joined a b (Slot.Scheduler cores) one two =
    let first = subst (λ (s : Slot). IsUntoldKept a s) two.1 one in
    (first.0, first.1, cores_joined first.0 two.0 cores first.2 two.2)

-- It stays in range.

cores_ranged : (old new : Cores) → KeepsCores old new → IsCores old → IsCores new
cores_ranged old new kept is = record {
  some = subst (λ (n : ℕ). 1 ≤ n) (sym kept.cores) is.some;
  most = rw kept.cores is.most;
  size = kept.size ∙ is.size;
  past = λ core past. let here = subst (λ (n : ℕ). n ≤ core) kept.cores past in kept.past core here ∙ is.past core here;
}

ring_ranged : (old new : Ring) → KeepsRing old new → IsUntoldInRange (Slot.Ring old) → IsUntoldInRange (Slot.Ring new)
ring_ranged old new kept is =
    elim kept.count [
      | inl same ↦ record { channel = rw kept.channel is.channel; count = rw same is.count; page = rw kept.page is.page; input = rw (kept.channel, kept.fresh, same, kept.page) is.input }
      | inr more ↦ record { channel = rw kept.channel is.channel; count = more.2; page = rw kept.page is.page; input = inl more.0 }
    ]

pub slot_ranged : (old new : Slot) → IsUntoldKept old new → IsUntoldInRange old → IsUntoldInRange new
slot_ranged old Slot.Empty kept is = tt
slot_ranged old (Slot.Group group) kept is = tt
slot_ranged old (Slot.Thread thread) kept is = tt
slot_ranged old (Slot.Space space) kept is = tt
slot_ranged old (Slot.Memory memory) kept is = tt
slot_ranged old (Slot.Connection c) kept is = tt
slot_ranged old (Slot.Notification note) kept is = tt
slot_ranged old (Slot.Ring ring) kept is = ring_ranged kept.0 ring kept.2 (subst IsUntoldInRange kept.1 is)
slot_ranged old (Slot.Scheduler cores) kept is = cores_ranged kept.0 cores kept.2 (subst IsUntoldInRange kept.1 is)

pub all_ranged : (old new : Objects) → KeepsUntold old new → AreUntoldInRange old → AreUntoldInRange new
all_ranged old new kept is i = slot_ranged (slot_at old i) (slot_at new i) (kept.each i) (is i)

-- The slot that a plain object of a kind without anything untold is of; for any other none.

abbrev cap_back : Capability → Cap
cap_back c = record { object = c.object; rights = c.rights }

abbrev region_back : PlainRegion → Region
region_back r = record { base = r.base; count = r.count; first = r.first; memory = r.memory; rights = r.rights }

abbrev slot_back : Option Object → Slot
slot_back None = Slot.Empty
slot_back (Some (plain.Group slots)) = Slot.Group (record { slots = map (option_map cap_back) slots })
slot_back (Some (plain.Thread thread)) = Slot.Thread thread
slot_back (Some (plain.Space regions)) = Slot.Space (record { regions = record { items = map region_back regions } })
slot_back (Some (plain.Memory pages)) = Slot.Empty
slot_back (Some (plain.Connection server client clients)) = Slot.Connection (record { server = server; client = client })
slot_back (Some (plain.Notification count waiters)) = Slot.Notification (record { count = count })
slot_back (Some (plain.OutputRing channel)) = Slot.Empty
slot_back (Some plain.InputRing) = Slot.Empty
slot_back (Some plain.Scheduler) = Slot.Empty

cap_same : (slot : Option Cap) → option_map cap_back (option_map capability_of slot) ≡ slot
cap_same None = refl
cap_same (Some cap) = refl

caps_back : (slots : List (Option Cap)) → map (option_map cap_back) (map (option_map capability_of) slots) ≡ slots
caps_back [] = refl
caps_back (slot ∷ slots) =
    ap (λ (l : List (Option Cap)). option_map cap_back (option_map capability_of slot) ∷ l) (caps_back slots) ∙ ap (λ (s : Option Cap). s ∷ slots) (cap_same slot)

regions_back : (regions : List Region) → map region_back (map region_of regions) ≡ regions
regions_back [] = refl
regions_back (region ∷ regions) = ap (λ (l : List Region). region ∷ l) (regions_back regions)

group_back : (group : Group) → Slot.Group (record { slots = map (option_map cap_back) (map (option_map capability_of) group.slots) }) ≡ Slot.Group group
group_back group = ap (λ (slots : List (Option Cap)). Slot.Group (record { slots = slots })) (caps_back group.slots)

space_back : (space : Space) → Slot.Space (record { regions = record { items = map region_back (map region_of space.regions.items) } }) ≡ Slot.Space space
space_back space = ap (λ (regions : List Region). Slot.Space (record { regions = record { items = regions } })) (regions_back space.regions.items)

no_ring_back : (channel : ℕ) (b : Bool) → (channel == OUTPUT_CHANNELS) ≡ b → slot_back (Some (ring_of channel)) ≡ Slot.Empty
no_ring_back channel true e = rw e refl
no_ring_back channel false e = rw e refl

back : (content : ℕ → ℕ → ℕ) (slot : Slot) (threads : List ℕ) →
    (slot_back (object_of content slot threads) ≡ slot) ⊎ (slot_back (object_of content slot threads) ≡ Slot.Empty)
back content Slot.Empty threads = inl refl
back content (Slot.Group group) threads = inl (group_back group)
back content (Slot.Thread thread) threads = inl refl
back content (Slot.Space space) threads = inl (space_back space)
back content (Slot.Memory memory) threads = inr refl
back content (Slot.Connection c) threads = inl refl
back content (Slot.Notification note) threads = inl refl
back content (Slot.Ring ring) threads = inr (no_ring_back ring.channel (ring.channel == OUTPUT_CHANNELS) refl)
back content (Slot.Scheduler cores) threads = inr refl

-- an object of such a kind, which is the same plain object, is the same
told_same : (before : ℕ → ℕ → ℕ) (old new : Slot) (threads : List ℕ) (object : Option Object) → slot_back object ≡ new → (new ≡ Slot.Empty → ⊥) →
    object ≡ object_of before old threads → new ≡ old
told_same before old new threads object is some same =
    elim (back before old threads) [
      | inl there ↦ sym is ∙ ap slot_back same ∙ there
      | inr none ↦ absurd (some (sym is ∙ ap slot_back same ∙ none))
    ]

-- The others.

abbrev ring_with : ℕ → Bool → ℕ → ℕ → Ring
ring_with channel fresh count page = record { channel = channel; fresh = fresh; count = count; page = page }

ring_same : (old new : Ring) → KeepsRing old new → new.count ≡ old.count → Slot.Ring new ≡ Slot.Ring old
ring_same old new kept count =
    ap (λ (n : ℕ). Slot.Ring (ring_with n new.fresh new.count new.page)) kept.channel
    ∙ ap (λ (b : Bool). Slot.Ring (ring_with old.channel b new.count new.page)) kept.fresh
    ∙ ap (λ (n : ℕ). Slot.Ring (ring_with old.channel old.fresh n new.page)) count
    ∙ ap (λ (n : ℕ). Slot.Ring (ring_with old.channel old.fresh old.count n)) kept.page

abbrev cores_with : ℕ → List (Option (ℕ × ℕ)) → Cores
cores_with cores running = record { cores = cores; running = running }

abbrev occupant_back : Occupant → ℕ × ℕ
occupant_back o = (o.thread, o.slice)

runs_back : (now : Option (ℕ × ℕ)) → option_map occupant_back (option_map occupant_of now) ≡ now
runs_back None = refl
runs_back (Some running) = refl

-- what a core that there is runs
told_running : (cores : Cores) (core : ℕ) → core < cores.cores → option_map occupant_back (get_or (cores_of (Slot.Scheduler cores)) core None) ≡ get_or cores.running core None
told_running cores core below =
    ap (option_map occupant_back)
    (get_or-take cores.cores (map (option_map occupant_of) cores.running) core None below ∙ get_or-map (option_map occupant_of) cores.running core None)
    ∙ runs_back (get_or cores.running core None)

running_same : (old new : Cores) → KeepsCores old new → cores_of (Slot.Scheduler new) ≡ cores_of (Slot.Scheduler old) → (core : ℕ) → get_or new.running core None ≡ get_or old.running core None
running_same old new kept told core =
    elim (cases_lt core old.cores) [
      | inl lt ↦
          sym (told_running new core (subst (λ (n : ℕ). core < n) (sym kept.cores) lt))
          ∙ ap (λ (l : List (Option Occupant)). option_map occupant_back (get_or l core None)) told
          ∙ told_running old core lt
      | inr past ↦ kept.past core past
    ]

scheduler_same : (old new : Cores) → KeepsCores old new → cores_of (Slot.Scheduler new) ≡ cores_of (Slot.Scheduler old) → Slot.Scheduler new ≡ Slot.Scheduler old
scheduler_same old new kept told =
    let size = kept.size in
    let running : new.running ≡ old.running =
    same_lists new.running old.running size (λ k d below.
    get_or_default new.running k d None below ∙ running_same old new kept told k ∙ get_or_default old.running k None d (subst (λ (n : ℕ). k < n) size below)) in
    ap (λ (n : ℕ). Slot.Scheduler (cores_with n new.running)) kept.cores ∙ ap (λ (l : List (Option (ℕ × ℕ))). Slot.Scheduler (cores_with old.cores l)) running

same_slot : (before after : ℕ → ℕ → ℕ) (old new : Slot) (threads threads' : List ℕ) → IsUntoldKept old new → object_of after new threads' ≡ object_of before old threads →
    ((ring : Ring) → new ≡ Slot.Ring ring → ring.count ≡ count_in old) → (is_scheduler new ≡ true → cores_of new ≡ cores_of old) → new ≡ old
same_slot before after old Slot.Empty threads threads' kept same count cores = sym kept
same_slot before after old (Slot.Group group) threads threads' kept same count cores = told_same before old (Slot.Group group) threads _ (group_back group) (λ none. cc) same
same_slot before after old (Slot.Thread thread) threads threads' kept same count cores = told_same before old (Slot.Thread thread) threads (Some (plain.Thread thread)) refl (λ none. cc) same
same_slot before after old (Slot.Space space) threads threads' kept same count cores = told_same before old (Slot.Space space) threads _ (space_back space) (λ none. cc) same
same_slot before after old (Slot.Memory memory) threads threads' (inl kept) same count cores = sym kept
same_slot before after old (Slot.Memory memory) threads threads' (inr made) same count cores =
    let none = same ∙ ap (λ (s : Slot). object_of before s threads) made.0 in absurd (cc)
same_slot before after old (Slot.Connection c) threads threads' kept same count cores =
    told_same before old (Slot.Connection c) threads (Some (plain.Connection c.server c.client threads')) refl (λ none. cc) same
same_slot before after old (Slot.Notification note) threads threads' kept same count cores =
    told_same before old (Slot.Notification note) threads (Some (plain.Notification note.count threads')) refl (λ none. cc) same
same_slot before after old (Slot.Ring ring) threads threads' kept same count cores = ring_same kept.0 ring kept.2 (count ring refl ∙ ap count_in kept.1) ∙ sym kept.1
same_slot before after old (Slot.Scheduler c) threads threads' kept same count cores = scheduler_same kept.0 c kept.2 (cores refl ∙ ap cores_of kept.1) ∙ sym kept.1

pub slots_same : (before after : ℕ → ℕ → ℕ) (old new : Objects) (i : ℕ) → IsUntoldKept (slot_at old i) (slot_at new i) → IsToldSame before after old new i → slot_at new i ≡ slot_at old i
slots_same before after old new i kept told = same_slot before after (slot_at old i) (slot_at new i) (list_at old.links i) (list_at new.links i) kept told.object told.count told.cores

-- A record has a list where its plain object has, or where it is the scheduler's.

abbrev lists_of : Option Object → List ℕ
lists_of None = []
lists_of (Some (plain.Group slots)) = []
lists_of (Some (plain.Thread thread)) = []
lists_of (Some (plain.Space regions)) = []
lists_of (Some (plain.Memory pages)) = []
lists_of (Some (plain.Connection server client clients)) = clients
lists_of (Some (plain.Notification count waiters)) = waiters
lists_of (Some (plain.OutputRing channel)) = []
lists_of (Some plain.InputRing) = []
lists_of (Some plain.Scheduler) = []

same_list : (before after : ℕ → ℕ → ℕ) (slot : Slot) (threads threads' : List ℕ) → object_of after slot threads' ≡ object_of before slot threads →
    (is_scheduler slot ≡ true → threads' ≡ threads) → record_of slot threads' ≡ record_of slot threads
same_list before after Slot.Empty threads threads' same queue = refl
same_list before after (Slot.Group group) threads threads' same queue = refl
same_list before after (Slot.Thread thread) threads threads' same queue = refl
same_list before after (Slot.Space space) threads threads' same queue = refl
same_list before after (Slot.Memory memory) threads threads' same queue = refl
same_list before after (Slot.Connection c) threads threads' same queue = ap (λ (l : List ℕ). record_of (Slot.Connection c) l) (ap lists_of same)
same_list before after (Slot.Notification note) threads threads' same queue = ap (λ (l : List ℕ). record_of (Slot.Notification note) l) (ap lists_of same)
same_list before after (Slot.Ring ring) threads threads' same queue = refl
same_list before after (Slot.Scheduler c) threads threads' same queue = ap (λ (l : List ℕ). record_of (Slot.Scheduler c) l) (queue refl)

pub records_same : (before after : ℕ → ℕ → ℕ) (old new : Objects) (i : ℕ) → IsUntoldKept (slot_at old i) (slot_at new i) → IsToldSame before after old new i → record_at new i ≡ record_at old i
records_same before after old new i kept told =
    let slot = slots_same before after old new i kept told in
    same_list before after (slot_at new i) (list_at old.links i) (list_at new.links i)
    (told.object ∙ ap (λ (s : Slot). object_of before s (list_at old.links i)) (sym slot)) told.queue
    ∙ ap (λ (s : Slot). record_of s (list_at old.links i)) slot
