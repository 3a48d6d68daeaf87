-- Words are the record of one object at most.
use Rattle.std.proofs.Common.{◌≡◌, ℕ, zero, suc, ◌+◌, ◌%◌, ◌<◌, ◌≤◌, ◌∙◌, sym, ap, refl, arith, inl, inr, Bool, true, false, List, [], ◌∷◌, length, slice_index, get_or, Option, Some, None, IfSome}
use Rattle.std.specs.Prelude.{slice_get, slice_index_or}
use Rattle.std.proofs.lemmas.Bool.{cases_lt}
use Rattle.std.proofs.lemmas.List.{ext_get_or}
use Rattle.std.proofs.lemmas.Option.{slice_get-get_or}
use Rattle.std.proofs.lemmas.Grind.{same_number_lists}
use Rattle.sls_base.specs.declared.limits.TheConstants.{CORES, SPACE_REGIONS}
use Rattle.sls_base.specs.declared.thread.ThreadState.{ThreadState}
use Rattle.sls_base.specs.declared.thread.ThreadState.TheVariants.{Ready, Running, Waiting, Calling, Served, Serving, Stopped}
use Rattle.sls_base.specs.declared.thread.Thread.{Thread}
use Rattle.sls_base.specs.declared.thread.Ring.{Ring}
use Rattle.cap_group.specs.declared.cap.Cap.{Cap}
use Rattle.cap_group.specs.declared.group.Group.{Group}
use Rattle.cap_group.specs.Cap.{IsCap}
use Rattle.cap_group.specs.Group.{cap_at}
use Rattle.mem_space.specs.declared.region.Region.{Region}
use Rattle.mem_space.specs.declared.memory.MemPage.{MemPage}
use Rattle.mem_space.specs.declared.memory.Memory.{Memory}
use Rattle.mem_space.specs.declared.space.Space.{Space}
use Rattle.kobj_codec.specs.declared.obj.ConnectionRec.{ConnectionRec}
use Rattle.kobj_codec.specs.declared.obj.NotificationRec.{NotificationRec}
use Rattle.kobj_codec.specs.declared.obj.Scheduler.{Scheduler}
use Rattle.kobj_codec.specs.declared.obj.Obj.{Obj}
use Rattle.mem_space.specs.Region.{IsRegion}
use Rattle.kobj_codec.specs.declared.obj.Obj.TheVariants as objs
use Rattle.kobj_codec.specs.Objects.{IsObj, IsList, IsGroupRec, IsThread, IsSpaceRec, IsPage, IsMemory, IsConnection, IsNotification, IsRing, IsOccupant, IsScheduler}
use Rattle.kobj_codec.specs.Records.{IsRecord, head_word, mark, slot_number, state_number, about, region_word, page_number, core_word, client_number}
use Rattle.kobj_codec.proofs.Told.{no_page, mark_small, half_of_register, gets_all, cap_here, group_told, thread_told, memory_told, IsListed, list_told, core_told, queue_told}
use Rattle.kobj_codec.proofs.Heads.{thread_head, ring_head, connection_head, notification_head, memory_head, scheduler_head}
use Rattle.kobj_codec.proofs.Parts.{same_thread, same_connection, same_notification, same_ring, same_scheduler}

-- Parts.

same_cap : {o p r q : ℕ} → o ≡ p → r ≡ q
    → ◌≡◌ {A = Option Cap} (Some (record { object = o; rights = r })) (Some (record { object = p; rights = q }))
same_cap a b = rw (a, b) refl

slot_only : (a b : Option Cap) → IfSome a IsCap → IfSome b IsCap → slot_number a ≡ slot_number b → a ≡ b
slot_only None None h k e = refl
slot_only None (Some b) h k e = absurd (omega arith)
slot_only (Some a) None h k e = absurd (omega arith)
slot_only (Some a) (Some b) h k e =
    let small = h.rights in let other = k.rights in
    let o : a.object ≡ b.object = omega (arith, small, other, e) in
    same_cap o (omega (arith, e, o))

state_only : (s t : ThreadState) → state_number s ≡ state_number t → about s ≡ about t → s ≡ t
state_only Ready Ready n a = refl
state_only (Running x) (Running y) n a = ap Running a
state_only (Waiting x) (Waiting y) n a = ap Waiting a
state_only (Calling x) (Calling y) n a = ap Calling a
state_only (Served x) (Served y) n a = ap Served a
state_only (Serving x) (Serving y) n a = ap Serving a
state_only (Stopped x) (Stopped y) n a = ap Stopped a
state_only s t n a = absurd (omega arith)

same_region : {a b c d e p q r s t : ℕ} → a ≡ p → b ≡ q → c ≡ r → d ≡ s → e ≡ t
    → ◌≡◌ {A = Option Region} (Some (record { base = a; count = b; first = c; memory = d; rights = e }))
    (Some (record { base = p; count = q; first = r; memory = s; rights = t }))
same_region a b c d e = rw (a, b, c, d, e) refl

region_only : (a b : Option Region) → IfSome a IsRegion → IfSome b IsRegion
    → region_word a ≡ region_word b → a ≡ b
region_only None None h k e = refl
region_only None (Some b) h k e = absurd (omega arith)
region_only (Some a) None h k e = absurd (omega arith)
region_only (Some a) (Some b) h k e =
    let p1 = h.within_addresses in let q1 = k.within_addresses in
    let p2 = h.within_memory in let q2 = k.within_memory in
    let p3 = h.some_page in let q3 = k.some_page in
    let p4 = h.known_rights in let q4 = k.known_rights in
    let m = h.known_memory in let n = k.known_memory in
    let base : a.base ≡ b.base = omega (arith, e, p1, q1, p3, q3) in
    let count : a.count ≡ b.count = omega (arith, e, base, p2, q2, p3, q3) in
    let first : a.first ≡ b.first = omega (arith, e, base, count, p2, q2, p3, q3) in
    let memory : a.memory ≡ b.memory = omega (arith, e, base, count, first, m, n) in
    let rights : a.rights ≡ b.rights = omega (arith, e, base, count, first, memory, p4, q4) in
    same_region base count first memory rights

mark_only : (a b : Bool) → mark a ≡ mark b → a ≡ b
mark_only true true e = refl
mark_only false false e = refl
mark_only true false e = absurd (omega arith)
mark_only false true e = absurd (omega arith)

same_page : {p q : ℕ} {a b : Bool} → p ≡ q → a ≡ b
    → ◌≡◌ {A = MemPage} (record { page = p; fresh = a }) (record { page = q; fresh = b })
same_page e f = rw (e, f) refl

page_only : (a b : MemPage) → IsPage a → IsPage b → page_number (Some a) ≡ page_number (Some b) → a ≡ b
page_only a b h k e =
    let s = mark_small a.fresh in let t = mark_small b.fresh in
    let m : mark a.fresh ≡ mark b.fresh = omega (arith, h, k, e, s, t) in
    same_page (omega (arith, e, m)) (mark_only a.fresh b.fresh m)

client_only : (a b : Option ℕ) → client_number a ≡ client_number b → a ≡ b
client_only None None e = refl
client_only None (Some b) e = absurd (omega arith)
client_only (Some a) None e = absurd (omega arith)
client_only (Some a) (Some b) e = let s : a ≡ b = omega (arith, e) in ap (λ (c : ℕ). Some c) s

same_pair : {a b c d : ℕ} → a ≡ b → c ≡ d → ◌≡◌ {A = Option (ℕ × ℕ)} (Some (a, c)) (Some (b, d))
same_pair e f = rw (e, f) refl

core_only : (a b : Option (ℕ × ℕ)) → IfSome a IsOccupant → IfSome b IsOccupant → core_word a ≡ core_word b → a ≡ b
core_only None None h k e = refl
core_only None (Some b) h k e = absurd (omega arith)
core_only (Some a) None h k e = absurd (omega arith)
core_only (Some a) (Some b) h k e =
    let t : a.0 ≡ b.0 = omega (arith, h.0, h.2, k.0, k.2, e) in
    same_pair t (omega (arith, h.2, k.2, e, t))

-- Lists.

-- lists that have the same at each index
same_gets : {X : Type 0} (xs ys : List X) → ((j : ℕ) → slice_get xs j ≡ slice_get ys j) → xs ≡ ys
same_gets [] [] same = refl
same_gets [] (y ∷ ys) same = let none = same 0 in cc
same_gets (x ∷ xs) [] same = let none = same 0 in cc
same_gets (x ∷ xs) (y ∷ ys) same =
    let first = same 0 in
    let rest = same_gets xs ys (λ j. same (suc j)) in
    let here : x ≡ y = cc in
    ap (λ z. z ∷ xs) here ∙ ap (λ zs. y ∷ zs) rest

-- behind its end a list has nothing
get_past : {X : Type 0} (xs : List X) (j : ℕ) → length xs ≤ j → slice_get xs j ≡ None
get_past [] j past = refl
get_past (x ∷ xs) zero past = absurd (omega arith)
get_past (x ∷ xs) (suc j) past = get_past xs j (omega arith)

list_only : (words : ℕ → ℕ) (first : ℕ) (xs ys : List ℕ) → IsList xs → IsList ys → IsListed words first xs
    → IsListed words first ys → xs ≡ ys
list_only words first xs ys h k r s =
    let len : length xs ≡ length ys = sym (r.word 0 (omega arith)) ∙ s.word 0 (omega arith) in
    let most = h.most in
    let told : (j : ℕ) → j < length xs → slice_index xs j ≡ slice_index ys j = λ j lt.
    sym (list_told first xs h r j (omega (arith, lt, most))) ∙ list_told first ys k s j (omega (arith, lt, most)) in
    same_number_lists xs ys len told

-- Kinds.

group_only : {words : ℕ → ℕ} (a b : Group) → IsGroupRec a → IsGroupRec b → IsRecord words (objs.Group a)
    → IsRecord words (objs.Group b) → a ≡ b
group_only a b h k r s =
    let sizes = h.size in
    ap (λ (slots : List (Option Cap)). record { slots = slots }) (ext_get_or None a.slots b.slots (sizes ∙ sym k.size) (λ j lt.
    let same = sym (group_told a h r j (omega (arith, lt, sizes))) ∙ group_told b k s j (omega (arith, lt, sizes)) in
    sym (cap_here a j) ∙ slot_only (cap_at a j) (cap_at b j) (h.slots j) (k.slots j) same ∙ cap_here b j))

register_only : {words : ℕ → ℕ} (a b : Thread) → IsThread a → IsThread b → IsRecord words (objs.Thread a)
    → IsRecord words (objs.Thread b)
    → (j : ℕ) → j < length a.x → slice_index a.x j ≡ slice_index b.x j
register_only a b h k r s zero lt = h.first ∙ sym k.first
register_only a b h k r s (suc j) lt =
    let sizes = h.registers in
    sym (half_of_register a (suc j) (omega arith)) ∙ sym (thread_told a h r (suc j) (omega (arith, lt, sizes)))
    ∙ thread_told b k s (suc j) (omega (arith, lt, sizes)) ∙ half_of_register b (suc j) (omega arith)

thread_only : {words : ℕ → ℕ} (a b : Thread) → IsThread a → IsThread b → IsRecord words (objs.Thread a)
    → IsRecord words (objs.Thread b) → a ≡ b
thread_only a b h k r s =
    let x = thread_head a h r in
    let y = thread_head b k s in
    same_thread (sym x.group ∙ y.group) (sym x.space ∙ y.space) (state_only a.state b.state (sym x.number ∙ y.number) (sym x.about_is ∙ y.about_is))
    (sym (thread_told a h r 0 (omega arith)) ∙ thread_told b k s 0 (omega arith))
    (same_number_lists a.x b.x (h.registers ∙ sym k.registers) (register_only a b h k r s))

space_only : {words : ℕ → ℕ} (a b : Space) → IsSpaceRec a → IsSpaceRec b → IsRecord words (objs.Space a)
    → IsRecord words (objs.Space b) → a ≡ b
space_only a b h k r s =
    let xs = a.regions.items in let ys = b.regions.items in
    let most = h.most in let other = k.most in
    ap (λ (l : List Region). record { regions = record { items = l } }) (same_gets xs ys (λ j. elim (cases_lt j SPACE_REGIONS) [
      | inl lt ↦ region_only (slice_get xs j) (slice_get ys j) (gets_all IsRegion xs h.space.regions j) (gets_all IsRegion ys k.space.regions j)
          (sym (r.behind j (omega arith)) ∙ s.behind j (omega arith))
      | inr ge ↦ get_past xs j (omega (arith, ge, most)) ∙ sym (get_past ys j (omega (arith, ge, other)))
    ]))

memory_only : {words : ℕ → ℕ} (a b : Memory) → IsMemory a → IsMemory b → IsRecord words (objs.Memory a)
    → IsRecord words (objs.Memory b) → a ≡ b
memory_only a b h k r s =
    let xs = a.pages.items in let ys = b.pages.items in
    let len : length xs ≡ length ys = sym (memory_head a h r) ∙ memory_head b k s in
    let most = h.most in
    ap (λ (l : List MemPage). record { pages = record { items = l } }) (ext_get_or no_page xs ys len (λ j lt.
    let there : j < length ys = omega (arith, lt, len) in
    let same : page_number (slice_get xs j) ≡ page_number (slice_get ys j) =
    sym (memory_told a h r j (omega (arith, lt, most))) ∙ memory_told b k s j (omega (arith, lt, most)) in
    page_only (get_or xs j no_page) (get_or ys j no_page) (h.pages j no_page lt) (k.pages j no_page there)
    (ap page_number (sym (slice_get-get_or xs j no_page lt)) ∙ same ∙ ap page_number (slice_get-get_or ys j no_page there))))

connection_only : {words : ℕ → ℕ} (a b : ConnectionRec) → IsConnection a → IsConnection b
    → IsRecord words (objs.Connection a) → IsRecord words (objs.Connection b) → a ≡ b
connection_only {words} a b h k r s =
    let x = connection_head a h r in
    let y = connection_head b k s in
    same_connection (sym x.server ∙ y.server) (client_only a.client b.client (sym x.client ∙ y.client))
    (list_only words 1 a.clients.items b.clients.items h.clients k.clients
    (record { word = λ i lt. r.behind i (omega arith) }) (record { word = λ i lt. s.behind i (omega arith) }))

notification_only : {words : ℕ → ℕ} (a b : NotificationRec) → IsNotification a → IsNotification b
    → IsRecord words (objs.Notification a) → IsRecord words (objs.Notification b) → a ≡ b
notification_only {words} a b h k r s =
    same_notification (sym (notification_head a r) ∙ notification_head b s)
    (list_only words 1 a.waiters.items b.waiters.items h.waiters k.waiters
    (record { word = λ i lt. r.behind i (omega arith) }) (record { word = λ i lt. s.behind i (omega arith) }))

ring_only : {words : ℕ → ℕ} (a b : Ring) → IsRing a → IsRing b → IsRecord words (objs.Ring a)
    → IsRecord words (objs.Ring b) → a ≡ b
ring_only a b h k r s =
    let x = ring_head a h r in
    let y = ring_head b k s in
    let count = sym (r.behind 0 (omega arith)) ∙ s.behind 0 (omega arith) in
    let page = sym (r.behind 1 (omega arith)) ∙ s.behind 1 (omega arith) in
    same_ring (sym x.channel ∙ y.channel) (sym x.fresh ∙ y.fresh) count page

scheduler_only : {words : ℕ → ℕ} (a b : Scheduler) → IsScheduler a → IsScheduler b
    → IsRecord words (objs.Scheduler a) → IsRecord words (objs.Scheduler b) → a ≡ b
scheduler_only {words} a b h k r s =
    let sizes = h.size in
    same_scheduler (sym (scheduler_head a h r) ∙ scheduler_head b k s)
    (ext_get_or None a.running b.running (sizes ∙ sym k.size) (λ core lt.
    let low : core < CORES = omega (arith, lt, sizes) in
    core_only (slice_index_or a.running core None) (slice_index_or b.running core None) (h.occupants core) (k.occupants core)
    (sym (core_told a r core low) ∙ core_told b s core low)))
    (list_only words (1 + CORES) a.queue.items b.queue.items h.queue k.queue (queue_told a r) (queue_told b s))

abbrev kind_of : Obj → ℕ
kind_of (objs.Group g) = 1
kind_of (objs.Thread t) = 2
kind_of (objs.Space s) = 3
kind_of (objs.Memory m) = 4
kind_of (objs.Connection c) = 5
kind_of (objs.Notification n) = 6
kind_of (objs.Ring r) = 7
kind_of (objs.Scheduler s) = 8

kind_is : (o : Obj) → head_word o % 256 ≡ kind_of o
kind_is (objs.Group g) = omega arith
kind_is (objs.Thread t) = omega arith
kind_is (objs.Space s) = omega arith
kind_is (objs.Memory m) = omega arith
kind_is (objs.Connection c) = omega arith
kind_is (objs.Notification n) = omega arith
kind_is (objs.Ring r) = omega arith
kind_is (objs.Scheduler s) = omega arith

of_one_kind : {words : ℕ → ℕ} (a b : Obj) → kind_of a ≡ kind_of b → IsObj a → IsObj b → IsRecord words a
    → IsRecord words b → a ≡ b
of_one_kind (objs.Group a) (objs.Group b) e h k r s = ap objs.Group (group_only a b h k r s)
of_one_kind (objs.Thread a) (objs.Thread b) e h k r s = ap objs.Thread (thread_only a b h k r s)
of_one_kind (objs.Space a) (objs.Space b) e h k r s = ap objs.Space (space_only a b h k r s)
of_one_kind (objs.Memory a) (objs.Memory b) e h k r s = ap objs.Memory (memory_only a b h k r s)
of_one_kind (objs.Connection a) (objs.Connection b) e h k r s = ap objs.Connection (connection_only a b h k r s)
of_one_kind (objs.Notification a) (objs.Notification b) e h k r s = ap objs.Notification (notification_only a b h k r s)
of_one_kind (objs.Ring a) (objs.Ring b) e h k r s = ap objs.Ring (ring_only a b h k r s)
of_one_kind (objs.Scheduler a) (objs.Scheduler b) e h k r s = ap objs.Scheduler (scheduler_only a b h k r s)
of_one_kind a b e h k r s = absurd (omega arith)

-- Words are the record of one object at most.
pub record_only : {words : ℕ → ℕ} {a b : Obj} → IsObj a → IsObj b → IsRecord words a → IsRecord words b → a ≡ b
record_only {words} {a} {b} h k r s =
    let heads : head_word a ≡ head_word b = sym r.head ∙ s.head in
    of_one_kind a b (sym (kind_is a) ∙ ap (λ (n : ℕ). n % 256) heads ∙ kind_is b) h k r s
