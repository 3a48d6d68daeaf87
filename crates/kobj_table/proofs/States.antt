-- What becomes of the state of the objects.
use Rattle.std.specs.Prelude.{◌≡◌, ◌≢◌, ℕ, ◌==◌, Bool, true, false, if◌then◌else◌, List, [], Option, Some, slice_set, option_map}
use Rattle.std.proofs.Common.{refl, ap, sym, ◌∙◌}
use Rattle.std.proofs.lemmas.Bool.{eqb-true, eqb-false}
use mathlib.Core.Path.{fun_ext}
use Rattle.sls_base.specs.declared.fixed.TheConstants.{SCHEDULER}
use Rattle.link_lists.specs.Lists.{list_at}
use Rattle.ipc_note.specs.declared.lists.TheConstants.{RUN_QUEUE}
use Rattle.plain_state.specs.declared.objects.Occupant.{Occupant}
use Rattle.plain_model.specs.Objects.{Object}
use Rattle.plain_model.specs.States.{State}
use Rattle.kobj_table.specs.declared.slot.Slot.{Slot}
use Rattle.kobj_table.specs.declared.slot.Cores.{Cores}
use Rattle.kobj_table.specs.declared.objects.Objects.{Objects}
use Rattle.kobj_table.specs.Slots.{object_of, cores_of, occupant_of, has_list}
use Rattle.kobj_table.specs.Objects.{slot_at, object_at, Rest, state_of, state_with_object, state_with_at, state_with_queue, state_with_core, Puts, HasNoStrays, HasNoStraysAt, ListsAlone}
use Rattle.kobj_table.proofs.Runs.{cores_set}

-- a state of these parts
made_of : Rest → (ℕ → Option Object) → List ℕ → List (Option Occupant) → State
made_of rest objects queue cores = record { objects = objects; queue = queue; cores = cores; out = rest.out; inputs = rest.inputs }

same_parts : (rest : Rest) (objects objects' : ℕ → Option Object) (queue queue' : List ℕ) (cores cores' : List (Option Occupant)) →
    ((i : ℕ) → objects i ≡ objects' i) → queue ≡ queue' → cores ≡ cores' → made_of rest objects queue cores ≡ made_of rest objects' queue' cores'
same_parts rest objects objects' queue queue' cores cores' o q c =
    ap (λ (f : ℕ → Option Object). made_of rest f queue cores) (fun_ext o)
    ∙ ap (λ (l : List ℕ). made_of rest objects' l cores) q
    ∙ ap (λ (l : List (Option Occupant)). made_of rest objects' queue' l) c

put_by : (o n : Objects) (id : ℕ) (slot : Slot) (content : ℕ → ℕ → ℕ) (i : ℕ) (b : Bool) → (i == id) ≡ b → Puts o n id slot →
    object_at content n i ≡ (if b then object_of content slot (list_at o.links id) else object_at content o i)
put_by o n id slot content i true same p = rw (eqb-true i id same) (rw p.there (rw p.links refl))
put_by o n id slot content i false same p = rw (p.others i (eqb-false i id same)) (rw p.links refl)

-- what is put anywhere but at the scheduler's number changes what is told there alone
pub put_whole : (o n : Objects) (id : ℕ) (slot : Slot) (rest : Rest) → Puts o n id slot → id ≢ SCHEDULER →
    state_of n rest ≡ state_with_at (state_of o rest) id (object_of rest.content slot (list_at o.links id))
unfolding state_of made_of
put_whole o n id slot rest p not_one =
    same_parts rest _ _ _ _ _ _ (λ i. put_by o n id slot rest.content i (i == id) refl p)
    (ap (λ (l : List (List ℕ)). list_at l SCHEDULER) p.links)
    (ap (λ (s : Slot). cores_of s) (p.others SCHEDULER (λ same. not_one (sym same))))

pub put_state : (o n : Objects) (id : ℕ) (slot : Slot) (object : Object) (rest : Rest) → Puts o n id slot → id ≢ SCHEDULER →
    object_of rest.content slot (list_at o.links id) ≡ Some object → state_of n rest ≡ state_with_object (state_of o rest) id object
put_state o n id slot object rest p not_one e =
    put_whole o n id slot rest p not_one ∙ ap (λ (x : Option Object). state_with_at (state_of o rest) id x) e

no_stray_by : (o n : Objects) (id : ℕ) (slot : Slot) (i : ℕ) (b : Bool) → (i == id) ≡ b → Puts o n id slot → HasNoStrays o → HasNoStraysAt o slot id →
    i ≢ RUN_QUEUE → has_list (slot_at n i) ≡ false → list_at n.links i ≡ []
no_stray_by o n id slot i true same p none at not_queue no_list =
    let here = eqb-true i id same in
    rw p.links (rw here (at (rw here at not_queue) (rw (here, p.there) at no_list)))
no_stray_by o n id slot i false same p none at not_queue no_list =
    rw p.links (none i not_queue (rw (p.others i (eqb-false i id same)) at no_list))

-- what is put keeps each list of no object empty, where its own is
pub no_strays_kept : (o n : Objects) (id : ℕ) (slot : Slot) → Puts o n id slot → HasNoStrays o → HasNoStraysAt o slot id → HasNoStrays n
no_strays_kept o n id slot p none at = λ i. no_stray_by o n id slot i (i == id) refl p none at

listless : (content : ℕ → ℕ → ℕ) (slot : Slot) (a b : List ℕ) → (has_list slot ≡ true → a ≡ b) → object_of content slot a ≡ object_of content slot b
listless content Slot.Empty a b same = refl
listless content (Slot.Group group) a b same = refl
listless content (Slot.Thread thread) a b same = refl
listless content (Slot.Space space) a b same = refl
listless content (Slot.Memory memory) a b same = refl
listless content (Slot.Connection connection) a b same = rw (same refl) refl
listless content (Slot.Notification note) a b same = rw (same refl) refl
listless content (Slot.Ring ring) a b same = refl
listless content (Slot.Scheduler cores) a b same = refl

-- an object that has no list is what stands in its slot
pub same_object : (old new : Objects) (content : ℕ → ℕ → ℕ) (i : ℕ) → slot_at new i ≡ slot_at old i →
    (has_list (slot_at old i) ≡ true → list_at new.links i ≡ list_at old.links i) → object_at content new i ≡ object_at content old i
same_object old new content i slot lists = rw slot (listless content (slot_at old i) (list_at new.links i) (list_at old.links i) lists)

-- where the lists alone change, and of those that belong to an object none, the run queue may be another
pub same_but_queue : (old new : Objects) (rest : Rest) → ListsAlone old new → state_of new rest ≡ state_with_queue (state_of old rest) (list_at new.links RUN_QUEUE)
unfolding state_of made_of
same_but_queue old new rest alone =
    same_parts rest _ _ _ _ _ _ (λ i. same_object old new rest.content i (alone.slots i) (alone.lists i)) refl
    (ap (λ (s : Slot). cores_of s) (alone.slots SCHEDULER))

run_by : (o n : Objects) (old new : Cores) (content : ℕ → ℕ → ℕ) (i : ℕ) (b : Bool) → (i == SCHEDULER) ≡ b → slot_at o SCHEDULER ≡ Slot.Scheduler old →
    Puts o n SCHEDULER (Slot.Scheduler new) → object_at content n i ≡ object_at content o i
run_by o n old new content i true same was p = rw (eqb-true i SCHEDULER same) (rw p.there (rw was refl))
run_by o n old new content i false same was p = rw (p.others i (eqb-false i SCHEDULER same)) (rw p.links refl)

-- what a core runs changes that core alone
pub run_state : (o n : Objects) (old new : Cores) (core : ℕ) (running : Option (ℕ × ℕ)) (rest : Rest) → slot_at o SCHEDULER ≡ Slot.Scheduler old →
    Puts o n SCHEDULER (Slot.Scheduler new) → new.cores ≡ old.cores → new.running ≡ slice_set old.running core running →
    state_of n rest ≡ state_with_core (state_of o rest) core (option_map occupant_of running)
unfolding state_of made_of
run_state o n old new core running rest was p count runs =
    same_parts rest _ _ _ _ _ _ (λ i. run_by o n old new rest.content i (i == SCHEDULER) refl was p)
    (ap (λ (l : List (List ℕ)). list_at l SCHEDULER) p.links)
    (rw (p.there, was, count, runs) (cores_set old.cores core old.running running))

same_by : (o n : Objects) (id : ℕ) (rest : Rest) (i : ℕ) (b : Bool) → (i == id) ≡ b → ((i : ℕ) → i ≢ id → slot_at n i ≡ slot_at o i) → n.links ≡ o.links →
    object_of rest.content (slot_at n id) (list_at o.links id) ≡ object_of rest.content (slot_at o id) (list_at o.links id) → object_at rest.content n i ≡ object_at rest.content o i
same_by o n id rest i true same others links e = rw (eqb-true i id same) (rw links e)
same_by o n id rest i false same others links e = rw (others i (eqb-false i id same)) (rw links refl)

cores_by : (o n : Objects) (id : ℕ) (b : Bool) → (SCHEDULER == id) ≡ b → ((i : ℕ) → i ≢ id → slot_at n i ≡ slot_at o i) →
    cores_of (slot_at n id) ≡ cores_of (slot_at o id) → cores_of (slot_at n SCHEDULER) ≡ cores_of (slot_at o SCHEDULER)
cores_by o n id true same others e = rw (eqb-true SCHEDULER id same) e
cores_by o n id false same others e = ap (λ (s : Slot). cores_of s) (others SCHEDULER (eqb-false SCHEDULER id same))

-- a slot that stands for the same object, and runs the same on cores, changes nothing
pub same_state : (o n : Objects) (id : ℕ) (rest : Rest) → ((i : ℕ) → i ≢ id → slot_at n i ≡ slot_at o i) → n.links ≡ o.links →
    object_of rest.content (slot_at n id) (list_at o.links id) ≡ object_of rest.content (slot_at o id) (list_at o.links id) →
    cores_of (slot_at n id) ≡ cores_of (slot_at o id) → state_of n rest ≡ state_of o rest
unfolding state_of made_of
same_state o n id rest others links e cores =
    same_parts rest _ _ _ _ _ _ (λ i. same_by o n id rest i (i == id) refl others links e) (ap (λ (l : List (List ℕ)). list_at l SCHEDULER) links)
    (cores_by o n id (SCHEDULER == id) refl others cores)
