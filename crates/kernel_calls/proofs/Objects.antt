-- Changes of objects, one after another.
use Rattle.std.specs.Prelude.{◌≡◌, ◌≢◌, ℕ, ◌==◌, Bool, true, false, if◌then◌else◌, List, [], ◌∷◌, Option, Some, is_some}
use Rattle.std.proofs.Common.{refl, ap, sym, ◌∙◌}
use Rattle.std.proofs.lemmas.Bool.{eqb-true, eqb-false}
use mathlib.Core.Path.{fun_ext}
use Rattle.link_lists.specs.Lists.{list_at}
use Rattle.plain_state.specs.Objects.{Object, page_numbers}
use Rattle.plain_state.specs.States.{with_object}
use Rattle.plain_state.specs.Effects.{Change}
use Rattle.plain_state.specs.Ticks.{with_changes}
use Rattle.kobj_table.specs.declared.objects.Objects.{Objects}
use Rattle.kobj_table.specs.declared.slot.Slot.{Slot}
use Rattle.kobj_table.specs.Slots.{object_of}
use Rattle.kobj_table.specs.Objects.{object_at, Puts}

given_by : (objects now : ℕ → Option Object) (id : ℕ) (object : Object) (i : ℕ) (b : Bool) → (i == id) ≡ b → now id ≡ Some object →
    (i ≢ id → now i ≡ objects i) → now i ≡ (if b then Some object else objects i)
given_by objects now id object i true same here others = rw (eqb-true i id same) here
given_by objects now id object i false same here others = others (eqb-false i id same)

-- one object got a value, and the others are as before
pub given : (objects now : ℕ → Option Object) (id : ℕ) (object : Object) → now id ≡ Some object → ((i : ℕ) → i ≢ id → now i ≡ objects i) →
    (i : ℕ) → now i ≡ with_object objects id object i
given objects now id object here others i = given_by objects now id object i (i == id) refl here (others i)

-- where an object is put, the plain object is there, and all others are as they were
pub put_gives : (content : ℕ → ℕ → ℕ) (o n : Objects) (id : ℕ) (slot : Slot) (object : Object) → Puts o n id slot →
    object_of content slot (list_at o.links id) ≡ Some object → (i : ℕ) → object_at content n i ≡ with_object (object_at content o) id object i
put_gives content o n id slot object p is = given (object_at content o) (object_at content n) id object
    (rw p.there (rw p.links is)) (λ i other. rw (p.others i other) (rw p.links refl))

-- two objects got values, one after the other
pub both_given : (objects mid now : ℕ → Option Object) (id id' : ℕ) (object object' : Object) → ((i : ℕ) → mid i ≡ with_object objects id object i) →
    ((i : ℕ) → now i ≡ with_object mid id' object' i) → (i : ℕ) → now i ≡ with_object (with_object objects id object) id' object' i
both_given objects mid now id id' object object' first second i =
    second i ∙ ap (λ (f : ℕ → Option Object). with_object f id' object' i) (fun_ext first)

-- What is told of an object for the numbers in use: whether it is there, and the numbers of its pages.
abbrev pub told : Option Object → Bool × List ℕ
told o = (is_some o, page_numbers o)

-- each object that changes tells the same as before
abbrev pub AllTold : (ℕ → Option Object) → List Change → Type 0
AllTold objects [] = Unit {0}
AllTold objects (change ∷ changes) = (told (Some change.object) ≡ told (objects change.id)) × AllTold objects changes

told_by : (objects now : ℕ → Option Object) (id : ℕ) (object : Object) (i : ℕ) (b : Bool) → (i == id) ≡ b → told (Some object) ≡ told (objects id) →
    told (now i) ≡ told (objects i) → told (if b then Some object else now i) ≡ told (objects i)
told_by objects now id object i true same here before = here ∙ ap (λ (j : ℕ). told (objects j)) (sym (eqb-true i id same))
told_by objects now id object i false same here before = before

told_kept : (objects now : ℕ → Option Object) (changes : List Change) → AllTold objects changes → ((i : ℕ) → told (now i) ≡ told (objects i)) →
    (i : ℕ) → told (with_changes now changes i) ≡ told (objects i)
told_kept objects now [] all before i = before i
told_kept objects now (change ∷ changes) all before i =
    told_kept objects (with_object now change.id change.object) changes all.1
    (λ j. told_by objects now change.id change.object j (j == change.id) refl all.0 (before j)) i

-- then so does every object
pub all_told : (objects : ℕ → Option Object) (changes : List Change) → AllTold objects changes → (i : ℕ) → told (with_changes objects changes i) ≡ told (objects i)
all_told objects changes all = told_kept objects objects changes all (λ i. refl)

same_by : (objects : ℕ → Option Object) (id : ℕ) (object : Object) (i : ℕ) (b : Bool) → (i == id) ≡ b → objects id ≡ Some object → (if b then Some object else objects i) ≡ objects i
same_by objects id object i true same there = sym (ap objects (eqb-true i id same) ∙ there)
same_by objects id object i false same there = refl

-- an object that gets the value that it has
pub same_given : (objects : ℕ → Option Object) (id : ℕ) (object : Object) (i : ℕ) → objects id ≡ Some object → with_object objects id object i ≡ objects i
same_given objects id object i there = same_by objects id object i (i == id) refl there
