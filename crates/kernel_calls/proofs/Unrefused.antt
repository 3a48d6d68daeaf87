-- What is known of a call that isn't refused.
use Rattle.std.specs.Prelude.{◌≡◌, ◌≢◌, ℕ, ◌||◌, not, Bool, true, false, List, [], ◌∷◌, None, is_none}
use Rattle.std.specs.List.{list_any}
use Rattle.std.proofs.Common.{refl}
use Rattle.sls_base.specs.declared.thread.Thread.{Thread as ThreadRecord}
use Rattle.plain_state.specs.declared.calls.Call.{Call}
use Rattle.plain_state.specs.declared.calls.Need.{Need}
use Rattle.plain_state.specs.declared.calls.Refusal.{Refusal}
use Rattle.plain_state.specs.declared.calls.Refusal.TheVariants.{BadCall, NoCap, WrongKind, NoRight}
use Rattle.plain_state.specs.Objects.{is_kind, includes}
use Rattle.plain_state.specs.States.{State}
use Rattle.plain_state.specs.Worlds.{World}
use Rattle.plain_state.specs.Calls.{needs, cap_named, named, rights_of_cap}
use Rattle.plain_state.specs.CallRefusals.{is_unmet, is_refused_besides, refusal_of}

-- The laws of a call that isn't refused, by what it needs and by what is asked besides.

abbrev pub MeetsNeeds : Type 0
MeetsNeeds = (w : World) (id : ℕ) (thread : ThreadRecord) (call : Call) (refusal : Refusal) → refusal ≢ BadCall → refusal_of w id thread call ≡ None →
    list_any (is_unmet w.now thread refusal) (needs thread call) ≡ false

abbrev pub MeetsBesides : Type 0
MeetsBesides = (w : World) (id : ℕ) (thread : ThreadRecord) (call : Call) (refusal : Refusal) → refusal ≢ BadCall → refusal_of w id thread call ≡ None →
    is_refused_besides w id thread call refusal ≡ false

-- a thing that the call needs is there: a capability, to an object of the kind, with the rights
pub record IsMet (s : State) (thread : ThreadRecord) (need : Need) : Type 0 where
  pub cap : is_none (cap_named s thread need.argument) ≡ false
  pub kind : is_kind need.kind (named s thread need.argument) ≡ true
  pub rights : includes (rights_of_cap (cap_named s thread need.argument)) need.rights ≡ true

pub or_false : (a b : Bool) → (a || b) ≡ false → (a ≡ false) × (b ≡ false)
or_false true b e = absurd (cc)
or_false false b e = (refl, e)

pub not_false : (a : Bool) → not a ≡ false → a ≡ true
not_false true e = refl
not_false false e = absurd (cc)

-- each need of a list is met
abbrev pub AllMet : State → ThreadRecord → List Need → Type 0
AllMet s thread [] = Unit {0}
AllMet s thread (need ∷ rest) = IsMet s thread need × AllMet s thread rest

all_met : (s : State) (thread : ThreadRecord) (all : List Need) →
    list_any (is_unmet s thread NoCap) all ≡ false → list_any (is_unmet s thread WrongKind) all ≡ false → list_any (is_unmet s thread NoRight) all ≡ false → AllMet s thread all
all_met s thread [] caps kinds rights = tt
all_met s thread (need ∷ rest) caps kinds rights =
    let cap = or_false (is_unmet s thread NoCap need) (list_any (is_unmet s thread NoCap) rest) caps in
    let kind = or_false (is_unmet s thread WrongKind need) (list_any (is_unmet s thread WrongKind) rest) kinds in
    let right = or_false (is_unmet s thread NoRight need) (list_any (is_unmet s thread NoRight) rest) rights in
    (record { cap = cap.0; kind = not_false _ kind.0; rights = not_false _ right.0 }, all_met s thread rest cap.1 kind.1 right.1)

-- so all that it needs is met
pub met_by : MeetsNeeds → (w : World) (id : ℕ) (thread : ThreadRecord) (call : Call) → refusal_of w id thread call ≡ None → AllMet w.now thread (needs thread call)
met_by law w id thread call e =
    all_met w.now thread (needs thread call) (law w id thread call NoCap (λ x. cc) e) (law w id thread call WrongKind (λ x. cc) e) (law w id thread call NoRight (λ x. cc) e)
