-- The steps by which the slow form finds the objects that are reached.
use Rattle.std.proofs.Common.{◌≡◌, ◌∙◌, ℕ, suc, ◌+◌, ◌<◌, ◌&&◌, ◌||◌, Bool, List, [], ◌∷◌, length, get_or, refl, sym, ap, add-one, arith}
use Rattle.std.specs.List.{list_any}
use Rattle.plain_state.specs.Objects.{every_object}
use Rattle.plain_state.specs.States.{State}
use Rattle.plain_state.specs.Sweep.{leads_to, is_within}
use Rattle.plain_state.specs.declared.sweep.Reached.{Reached}
use Rattle.plain_state.specs.SlowSweep.{has, TellsWithin}
use Rattle.sls_base.proofs.ListTests.{any_same, range_in}

-- two tests that agree at each number that an object can have find one of it alike
pub any_object_alike : (p q : ℕ → Bool) → ((k : ℕ) → k < 256 → p k ≡ q k) → list_any p every_object ≡ list_any q every_object
unfolding every_object
any_object_alike p q same = any_same p q every_object (λ k among. let within = range_in 0 128 k among in same k (omega arith))

-- what is within one edge more, by two tests that say what is within these, and whether one of those leads to it
further : (s : State) (n i : ℕ) (here others : Bool) → here ≡ is_within s n i → others ≡ list_any (λ from. is_within s n from && leads_to (s.objects from) i) every_object →
    here || others ≡ is_within s (suc n) i
unfolding is_within
further s n i here others a b = ap (λ h. h || others) a ∙ ap (λ o. is_within s n i || o) b

-- the slow form's step is that of the plain definition
pub one_further : (r : Reached) (s : State) (n i : ℕ) (result : Bool) → i < 256 → TellsWithin r s n →
    result ≡ has r i || list_any (λ from. has r from && leads_to (s.objects from) i) every_object → result ≡ is_within s (n + 1) i
one_further r s n i result below tells is =
    is ∙ further s n i (has r i) (list_any (λ from. has r from && leads_to (s.objects from) i) every_object) (tells i below)
    (any_object_alike (λ from. has r from && leads_to (s.objects from) i) (λ from. is_within s n from && leads_to (s.objects from) i)
    (λ k small. ap (λ b. b && leads_to (s.objects k) i) (tells k small)))
    ∙ ap (λ m. is_within s m i) (sym (add-one n))

-- two tests that agree at each number of a list find one of it alike
pub any_listed_alike : (p q : ℕ → Bool) (ids : List ℕ) → ((k : ℕ) → k < length ids → p (get_or ids k 0) ≡ q (get_or ids k 0)) → list_any p ids ≡ list_any q ids
any_listed_alike p q [] same = refl
any_listed_alike p q (x ∷ xs) same =
    let first : p x ≡ q x = same 0 (omega arith) in
    let others : (k : ℕ) → k < length xs → p (get_or xs k 0) ≡ q (get_or xs k 0) = λ k below. same (suc k) (omega arith) in
    rw (first, any_listed_alike p q xs others) refl
