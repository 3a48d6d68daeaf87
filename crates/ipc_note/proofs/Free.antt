-- Who stands in no list, before and after a thread is moved.
use Rattle.std.specs.Prelude.{◌≡◌, ◌≢◌, ℕ, List, [], ◌∷◌, Contains, Option, Some}
use Rattle.std.proofs.Common.{sym, subst, ne_eqb}
use Rattle.link_lists.specs.Lists.{list_at, IsFree, KeepsOthers}
use Rattle.link_lists.proofs.Members.{in_here}
use Rattle.ipc_note.specs.Clients.{client_beside}

-- the first of a list isn't free
pub not_first : (links : List (List ℕ)) (list first thread : ℕ) (rest : List ℕ) → list_at links list ≡ first ∷ rest → IsFree links thread → thread ≢ first
not_first links list first thread rest is free same =
    free list (subst (λ (threads : List ℕ). Contains threads thread) (sym is) (subst (λ n. Contains (first ∷ rest) n) (sym same) (in_here first rest)))

-- who isn't moved stays free
pub still_free : (old new : List (List ℕ)) (moved thread : ℕ) → KeepsOthers old new moved → thread ≢ moved → IsFree old thread → IsFree new thread
still_free old new moved thread kept other free i there = free i ((kept i thread other).0 there)

-- the client that is served is the one beside the caller, where it isn't the caller
pub not_beside : (client : Option ℕ) (served me thread : ℕ) → client ≡ Some served → served ≢ me → (Contains (client_beside client me) thread → ⊥) → thread ≢ served
not_beside client served me thread is other beside same =
    let served_is : Contains (client_beside (Some served) me) served = rw (ne_eqb served me other) (in_here served []) in
    beside (rw is (subst (λ n. Contains (client_beside (Some served) me) n) (sym same) served_is))
