-- What is inside: rings of places, and the lists that they stand for.
use Rattle.std.specs.Prelude.{◌≡◌, ◌≢◌, ℕ, zero, suc, ◌<◌, List, [], ◌∷◌, map, slice_index_or}
use Rattle.std.specs.List.{range_with_len}
use Rattle.link_lists.specs.declared.rings.RingPlace.{RingPlace}
use Rattle.link_lists.specs.declared.rings.RingPlace.TheVariants.{Node, End}
use Rattle.link_lists.specs.declared.rings.Neighbours.{Neighbours}
use Rattle.link_lists.specs.declared.rings.Rings.{Rings}
use Rattle.link_lists.specs.Lists.{list_at, IsFree, IsLinks}

-- the place is one of these nodes, or the end of one of these lists
abbrev pub IsRingPlace : ℕ → ℕ → RingPlace → Type 0
IsRingPlace nodes lists (Node n) = n < nodes
IsRingPlace nodes lists (End i) = i < lists

-- the places on both sides of a place
unfoldable pub neighbours : {N L : ℕ} → Rings N L → RingPlace → Neighbours
neighbours r (Node n) = slice_index_or r.nodes n (record { before = Node n; after = Node n })
neighbours r (End i) = slice_index_or r.ends i (record { before = End i; after = End i })

-- the place right before a place
abbrev pub place_before : {N L : ℕ} → Rings N L → RingPlace → RingPlace
place_before r p = (neighbours r p).before

-- the place right after a place
abbrev pub place_after : {N L : ℕ} → Rings N L → RingPlace → RingPlace
place_after r p = (neighbours r p).after

-- the first place came to stand right before the second, and nothing else changed
pub record Joins {N L : ℕ} (old new : Rings N L) (first second : RingPlace) : Type 0 where
  pub after_first : place_after new first ≡ second
  pub before_second : place_before new second ≡ first
  pub after_others : (p : RingPlace) → p ≢ first → place_after new p ≡ place_after old p
  pub before_others : (p : RingPlace) → p ≢ second → place_before new p ≡ place_before old p

-- the first place stands right before the second
pub record IsBeside {N L : ℕ} (r : Rings N L) (first second : RingPlace) : Type 0 where
  pub after : place_after r first ≡ second
  pub before : place_before r second ≡ first

-- these nodes stand between the two places, in this order
abbrev pub Chain : {N L : ℕ} → Rings N L → RingPlace → List ℕ → RingPlace → Type 0
Chain r start [] stop = IsBeside r start stop
Chain r start (n ∷ ns) stop = IsBeside r start (Node n) × Chain r (Node n) ns stop

-- the nodes from a place on, up to the end of a list; at most so many
abbrev pub nodes_from : {N L : ℕ} → Rings N L → ℕ → RingPlace → List ℕ
nodes_from r zero p = []
nodes_from r (suc most) (Node n) = n ∷ nodes_from r most (place_after r (Node n))
nodes_from r (suc most) (End i) = []

-- the lists, each from the place after its end on
abbrev pub lists_of : {N L : ℕ} → Rings N L → List (List ℕ)
lists_of {N} {L} r = map (λ i. nodes_from r N (place_after r (End i))) (range_with_len 0 L)

-- the rings stand for these lists: each list is a ring through its end, and a node in no list is alone
pub record StandsFor {N L : ℕ} (r : Rings N L) (links : List (List ℕ)) : Type 0 where
  pub shape : IsLinks N L links
  pub rings : (i : ℕ) → i < L → Chain r (End i) (list_at links i) (End i)
  pub alone : (n : ℕ) → n < N → IsFree links n → place_after r (Node n) ≡ Node n
