-- Reading and writing the neighbours of a place.
use Rattle.std.proofs.Common.{◌≡◌, ◌≢◌, ℕ, ◌<◌, length, get_or, set, refl, ap}
use Rattle.std.proofs.lemmas.List.{get_or_default, get_or-set_same, get_or-set_other}
use Rattle.link_lists.specs.declared.rings.RingPlace.{RingPlace}
use Rattle.link_lists.specs.declared.rings.RingPlace.TheVariants.{Node, End}
use Rattle.link_lists.specs.declared.rings.Neighbours.{Neighbours}
use Rattle.link_lists.specs.declared.rings.Rings.{Rings}
use Rattle.link_lists.specs.Rings.{IsRingPlace, neighbours}

pub at_node : {N L : ℕ} (r : Rings N L) (p : RingPlace) (n : ℕ) (d : Neighbours) → p ≡ Node n → n < length r.nodes → get_or r.nodes n d ≡ neighbours r p
unfolding neighbours
at_node r p n d is within = rw is (get_or_default r.nodes n d _ within)

pub at_end : {N L : ℕ} (r : Rings N L) (p : RingPlace) (i : ℕ) (d : Neighbours) → p ≡ End i → i < length r.ends → get_or r.ends i d ≡ neighbours r p
unfolding neighbours
at_end r p i d is within = rw is (get_or_default r.ends i d _ within)

pub put_node : {N L : ℕ} (r : Rings N L) (p : RingPlace) (n : ℕ) (v : Neighbours) → p ≡ Node n → n < length r.nodes → neighbours {N = N} {L = L} (record { nodes = set r.nodes n v; ends = r.ends }) p ≡ v
unfolding neighbours
put_node r p n v is within = rw is (get_or-set_same r.nodes n v _ within)

pub put_end : {N L : ℕ} (r : Rings N L) (p : RingPlace) (i : ℕ) (v : Neighbours) → p ≡ End i → i < length r.ends → neighbours {N = N} {L = L} (record { nodes = r.nodes; ends = set r.ends i v }) p ≡ v
unfolding neighbours
put_end r p i v is within = rw is (get_or-set_same r.ends i v _ within)

others_node_at : {N L : ℕ} (r : Rings N L) (n : ℕ) (v : Neighbours) (q : RingPlace) → q ≢ Node n → neighbours {N = N} {L = L} (record { nodes = set r.nodes n v; ends = r.ends }) q ≡ neighbours r q
unfolding neighbours
others_node_at r n v (Node m) other = get_or-set_other r.nodes n m v _ (λ same. other (ap Node same))
others_node_at r n v (End i) other = refl

others_end_at : {N L : ℕ} (r : Rings N L) (i : ℕ) (v : Neighbours) (q : RingPlace) → q ≢ End i → neighbours {N = N} {L = L} (record { nodes = r.nodes; ends = set r.ends i v }) q ≡ neighbours r q
unfolding neighbours
others_end_at r i v (Node m) other = refl
others_end_at r i v (End j) other = get_or-set_other r.ends i j v _ (λ same. other (ap End same))

pub others_node : {N L : ℕ} (r : Rings N L) (p : RingPlace) (n : ℕ) (v : Neighbours) → p ≡ Node n → (q : RingPlace) → q ≢ p → neighbours {N = N} {L = L} (record { nodes = set r.nodes n v; ends = r.ends }) q ≡ neighbours r q
others_node r p n v is q other = others_node_at r n v q (rw is at other)

pub others_end : {N L : ℕ} (r : Rings N L) (p : RingPlace) (i : ℕ) (v : Neighbours) → p ≡ End i → (q : RingPlace) → q ≢ p → neighbours {N = N} {L = L} (record { nodes = r.nodes; ends = set r.ends i v }) q ≡ neighbours r q
others_end r p i v is q other = others_end_at r i v q (rw is at other)

-- a list of places that are alone, by what each call gave
pub alone_nodes : {N L : ℕ} (r : Rings N L) → ((n : ℕ) (d : Neighbours) → n < N → get_or r.nodes n d ≡ record { before = Node n; after = Node n }) → ((i : ℕ) (d : Neighbours) → i < L → get_or r.ends i d ≡ record { before = End i; after = End i }) → (p : RingPlace) → IsRingPlace N L p → neighbours r p ≡ record { before = p; after = p }
unfolding neighbours
alone_nodes r nodes ends (Node n) within = nodes n _ within
alone_nodes r nodes ends (End i) within = ends i _ within
