use Rattle.std.proofs.Common.{◌≡◌, ◌+◌, ℕ, arith, subst, sym}
use Rattle.pmem_layout.specs.Places.{frame_at}
use Rattle.pmem_layout.specs.Owners.{Pages, owner}
use Rattle.version_rooms.proofs.laws.burst_on_page.Goals as goal

pub returns : goal.returns
returns c = λ f g frame at count value burst.
    c.owners_are_apart.ensures.burst Pages f g _ count value burst (λ j lt.
    let same : frame_at frame + at + j ≡ frame_at frame + (at + j) = omega arith in
    subst (λ (word : ℕ). owner word ≡ Pages) (sym same) (c.owners.ensures.frame frame (at + j)))
