use Rattle.page_bytes.proofs.Unseen.{ring_unshown}
use Rattle.page_bytes.proofs.laws.pages_of_rings_are_apart.Goals as goal

pub returns : goal.returns
returns c objects rest space right at id channel page apart sees stored ring = ring_unshown objects rest space right at id channel page apart sees stored ring
