use Rattle.std.proofs.Common.{◌∙◌, ◌+◌, ◌*◌, ℕ, List, ap, arith, slice_index}
use Rattle.kobj_codec.proofs.Heads.{connection_head}
use Rattle.kobj_codec.proofs.Parts.{same_connection}
use Rattle.kobj_codec.proofs.connection.read_connection.Goals as goal

pub returns : goal.returns
returns c = λ x i r.
    let bytes = c.to_le_bytes.ensures in
    let told = connection_head x i r in
    same_connection
    (ap (λ (bs : List ℕ). slice_index bs 1) bytes ∙ told.server)
    (c.client_of.ensures x.client i.client (ap (λ (bs : List ℕ). slice_index bs 2 + 256 * slice_index bs 3) bytes ∙ told.client))
    (c.read_list.ensures x.clients.items i.clients (λ k lt. r.behind k (omega arith)))
