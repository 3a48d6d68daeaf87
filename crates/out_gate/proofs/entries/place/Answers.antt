use Rattle.std.proofs.Common.{◌≡◌, ◌∙◌, ℕ, List, ap, subst}
use Rattle.plain_model.specs.Objects.{page_of_channel}
use Rattle.call_readings.specs.Content.{Reads}
use Rattle.page_bytes.specs.Bytes.{with_bytes}
use Rattle.out_gate.specs.Entries.{entry_at, with_entry}
use Rattle.out_gate.proofs.Contents.{put_stands}
use Rattle.out_gate.proofs.entries.place.Goals as goal

pub returns-clause-stands : goal.returns-clause-stands
returns-clause-stands c =
    let a = c.args in
    put_stands a.nvm.now c.store_bytes.new.nvm a.channel a.number a.bytes.now c.requires.some c.requires.most
    (λ content reads.
    let same : with_bytes content c.from.result c.entry_at.result c.place_bytes.result ≡ with_entry content a.channel a.number a.bytes.now =
    ap (λ (page : ℕ). with_bytes content page c.entry_at.result c.place_bytes.result) c.from.ensures
    ∙ ap (λ (at : ℕ). with_bytes content (page_of_channel a.channel) at c.place_bytes.result) c.entry_at.ensures
    ∙ ap (λ (bytes : List ℕ). with_bytes content (page_of_channel a.channel) (entry_at a.number) bytes) c.place_bytes.ensures in
    subst (λ (told : ℕ → ℕ → ℕ). Reads told c.store_bytes.new.nvm) same (c.store_bytes.ensures.content content reads))
