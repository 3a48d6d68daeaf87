use Rattle.std.proofs.Common.{◌≡◌, ◌∙◌, ◌≤◌, ℕ, List, length, ap, arith}
use Rattle.std.proofs.lemmas.List.{take_all}
use Rattle.sls_base.specs.declared.entry.Entry.{Entry}
use Rattle.plain_model.specs.Objects.{page_of_channel}
use Rattle.out_gate.specs.Entries.{entry_at}
use Rattle.out_gate.proofs.Places.{first_of}
use Rattle.out_gate.proofs.entries.offer.Goals as goal

pub returns : goal.returns
returns c entry stands =
    let content = stands.content in
    let byte = content (page_of_channel c.args.channel) in
    let has = stands.there in
    let count : c.byte_on_page-count.result ≡ length entry =
    c.byte_on_page-count.ensures content stands.reads ∙ ap (λ (page : ℕ). content page c.entry_at-at.result) c.from.ensures ∙ ap byte c.entry_at-at.ensures ∙ first_of byte (entry_at c.args.number) 7 (length entry) has.size has.most in
    let all : length entry ≤ c.loop-k.k = omega arith in
    let items : c.loop-k.bytes.items ≡ entry = c.loop-k.invariant.first entry stands ∙ take_all c.loop-k.k entry all in
    let made : List ℕ → Entry = λ l. record { number = c.args.number; bytes = record { items = l } } in
    ap made items
