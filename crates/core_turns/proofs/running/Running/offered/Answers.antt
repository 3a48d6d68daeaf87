-- What is offered is the next entry that the saved copy has put and that the device hasn't accepted.
use Rattle.std.proofs.Common.{ℕ, ap, ◌∙◌}
use Rattle.plain_model.specs.Play.{next_bytes}
use Rattle.sls_base.specs.declared.entry.Entry.{Entry}
use Rattle.core_turns.proofs.Offers.{more_saved, next_stands}
use Rattle.core_turns.proofs.running.Running.offered.Goals as goal

pub offer-requires-clause-there : goal.offer-requires-clause-there
offer-requires-clause-there c =
    let k = c.args.self.now in
    let accepted = c.args.accepted.now in
    let m = c.args.nvm.now in
    let channel = c.args.channel in
    let below = c.requires.channel in
    let w = c.requires.runs.world in
    let h = c.requires.runs.runs in
    let offered = more_saved k accepted m w h channel below c.if-accepted-channel.false in
    let law = c.waiting_entries_stand.ensures.offered in (
      next_bytes w channel,
      next_stands k accepted m w h channel below offered (λ content out part entries.
          law content w out channel below part offered entries),
    )

pub returns-clause-some : goal.returns-clause-some
returns-clause-some c = λ w h.
    let k = c.args.self.now in
    let accepted = c.args.accepted.now in
    let m = c.args.nvm.now in
    let channel = c.args.channel in
    let below = c.requires.channel in
    let offered = more_saved k accepted m w h channel below c.if-accepted-channel.false in
    let law = c.waiting_entries_stand.ensures.offered in
    let stands =
    next_stands k accepted m w h channel below offered (λ content out part entries.
    law content w out channel below part offered entries) in
    let made : ℕ → Entry = λ number. record { number = number; bytes = record { items = next_bytes w channel } } in
    let told = h.holds.attached.accepted channel below in
    (offered, c.offer.ensures (next_bytes w channel) stands ∙ ap made told)
