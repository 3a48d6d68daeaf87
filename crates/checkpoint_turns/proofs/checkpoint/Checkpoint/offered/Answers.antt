-- What is offered is the next entry that the saved copy has put and that the device hasn't accepted.
use Rattle.std.proofs.Common.{ℕ, ap, ◌∙◌}
use Rattle.plain_model.specs.Play.{next_bytes}
use Rattle.sls_base.specs.declared.entry.Entry.{Entry}
use Rattle.checkpoint_turns.proofs.DeviceOffers.{has_output, more_saved, next_stands, none_saved, page_home}
use Rattle.checkpoint_turns.proofs.checkpoint.Checkpoint.offered.Goals as goal

pub returns-then-accepted-channel-clause-none : goal.returns-then-accepted-channel-clause-none
returns-then-accepted-channel-clause-none c = λ w is.
    let k = c.args.self.now in
    let accepted = c.args.accepted.now in
    let m = c.args.nvm.now in
    let h = has_output k accepted m w c.worlds_are_sound.ensures.kept is in
    none_saved k accepted m w h c.args.channel c.requires.channel c.if-accepted-channel.true

pub offer-requires-clause-home : goal.offer-requires-clause-home
offer-requires-clause-home c =
    let k = c.args.self.now in
    let accepted = c.args.accepted.now in
    let m = c.args.nvm.now in
    let w = c.requires.in_flight.world in
    let h = has_output k accepted m w c.worlds_are_sound.ensures.kept c.requires.in_flight.is_of in
    page_home k accepted m w h c.args.channel c.requires.channel

pub offer-requires-clause-there : goal.offer-requires-clause-there
offer-requires-clause-there c =
    let k = c.args.self.now in
    let accepted = c.args.accepted.now in
    let m = c.args.nvm.now in
    let channel = c.args.channel in
    let below = c.requires.channel in
    let w = c.requires.in_flight.world in
    let h = has_output k accepted m w c.worlds_are_sound.ensures.kept c.requires.in_flight.is_of in
    let offered = more_saved k accepted m w h channel below c.if-accepted-channel.false in (
      next_bytes w channel,
      next_stands k accepted m w h channel below offered c.waiting_entries_stand.ensures.offered,
    )

pub returns-clause-some : goal.returns-clause-some
returns-clause-some c = λ w is.
    let k = c.args.self.now in
    let accepted = c.args.accepted.now in
    let m = c.args.nvm.now in
    let channel = c.args.channel in
    let below = c.requires.channel in
    let h = has_output k accepted m w c.worlds_are_sound.ensures.kept is in
    let offered = more_saved k accepted m w h channel below c.if-accepted-channel.false in
    let stands = next_stands k accepted m w h channel below offered c.waiting_entries_stand.ensures.offered in
    let made : ℕ → Entry = λ number. record { number = number; bytes = record { items = next_bytes w channel } } in
    let told = h.accepted_are channel below in
    (offered, c.offer.ensures (next_bytes w channel) stands ∙ ap made told)
