use Rattle.std.proofs.Common.{◌≡◌, ◌∙◌, ap, sym, refl, false}
use Rattle.std.specs.Prelude.{◌||◌, ◌==◌}
use Rattle.kobj_table.specs.Objects.{state_of}
use Rattle.call_readings.specs.Need.{has_page}
use Rattle.call_readings.proofs.Reached.{reaches_is, stores_is, or_none, or_three}
use Rattle.call_readings.proofs.need.Need.add_reach.Goals as goal

pub returns-in-Nothing-clause-touched : goal.returns-in-Nothing-clause-touched
unfolding state_of
returns-in-Nothing-clause-touched c rest e page is =
    let s = state_of c.args.objects.now rest in
    let r = rw c.in-Nothing.is at is in
    rw (reaches_is s e page _ _ _ r) (sym (or_none (has_page c.args.self.now.touched.items page)))

pub returns-in-Nothing-clause-stored : goal.returns-in-Nothing-clause-stored
unfolding state_of
returns-in-Nothing-clause-stored c rest e page is =
    let s = state_of c.args.objects.now rest in
    let r = rw c.in-Nothing.is at is in
    rw (stores_is s e page _ _ _ r, c.requires.stored) refl

pub returns-in-Loads-clause-touched : goal.returns-in-Loads-clause-touched
unfolding state_of
returns-in-Loads-clause-touched c rest e page is =
    let s = state_of c.args.objects.now rest in
    let r = rw c.in-Loads.is at is in
    let more = c.add_span.ensures.members rest.content page r.0 in
    rw (reaches_is s e page _ _ _ r.1) (more ∙ ap (λ b. has_page c.args.self.now.touched.items page || b) (sym (or_none _)))

pub returns-in-Loads-clause-stored : goal.returns-in-Loads-clause-stored
unfolding state_of
returns-in-Loads-clause-stored c rest e page is =
    let s = state_of c.args.objects.now rest in
    let r = rw c.in-Loads.is at is in
    rw (stores_is s e page _ _ _ r.1, c.requires.stored) refl

pub returns-in-Stores-clause-touched : goal.returns-in-Stores-clause-touched
unfolding state_of
returns-in-Stores-clause-touched c rest e page is =
    let s = state_of c.args.objects.now rest in
    let r = rw c.in-Stores.is at is in
    let more = c.add_span-in-Stores.ensures.members rest.content page r.0 in
    rw (reaches_is s e page _ _ _ r.1) (more ∙ ap (λ b. has_page c.args.self.now.touched.items page || b) (sym (or_none _)))

pub returns-in-Stores-clause-stored : goal.returns-in-Stores-clause-stored
unfolding state_of
returns-in-Stores-clause-stored c rest e page is =
    let s = state_of c.args.objects.now rest in
    let r = rw c.in-Stores.is at is in
    let more = c.add_span-in-Stores-2.ensures.members rest.content page r.0 in
    let old : has_page c.args.self.now.stored.items page ≡ false = rw c.requires.stored refl in
    rw (stores_is s e page _ _ _ r.1) (more ∙ rw old (sym (or_none _)))

pub returns-in-Puts-clause-touched : goal.returns-in-Puts-clause-touched
unfolding state_of
returns-in-Puts-clause-touched c rest e page is =
    let s = state_of c.args.objects.now rest in
    let r = rw c.in-Puts.is at is in
    let span = c.add_span-in-Puts.ensures.members rest.content page r.0 in
    let more = c.add_page.ensures.members page in
    let channel : c.from.result ≡ c.in-Puts.channel = c.from.ensures in
    rw (reaches_is s e page _ _ _ r.1) (more ∙ ap (λ b. b || (c.from.result == page)) span
    ∙ or_three (has_page c.args.self.now.touched.items page) _ _ ∙ rw channel refl)

pub returns-in-Puts-clause-stored : goal.returns-in-Puts-clause-stored
unfolding state_of
returns-in-Puts-clause-stored c rest e page is =
    let s = state_of c.args.objects.now rest in
    let r = rw c.in-Puts.is at is in
    let more = c.add_page-in-Puts.ensures.members page in
    let channel : c.from-in-Puts.result ≡ c.in-Puts.channel = c.from-in-Puts.ensures in
    let old : has_page c.args.self.now.stored.items page ≡ false = rw c.requires.stored refl in
    rw (stores_is s e page _ _ _ r.1) (more ∙ rw (old, channel) refl)
