use Rattle.std.specs.Prelude.{◌+◌, ℕ, Bool}
use Rattle.std.proofs.Common.{◌∙◌, ap, inl, inr, refl, subst, sym}
use Rattle.pmem_model.specs.Memory.{word_at}
use Rattle.page_store.specs.Known.{Open}
use Rattle.version_rooms.specs.declared.rooms.Rooms.{Rooms}
use Rattle.version_rooms.specs.Rooms.{Contents, RoomsShow, Settles}
use Rattle.leader_helper.specs.Leads.{Applying, IsApplying, IsWriting}
use Rattle.leader_helper.specs.declared.stage.Stage.TheVariants as stages
use Rattle.leader_helper.specs.Stages.{page_phase}
use Rattle.leader_helper.specs.Turns.{turns_left}
use Rattle.leader_helper.proofs.Applies.{applies_again, is_calm}
use Rattle.leader_helper.proofs.Commits.{are_whole, is_commit, may_commit, settle_turn, shown_again, whole}
use Rattle.leader_helper.proofs.leader.Leader.settle.Goals as goal

pub returns-then-settle-clause-commits : goal.returns-then-settle-clause-commits
returns-then-settle-clause-commits c = λ f v cont calm h is next n.
    let g = word_at c.args.nvm.now in
    let phase = page_phase c.args.self.now.stage in
    let settles = subst (λ (b : Bool). Settles b c.settle.new.self g v cont next phase) c.if-settle.true
    (c.settle.ensures.settles f v cont next phase calm (may_commit h n) h.shows) in
    Applying refl settles.0 settles.1

pub returns-then-settle-clause-committed : goal.returns-then-settle-clause-committed
returns-then-settle-clause-committed c = λ f v cont calm h.
    let r = c.args.rooms.now in
    let told = c.settle.ensures.committed f v cont (whole r cont) (page_phase c.args.self.now.stage) calm (may_commit h (are_whole r cont)) h.shows in
    (λ some. told.0 c.if-settle.true, λ other. refl)

pub returns-then-settle-clause-applies : goal.returns-then-settle-clause-applies
returns-then-settle-clause-applies c = λ f v saved pages calm h.
    let r = c.args.rooms.now in
    let cont : Contents = record { saved = saved; objects = saved.objects; pages = pages } in
    let at = is_calm h in
    let shows = c.calm.ensures r f (word_at c.args.nvm.now) v cont Open at.0 calm (at.1 saved.objects) in
    absurd ((c.settle.ensures.committed f v cont (whole r cont) Open calm (inl at.0) (at.1 saved.objects)).0 c.if-settle.true shows.version.durable)

pub returns-then-settle-clause-left : goal.returns-then-settle-clause-left
returns-then-settle-clause-left c = λ f v cont calm h.
    let r = c.args.rooms.now in
    let l = c.args.self.now in
    elim (is_commit l.stage) [
      | inl e ↦
          settle_turn l r c.settle.new.self f v cont e (c.settle.ensures.numbers c.if-settle.true) h
          ∙ ap (λ (n : ℕ). turns_left (record l { stage = stages.Apply }) c.settle.new.self + n) (sym c.commit_turns-spared.ensures)
      | inr other ↦
          let shows = c.calm.ensures r f (word_at c.args.nvm.now) v cont (page_phase l.stage) (h.rest other) calm h.shows in
          absurd ((c.settle.ensures.committed f v cont (whole r cont) (page_phase l.stage) calm (inl (h.rest other)) h.shows).0 c.if-settle.true shows.version.durable)
    ]

pub returns-then-settle-clause-stages : goal.returns-then-settle-clause-stages
returns-then-settle-clause-stages c = λ f v cont calm h is.
    let r = c.args.rooms.now in
    c.settle.ensures.stages f v cont (whole r cont) (page_phase c.args.self.now.stage) calm (may_commit h (are_whole r cont)) h.shows c.if-settle.true

pub returns-else-settle-clause-writes : goal.returns-else-settle-clause-writes
returns-else-settle-clause-writes c = λ f v cont calm h.
    let r = c.args.rooms.now in
    let g = word_at c.args.nvm.now in
    let phase = page_phase c.args.self.now.stage in
    let same = c.settle.ensures.none c.if-settle.false in
    let shows = subst (λ (b : Bool). Settles b c.settle.new.self g v cont (whole r cont) phase) c.if-settle.false
    (c.settle.ensures.settles f v cont (whole r cont) phase calm (may_commit h (are_whole r cont)) h.shows) in
    subst (λ (x : Rooms). IsWriting c.args.self.now x g v cont) (sym same)
    (shown_again (subst (λ (x : Rooms). RoomsShow x g v cont phase) same shows) h)

pub returns-else-settle-clause-committed : goal.returns-else-settle-clause-committed
returns-else-settle-clause-committed c = λ f v cont calm h.
    let r = c.args.rooms.now in
    let told = c.settle.ensures.committed f v cont (whole r cont) (page_phase c.args.self.now.stage) calm (may_commit h (are_whole r cont)) h.shows in
    (λ some. absurd (cc), λ other. (let set = told.1 other in let clear = c.if-settle.false in absurd (cc)))

pub returns-else-settle-clause-applies : goal.returns-else-settle-clause-applies
returns-else-settle-clause-applies c = λ f v saved pages calm h.
    let r = c.args.rooms.now in
    let g = word_at c.args.nvm.now in
    let at = is_calm h in
    let same = c.settle.ensures.none c.if-settle.false in (
      refl,
      subst (λ (x : Rooms). IsApplying c.args.self.now x g v saved pages) (sym same)
          (applies_again (λ objects. c.calm.ensures r f g v (record { saved = saved; objects = objects; pages = pages }) Open at.0 calm (at.1 objects)) h),
    )
