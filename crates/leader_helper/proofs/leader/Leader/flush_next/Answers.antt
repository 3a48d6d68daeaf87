use Rattle.std.specs.Prelude.{◌+◌}
use Rattle.std.proofs.Common.{subst, sym}
use Rattle.pmem_model.specs.Memory.{word_at}
use Rattle.page_store.specs.Known.{Open, Fenced}
use Rattle.version_rooms.specs.declared.rooms.Rooms.{Rooms}
use Rattle.version_rooms.specs.Rooms.{RoomsShow}
use Rattle.leader_helper.specs.declared.leader.Leader.{Leader}
use Rattle.leader_helper.specs.declared.stage.Stage.TheVariants as at
use Rattle.leader_helper.specs.Leads.{IsWriting}
use Rattle.leader_helper.specs.Turns.{IsTurn}
use Rattle.leader_helper.proofs.PageSteps.{is_moved}
use Rattle.leader_helper.proofs.Turned.{flush_turn, pages_turn}
use Rattle.leader_helper.proofs.Writing.{page_flushed, pages_fenced}
use Rattle.leader_helper.proofs.leader.Leader.flush_next.Goals as goal

pub returns-in-Some-clause-writes : goal.returns-in-Some-clause-writes
returns-in-Some-clause-writes c = λ v cont h.
    let l : Leader = record c.args.self.now { stage = at.Pages (c.in-Some.page + 1) } in
    let s = c.flush_page.new.self in
    let g = word_at c.flush_page.new.nvm in
    subst (λ (x : Rooms). IsWriting l x g v cont) (sym c.flush_page.ensures.rest)
    (page_flushed s.pages c.args.first c.in-Some.page c.requires.stage c.in-Some.ensures c.flush_page.ensures.stage c.flush_page.ensures.others
    (λ shows. subst (λ (x : Rooms). RoomsShow x g v cont Open) c.flush_page.ensures.rest (c.flush_page.ensures.shows v cont shows)) h)

pub returns-in-Some-clause-turn : goal.returns-in-Some-clause-turn
returns-in-Some-clause-turn c =
    let l : Leader = record c.args.self.now { stage = at.Pages (c.in-Some.page + 1) } in
    let r = c.args.rooms.now in
    let s = c.flush_page.new.self in
    subst (λ (x : Rooms). IsTurn c.args.self.now l r x) (sym c.flush_page.ensures.rest)
    (flush_turn c.args.self.now r s.pages c.args.first c.in-Some.page c.requires.stage c.in-Some.ensures c.flush_page.ensures.stage c.flush_page.ensures.others)

pub returns-in-Some-clause-one : goal.returns-in-Some-clause-one
returns-in-Some-clause-one c = c.flush_page.ensures.one.1 (is_moved _ c.in-Some.ensures.found)

pub returns-in-None-clause-writes : goal.returns-in-None-clause-writes
returns-in-None-clause-writes c = λ v cont h.
    let l : Leader = record c.args.self.now { stage = at.Records 0 } in
    let g = word_at c.fence_pages.new.nvm in
    subst (λ (x : Rooms). IsWriting l x g v cont) (sym c.fence_pages.ensures.same)
    (pages_fenced c.args.first c.requires.stage c.in-None.ensures
    (λ shows. subst (λ (x : Rooms). RoomsShow x g v cont Fenced) c.fence_pages.ensures.same (c.fence_pages.ensures.shows v cont shows)) h)

pub returns-in-None-clause-turn : goal.returns-in-None-clause-turn
returns-in-None-clause-turn c =
    let l : Leader = record c.args.self.now { stage = at.Records 0 } in
    let r = c.args.rooms.now in
    let led = c.requires.led in
    subst (λ (x : Rooms). IsTurn c.args.self.now l r x) (sym c.fence_pages.ensures.same)
    (pages_turn c.args.self.now r (word_at c.args.nvm.now) led.version led.contents c.args.first c.requires.stage c.in-None.ensures led.writing)
