use Rattle.std.proofs.Common.{inl, inr, ◌∙◌, sym, refl}
use Rattle.pmem_model.specs.Words.{is_within}
use Rattle.pmem_model.specs.Memory.{word_at}
use Rattle.pmem_model.specs.Events.{write_back_calm}
use Rattle.sls_kernel.proofs.WriteBacks.{same_version, here_version, not_committed, waits, committed}
use Rattle.sls_kernel.proofs.machine.Machine.write_back.Goals as goal

pub returns-in-Some-clause-world : goal.returns-in-Some-clause-world
returns-in-Some-clause-world c = λ w s.
    let m = c.args.self.now in
    let f = word_at m.nvm in
    let g = word_at c.write_back.new.nvm in
    let event = c.write_back.ensures.words in
    committed m _ w m.stage c.in-Some.stage (waits m.stage c.in-Some.stage (sym c.resumed.ensures ∙ c.in-Some.is)) refl refl refl refl refl
    (write_back_calm f g (is_within c.args.word 1) event) (here_version f g c.args.word event c.if-word-eq-VERSION_PLACE.true)
    c.write_back.ensures.commits c.write_back.ensures.cuts s

pub returns-in_default-clause-world : goal.returns-in_default-clause-world
returns-in_default-clause-world c = λ w s.
    let m = c.args.self.now in
    let f = word_at m.nvm in
    let g = word_at c.write_back.new.nvm in
    let event = c.write_back.ensures.words in (
      tt,
      not_committed m _ w refl refl refl refl refl refl (write_back_calm f g (is_within c.args.word 1) event) (inr (sym c.resumed.ensures ∙ c.in_default.is))
          c.write_back.ensures.commits c.write_back.ensures.cuts s,
    )

pub returns-else-word-eq-VERSION_PLACE-clause-world : goal.returns-else-word-eq-VERSION_PLACE-clause-world
returns-else-word-eq-VERSION_PLACE-clause-world c = λ w s.
    let m = c.args.self.now in
    let f = word_at m.nvm in
    let g = word_at c.write_back.new.nvm in
    let event = c.write_back.ensures.words in (
      tt,
      not_committed m _ w refl refl refl refl refl refl (write_back_calm f g (is_within c.args.word 1) event)
          (inl (same_version f g c.args.word event c.if-word-eq-VERSION_PLACE.false))
          c.write_back.ensures.commits c.write_back.ensures.cuts s,
    )
