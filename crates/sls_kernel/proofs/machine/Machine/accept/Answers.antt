use Rattle.std.proofs.Common.{arith, ℕ, ◌+◌, ◌≤◌, ◌<◌, ◌∙◌, sym, refl, subst, length}
use Rattle.pmem_model.specs.Memory.{word_at}
use Rattle.sls_kernel.specs.Plain.{World, accepted_count, next_entry}
use Rattle.sls_kernel.specs.Words.{IsEntry, frame_place}
use Rattle.sls_kernel.specs.Shows.{Shows}
use Rattle.sls_kernel.specs.Side.{mode}
use Rattle.sls_kernel.proofs.Accepts.{serving_area, area_is, count_read, entry_read, none_offered, one_offered, shows_accepted, same_entry}
use Rattle.sls_kernel.proofs.machine.Machine.accept.Goals as goal

pub returns-then-number-put-clause-world : goal.returns-then-number-put-clause-world
unfolding mode
returns-then-number-put-clause-world c = λ w s.
    let m = c.args.self.now in
    let channel = c.args.channel in
    let f = word_at m.nvm in
    let known = serving_area m.stage f w.version s.now_words s.saved_words c.requires.serving s.words in
    let area = area_is w.version (f 1) _ _ c.area_of_version-area.ensures.area c.table_durable.ensures s.words.version_durable in
    let put = c.durable-put.ensures ∙ count_read w.version _ _ channel f s.saved_words (accepted_count w) w.saved area c.area_frame.ensures c.requires.channel known s.saved_is in
    let number = s.counted.count channel c.requires.channel in
    let low : length (w.saved.out channel) ≤ accepted_count w channel = omega (arith, put, number, c.if-number-put.true) in
    let none = none_offered w channel low in
    (sym none.0, subst (λ (x : World). Shows m x) (sym none.1) s)

pub returns-clause-world : goal.returns-clause-world
unfolding mode
returns-clause-world c = λ w s.
    let m = c.args.self.now in
    let channel = c.args.channel in
    let f = word_at m.nvm in
    let known = serving_area m.stage f w.version s.now_words s.saved_words c.requires.serving s.words in
    let area = area_is w.version (f 1) _ _ c.area_of_version-area.ensures.area c.table_durable.ensures s.words.version_durable in
    let put = c.durable-put.ensures ∙ count_read w.version _ _ channel f s.saved_words (accepted_count w) w.saved area c.area_frame.ensures c.requires.channel known s.saved_is in
    let number = s.counted.count channel c.requires.channel in
    let more : accepted_count w channel < length (w.saved.out channel) = omega (arith, put, number, c.if-number-put.false) in
    let entry = entry_read w.version _ _ channel (accepted_count w channel) f s.saved_words (accepted_count w) w.saved area c.area_frame-2.ensures c.requires.channel known s.saved_is (omega arith) more in
    let bytes = c.durable_entry-bytes.ensures _ (subst (λ (n : ℕ). IsEntry (λ i. (f (frame_place c.area_frame-2.result + i)).durable) n (next_entry w channel)) (sym number) entry) in
    let one = one_offered w channel more in
    (same_entry number bytes ∙ sym one.0, shows_accepted m _ w channel c.requires.channel c.requires.serving (omega arith) refl refl refl refl refl refl more s)
