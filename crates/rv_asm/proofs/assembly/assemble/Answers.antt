use Rattle.std.proofs.Common.{◌≡◌, ◌+◌, ◌<◌, ◌≤◌, Result, List, length, map, vec_len, get_or, sym, ◌∙◌, ap, arith}
use Rattle.std.specs.Option.{option_to_list}
use Rattle.rv_asm.specs.declared.error.AsmCause.{AsmCause}
use Rattle.rv_asm.specs.Statement.{Statement}
use Rattle.rv_asm.specs.Program.{words_of, GivesWord}
use Rattle.rv_asm.specs.View.{seen, view}
use Rattle.rv_asm.proofs.Steps.{count_more, fault_more, words_more, gives_count, words_of-le, assembled}
use Rattle.rv_asm.proofs.assembly.assemble.Goals as goal

pub loop-k-preserved : goal.loop-k-preserved
loop-k-preserved c =
    let items = c.in-Ok.program.items in
    let k = c.loop-k.k in
    let h = c.loop-k.invariant in
    let line = c.index.result.now in
    let p : List (Result Statement AsmCause) = map (seen view) items in
    let within : k < length items = omega arith in
    let is : line ≡ get_or items k line = c.index.ensures in
    let known = rw (c.deref.ensures.value, c.deref-in-loop-k.ensures.value, c.len.ensures) at c.in-Ok-word_of.ensures.ok in
    let gives : GivesWord p (vec_len c.loop-k.words) (seen view line) c.in-Ok-word_of.found = known.1 in
    let count : length (option_to_list c.in-Ok-word_of.found) ≡ words_of (seen view line) = gives_count p _ (seen view line) _ gives in
    let size : vec_len c.push_found.new.words ≡ vec_len c.loop-k.words + words_of (seen view line) = c.in-Ok-push_found.ensures.len ∙ ap (λ n. vec_len c.loop-k.words + n) count in
    let few : words_of (seen view line) ≤ 1 = words_of-le (seen view line) in
    record {
      counted = size ∙ ap (λ n. n + words_of (seen view line)) h.counted ∙ sym (count_more (seen view) items k line within is);
      few = omega arith;
      faults = fault_more (seen view) p items k line within is known.0 ∙ h.faults;
      words = λ tail rest. rw c.in-Ok-push_found.ensures.items (words_more (seen view) p items k (vec_len c.loop-k.words) line c.in-Ok-word_of.found c.loop-k.words.items within is gives h.words tail (rw size at rest));
    }

pub returns-clause-ok : goal.returns-clause-ok
returns-clause-ok c =
    let items = c.in-Ok.program.items in
    assembled (seen view) items c.args.text.now c.loop-k.k c.loop-k.words.items _ c.in-Ok.ensures.said (omega arith) (omega arith) c.loop-k.invariant.faults c.loop-k.invariant.words
