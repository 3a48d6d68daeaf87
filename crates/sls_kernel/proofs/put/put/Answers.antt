use Rattle.std.proofs.Common.{◌≡◌, ℕ, ◌+◌, ◌≤◌, ◌==◌, ◌||◌, nat_lt, min, false, true, Ok, List, slice_index, slice_set, length, ap, sym, subst, ◌∙◌, arith}
use Rattle.std.proofs.lemmas.Bool.Decides.{nat_tests}
use Rattle.pmem_model.specs.Memory.{word_at}
use Rattle.sls_kernel.specs.Plain.{State, is_full, covers, with_entry, bytes_at}
use Rattle.sls_kernel.specs.Words.{RunsAs}
use Rattle.sls_kernel.specs.Steps.{SlotFound, HasPut}
use Rattle.sls_kernel.specs.declared.thread.RunThread.{RunThread}
use Rattle.sls_kernel.proofs.PutEntries.{RunsAs-put, refused-none}
use Rattle.sls_kernel.proofs.put.put.Goals as goal

-- the state with another thread
abbrev with_thread : State → RunThread → State
with_thread s t = record { thread = t; byte = s.byte; out = s.out }

pub returns-clause-state : goal.returns-clause-state
returns-clause-state c s count tells runs =
    let t : RunThread = c.args.thread.now in
    let p : List ℕ = c.args.counts.now in
    let channel : ℕ = c.in_ok-channel.channel in
    let slot = slice_index t.regs.x 10 in
    let at = slice_index t.regs.x 11 in
    let size = slice_index t.regs.x 12 in
    let number = slice_index p channel in
    let found : SlotFound (Ok channel) slot = c.in_ok-channel.ensures in
    let is : number ≡ length (s.out channel) = runs.put_is channel found.3 in
    let told : slice_index c.args.accepted.now channel ≡ count channel = tells channel found.3 in
    let covered : covers at (min size 56) ≡ true = ap (covers at) (sym c.min.ensures) ∙ sym c.covers.ensures ∙ c.if-not-covers.false in
    let some : 1 ≤ size = omega arith in
    let most : size ≤ 56 = omega arith in
    let sized : (size == 0 || nat_lt 56 size) ≡ false = grind (arith, nat_tests) in
    let room : is_full (length (s.out channel)) (count channel) ≡ false =
    ap (λ n. is_full n (count channel)) (sym is) ∙ ap (is_full number) (sym told) ∙ sym c.is_full.ensures ∙ c.if-is_full.false in
    let p' = slice_set p channel (number + 1) in
    let g = word_at c.append.new.nvm in
    let done : (u : RunThread) → Type 0 = λ u. HasPut (Ok tt) t p' g count (with_thread s u) in
    let here : RunsAs t p (word_at c.args.nvm.now) count (with_thread s t) = subst (λ (u : RunThread). RunsAs t p (word_at c.args.nvm.now) count (with_thread s u)) (sym runs.thread_is) runs in
    subst done runs.thread_is (
      refused-none count (with_thread s t) channel found.0 found.1 found.2 covered sized room,
      subst (λ (n : ℕ). RunsAs t p' g count (record { thread = t; byte = s.byte; out = with_entry s.out n (bytes_at s.byte at size) })) found.2
          (RunsAs-put t p (word_at c.args.nvm.now) g count (with_thread s t) channel at size number c.entry_words.result here found.3 c.told-counts is room some most
          (c.entry_words.ensures s.byte runs.holds.page) c.append.ensures.words c.append.ensures.outside),
    )
