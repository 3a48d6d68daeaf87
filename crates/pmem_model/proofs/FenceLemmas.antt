-- A fence in parts: words that are fenced stay as they are.
use Rattle.std.proofs.Common.{◌≡◌, ℕ, ◌+◌, ◌<◌, Bool, true, false, cond, ◌||◌, ap, sym, ◌∙◌, List, length, get_or, drop}
use Rattle.std.proofs.lemmas.Bool.{false_from_ne_true}
use Rattle.std.proofs.lemmas.List.{at_drop_more}
use Rattle.pmem_model.specs.declared.flushes.FlushRange.{FlushRange}
use Rattle.pmem_model.specs.Flushes.{in_ranges}
use Rattle.pmem_model.specs.Words.{Word, fenced, has_core, is_within}
use Rattle.pmem_model.specs.Marks.{fenced-fenced, fenced-has, fenced-other}

pub step_words : (c : ℕ) (inside : Bool) (v w start : Word) → v ≡ cond inside (fenced c w) w → fenced c w ≡ fenced c start → fenced c v ≡ fenced c start
step_words c true v w start is so = ap (fenced c) is ∙ fenced-fenced c w ∙ so
step_words c false v w start is so = ap (fenced c) is ∙ so

pub step_flushed : (c : ℕ) (inside rest : Bool) (v w : Word) → v ≡ cond inside (fenced c w) w
    → (has_core w.marks c ≡ true → (inside || rest) ≡ true) → has_core v.marks c ≡ true → rest ≡ true
step_flushed c true rest v w is so has = absurd (let never = fenced-has c w in let same = ap (λ (u : Word). has_core u.marks c) is in cc)
step_flushed c false rest v w is so has = so (rw is at has)

pub in_ranges_more : (ranges : List FlushRange) (k i : ℕ) (r : FlushRange) → k < length ranges → r ≡ get_or ranges k r
    → in_ranges (drop k ranges) i ≡ (is_within r.at r.count i || in_ranges (drop (k + 1) ranges) i)
in_ranges_more ranges k i r lt is = let e = at_drop_more (λ rs. in_ranges rs i) ranges k r lt in rw (← is) at e

-- where no mark of the core is left, the fence is done
pub all_fenced : (c : ℕ) (w start : Word) → (has_core w.marks c ≡ true → ⊥) → fenced c w ≡ fenced c start → w ≡ fenced c start
all_fenced c w start none so = sym (fenced-other c w (false_from_ne_true (has_core w.marks c) none)) ∙ so
