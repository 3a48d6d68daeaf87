use Rattle.std.proofs.Common.{◌≡◌, ◌∙◌, ap, drop, length, vec_len, Result, Ok, Err, IfOk}
use Rattle.std.specs.Vec.Iter.{into_iter_items, into_iter_len}
use Rattle.std.proofs.lemmas.Iterator.Adapters.{YieldsList-from_vec, YieldsList-from_skip, fact_from_collect}
use Rattle.sls_run.proofs.words_of.Goals as goal

first_fact : {V E : Type 0} (r : Result V E) (P Q : V → Type 0) → IfOk r (λ v. P v × Q v) → IfOk r P
first_fact (Ok v) P Q both = both.0
first_fact (Err e) P Q both = tt

-- what is collected is what the arguments have behind the first
pub returns-in-Ok-clause-words : goal.returns-in-Ok-clause-words
returns-in-Ok-clause-words c =
    let all = c.in-Ok.args in
    let source = c.skip.ensures.source in
    let size : into_iter_len all ≡ length (into_iter_items all) = all.rest.ok.0 in
    let whole = YieldsList-from_vec (into_iter_items all) (ap into_iter_items source) (ap into_iter_len source ∙ size) in
    let behind = YieldsList-from_skip 1 whole c.skip.ensures.count in
    let both = fact_from_collect (λ xs words. (words.items ≡ xs) × (vec_len words ≡ length xs)) c.collect.result c.collect.ensures.ran behind in
    let words = drop 1 (into_iter_items all) in
    rw c.in-Ok.is (first_fact c.collect.result (λ v. v.items ≡ words) (λ v. vec_len v ≡ length words) both)
