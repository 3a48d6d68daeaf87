-- The lines of a job name channels that are there.
use Rattle.std.proofs.Common.{ℕ, List, [], ◌∷◌, ◌++◌, map, sym, subst}
use Rattle.std.specs.List.{AllByRecursion}
use Rattle.job_script.specs.declared.line.Line.{Line}
use Rattle.job_script.specs.declared.line.Line.TheVariants.{Cores, Code, Run, Checkpoint, Cut, Take, End}
use Rattle.job_script.specs.Job.{IsJob, IsAction, words_of, actions_of}
use Rattle.job_run.specs.Ends.{HasChannels}

codes_have : (words : List ℕ) → AllByRecursion HasChannels (map Code words)
codes_have [] = tt
codes_have (word ∷ words) = (tt, codes_have words)

action_has : (line : Line) → IsAction line → HasChannels line
action_has (Run n) is = tt
action_has Checkpoint is = tt
action_has (Cut seed) is = tt
action_has (Take channel n) is = is.0
action_has (Cores n) is = tt
action_has (Code word) is = tt
action_has End is = tt

actions_have : (lines : List Line) → AllByRecursion IsAction lines → AllByRecursion HasChannels lines
actions_have [] is = tt
actions_have (line ∷ lines) is = (action_has line is.0, actions_have lines is.1)

both_have : (a b : List Line) → AllByRecursion HasChannels a → AllByRecursion HasChannels b → AllByRecursion HasChannels (a ++ b)
both_have [] b p q = q
both_have (line ∷ lines) b p q = (p.0, both_have lines b p.1 q)

pub job_has : (lines : List Line) → IsJob lines → AllByRecursion HasChannels lines
job_has lines is = subst (λ (l : List Line). AllByRecursion HasChannels l) (sym is.form)
    (tt, both_have (map Code (words_of lines)) _ (codes_have (words_of lines)) (both_have (actions_of lines) (End ∷ []) (actions_have (actions_of lines) is.actions) (tt, tt)))
