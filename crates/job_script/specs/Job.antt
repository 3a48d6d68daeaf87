-- What the lines of a job are.
use Rattle.std.specs.Prelude.{◌≡◌, ℕ, ◌+◌, ◌^◌, ◌<◌, ◌≤◌, List, [], ◌∷◌, ◌++◌, length, map}
use Rattle.std.specs.List.{AllByRecursion}
use Rattle.sls_base.specs.declared.texts.TheConstants.{PROGRAM_WORDS}
use Rattle.job_script.specs.declared.line.Line.{Line}
use Rattle.job_script.specs.declared.line.Line.TheVariants.{Cores, Code, Run, Checkpoint, Cut, Take, End}

-- the words of the program, in order
abbrev pub words_of : List Line → List ℕ
words_of [] = []
words_of (Code word ∷ lines) = word ∷ words_of lines
words_of (line ∷ lines) = words_of lines

-- the actions, in order
abbrev pub actions_of : List Line → List Line
actions_of [] = []
actions_of (Cores n ∷ lines) = actions_of lines
actions_of (Code word ∷ lines) = actions_of lines
actions_of (End ∷ lines) = actions_of lines
actions_of (line ∷ lines) = line ∷ actions_of lines

-- how many draws the lines take
abbrev pub draws_of : List Line → ℕ
draws_of [] = 0
draws_of (Run n ∷ lines) = n + draws_of lines
draws_of (line ∷ lines) = draws_of lines

-- an action, with its numbers in range
abbrev pub IsAction : Line → Type 0
IsAction (Run n) = n < 2 ^ 64
IsAction Checkpoint = Unit {0}
IsAction (Cut seed) = seed < 2 ^ 64
IsAction (Take channel n) = (channel < 4) × (n < 2 ^ 64)
IsAction (Cores n) = ⊥
IsAction (Code word) = ⊥
IsAction End = ⊥

-- `cores 1`, 1 to 1,024 words, actions with at most 2,000,000 draws, `end`
pub record IsJob (lines : List Line) : Type 0 where
  pub form : lines ≡ Cores 1 ∷ (map Code (words_of lines) ++ (actions_of lines ++ End ∷ []))
  pub some_words : 0 < length (words_of lines)
  pub few_words : length (words_of lines) ≤ PROGRAM_WORDS
  pub words : AllByRecursion (λ word. word < 2 ^ 32) (words_of lines)
  pub actions : AllByRecursion IsAction (actions_of lines)
  pub draws : draws_of lines ≤ 2000000
