-- The parts of a text round a byte.
use Rattle.std.proofs.Common.{◌≡◌, ℕ, ◌+◌, ◌<◌, ◌≤◌, ◌==◌, Bool, true, false, cond, List, [], ◌∷◌, length, take, drop, Some, None, refl, ap, ◌∙◌, nat_lt, arith, ltb-true, ltb-false}
use Rattle.std.specs.List.{position, position_or_len, filter}
use Rattle.std.specs.Str.Lines.{lines, lines_of_parts, strip_carriage_return}
use Rattle.std.proofs.lemmas.List.Sums.{fails_before_first}
use Rattle.std.proofs.lemmas.List.Splits.{slice_split_none, slice_split_first, length-slice_split}
use Rattle.job_script.specs.Text.{parts_round, fields_of}

-- which way a test went, by what it chose
none_chosen : (b : Bool) (n : ℕ) → cond b (Some n) None ≡ None → b ≡ false
none_chosen true n h = cc
none_chosen false n h = refl

some_chosen : (b : Bool) (n m : ℕ) → cond b (Some n) None ≡ Some m → (b ≡ true) × (n ≡ m)
some_chosen true n m h = (refl, cc)
some_chosen false n m h = cc

-- a text in which the byte doesn't stand is one part
pub cut_none : (mark : ℕ) (text : List ℕ) → position (λ b. b == mark) text ≡ None → parts_round mark text ≡ text ∷ []
cut_none mark text h =
    let far : length text ≤ position_or_len (λ b. b == mark) text = ltb-false _ _ (none_chosen _ _ h) in
    slice_split_none (λ b. b == mark) text (λ k d high. fails_before_first (λ b. b == mark) text k d (omega arith))

-- the first part ends where the byte stands first
pub cut_some : (mark : ℕ) (text : List ℕ) (at : ℕ) → position (λ b. b == mark) text ≡ Some at
    → (at < length text) × (parts_round mark text ≡ take at text ∷ parts_round mark (drop (at + 1) text))
cut_some mark text at h =
    let found = some_chosen _ _ _ h in
    let near : position_or_len (λ b. b == mark) text < length text = ltb-true _ _ found.0 in
    let e = slice_split_first (λ b. b == mark) text 0 near in
    (omega (arith, found.1), rw found.1 at e)

pub some_part : (mark : ℕ) (text : List ℕ) → 0 < length (parts_round mark text)
some_part mark text = omega (arith, length-slice_split (λ b. b == mark) text)

-- a line that LF ends, and the lines after it
two_parts : (line : List ℕ) (parts : List (List ℕ)) → 0 < length parts → lines_of_parts (line ∷ parts) ≡ strip_carriage_return line ∷ lines_of_parts parts
two_parts line [] some = absurd (omega arith)
two_parts line (part ∷ parts) some = refl

pub lines_cut : (text line rest : List ℕ) → parts_round 10 text ≡ line ∷ parts_round 10 rest → lines text ≡ strip_carriage_return line ∷ lines rest
lines_cut text line rest e = ap lines_of_parts e ∙ two_parts line (parts_round 10 rest) (some_part 10 rest)

-- a text in which no LF stands is one line, or none
pub lines_last : (text : List ℕ) → parts_round 10 text ≡ text ∷ [] → lines text ≡ cond (length text == 0) [] (text ∷ [])
lines_last text e = ap lines_of_parts e

-- a part of a line is a field, where it isn't empty
pub fields_cut : (line part rest : List ℕ) → parts_round 32 line ≡ part ∷ parts_round 32 rest → fields_of line ≡ cond (nat_lt 0 (length part)) (part ∷ fields_of rest) (fields_of rest)
fields_cut line part rest e = ap (filter (λ p. nat_lt 0 (length p))) e

pub fields_last : (line : List ℕ) → parts_round 32 line ≡ line ∷ [] → fields_of line ≡ cond (nat_lt 0 (length line)) (line ∷ []) []
fields_last line e = ap (filter (λ p. nat_lt 0 (length p))) e
