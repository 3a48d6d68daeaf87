-- The numbers of a line are in range.
use Rattle.std.proofs.Common.{◌≡◌, ℕ, ◌<◌, ◌^◌, ◌==◌, Bool, true, false, cond, nat_lt, nat_le, ◌&&◌, List, [], ◌∷◌, Option, Some, None, Result, Ok, Err, refl, subst, ltb-true, eqb-true, length, bytes_eq, codes, slice_index}
use Rattle.std.specs.Prelude.{IfOk}
use Rattle.std.specs.Str.Parse.{digits_value}
use Rattle.job_script.specs.declared.fault.JobCause.{JobCause}
use Rattle.job_script.specs.declared.line.Line.{Line}
use Rattle.job_script.specs.declared.line.Line.TheVariants.{Cores, Code, Run, Checkpoint, Cut, Take, End}
use Rattle.job_script.specs.UntilFault.{◌>>=◌}
use Rattle.job_script.specs.Text.{all_digits, value_of, or_fault, number_of, word_of}
use Rattle.job_script.specs.Lines.{cores_of, take_of, line_with, line_of, said_by}
use Rattle.job_script.specs.Job.{IsAction}
use Rattle.job_script.proofs.Numbers.{both_true, value_of_word, chosen}

-- the numbers of a line
abbrev pub InRange : Line → Type 0
InRange (Cores n) = n ≡ 1
InRange (Code word) = word < 2 ^ 32
InRange End = Unit {0}
InRange line = IsAction line

-- and of what a text line says
abbrev pub IsInRange : Option Line → Type 0
IsInRange None = Unit {0}
IsInRange (Some line) = InRange line

-- what is read, if it is, is in range
record Ranged {A : Type 0} (P : A → Type 0) (read : Result A JobCause) : Type 0 where
  fits : IfOk read P

found : {A : Type 0} (P : A → Type 0) (x : A) → P x → Ranged P (Ok x)
found P x h = record { fits = h }

fault : {A : Type 0} (P : A → Type 0) (cause : JobCause) → Ranged P (Err cause)
fault P cause = record { fits = tt }

tested_by : {A : Type 0} (P : A → Type 0) (b : Bool) (x y : Result A JobCause) → (b ≡ true → Ranged P x) → Ranged P y → Ranged P (cond b x y)
tested_by P true x y here other = here refl
tested_by P false x y here other = other

tested : {A : Type 0} (P : A → Type 0) (b : Bool) (x y : Result A JobCause) → Ranged P x → Ranged P y → Ranged P (cond b x y)
tested P b x y here other = tested_by P b x y (λ _. here) other

and_then : {A B : Type 0} (P : A → Type 0) (Q : B → Type 0) (read : Result A JobCause) (f : A → Result B JobCause) → Ranged P read → ((x : A) → P x → Ranged Q (f x)) → Ranged Q (read >>= f)
and_then P Q (Ok x) f h g = g x h.fits
and_then P Q (Err cause) f h g = record { fits = tt }

or_fault_fits : (P : ℕ → Type 0) (cause : JobCause) (o : Option ℕ) → ((n : ℕ) → o ≡ Some n → P n) → Ranged P (or_fault cause o)
or_fault_fits P cause None h = record { fits = tt }
or_fault_fits P cause (Some n) h = record { fits = h n refl }

value_fits : (radix : ℕ) (field : List ℕ) (n : ℕ) → value_of radix field ≡ Some n → n < 2 ^ 64
unfolding value_of
value_fits radix field n h =
    let both = chosen _ _ _ h in
    let small : digits_value radix field < 2 ^ 64 = ltb-true (digits_value radix field) (2 ^ 64) (both_true (all_digits radix field) _ both.0).1 in
    subst (λ m. m < 2 ^ 64) both.1 small

number_fits : (field : List ℕ) → Ranged (λ n. n < 2 ^ 64) (number_of field)
unfolding number_of
number_fits field =
    tested (λ n. n < 2 ^ 64) (nat_le 1 (length field) && nat_le (length field) 20) _ _ (or_fault_fits _ _ _ (value_fits 10 field)) (fault _ _)

word_fits : (field : List ℕ) → Ranged (λ n. n < 2 ^ 32) (word_of field)
unfolding word_of
word_fits field =
    tested_by (λ n. n < 2 ^ 32) (length field == 8) _ _
    (λ e. or_fault_fits _ _ _ (λ n h. value_of_word field n (eqb-true _ _ e) h)) (fault _ _)

cores_fits : (field : List ℕ) → Ranged InRange (cores_of field)
unfolding cores_of
cores_fits field =
    and_then (λ n. n < 2 ^ 64) InRange _ _ (number_fits field)
    (λ n _. tested InRange (n == 1) _ _ (found InRange (Cores 1) refl) (tested InRange (nat_le 2 n && nat_le n 8) _ _ (fault _ _) (fault _ _)))

take_fits : (channel count : List ℕ) → Ranged InRange (take_of channel count)
unfolding take_of
take_fits channel count =
    and_then (λ n. n < 2 ^ 64) InRange _ _ (number_fits channel)
    (λ c _. and_then (λ n. n < 2 ^ 64) InRange _ _ (number_fits count) (λ n fits. tested_by InRange (nat_lt c 4) _ _ (λ e. found InRange (Take c n) (ltb-true c 4 e, fits)) (fault _ _)))

with_number : (P : ℕ → Type 0) (line : ℕ → Line) (read : Result ℕ JobCause) → Ranged P read → ((n : ℕ) → P n → InRange (line n)) → Ranged InRange (line_with line read)
with_number P line read h g = and_then P InRange read (λ n. Ok (line n)) h (λ n p. found InRange (line n) (g n p))

line_fits : (word : List ℕ) (operands : List (List ℕ)) → Ranged InRange (line_of word operands)
unfolding line_of
line_fits word [] =
    tested InRange (bytes_eq word (codes "checkpoint")) _ _ (found InRange Checkpoint tt) (tested InRange (bytes_eq word (codes "end")) _ _ (found InRange End tt) (fault _ _))
line_fits word (operand ∷ []) =
    tested InRange (bytes_eq word (codes "cores")) _ _ (cores_fits operand)
    (tested InRange (bytes_eq word (codes "code")) _ _ (with_number _ Code _ (word_fits operand) (λ n h. h))
    (tested InRange (bytes_eq word (codes "run")) _ _ (with_number _ Run _ (number_fits operand) (λ n h. h))
    (tested InRange (bytes_eq word (codes "cut")) _ _ (with_number _ Cut _ (number_fits operand) (λ n h. h)) (fault _ _))))
line_fits word (first ∷ second ∷ []) = tested InRange (bytes_eq word (codes "take")) _ _ (take_fits first second) (fault _ _)
line_fits word (first ∷ second ∷ third ∷ more) = fault _ _

said_fits : (fields : List (List ℕ)) → Ranged IsInRange (said_by fields)
unfolding said_by
said_fits [] = found IsInRange None tt
said_fits (word ∷ operands) =
    tested IsInRange (slice_index word 0 == 35) _ _ (found IsInRange None tt)
    (and_then InRange IsInRange _ _ (line_fits word operands) (λ line h. found IsInRange (Some line) h))

-- what the fields say is in range
pub said_in_range : (fields : List (List ℕ)) (said : Option Line) → said_by fields ≡ Ok said → IsInRange said
said_in_range fields said h = let P : Result (Option Line) JobCause → Type 0 = λ r. IfOk r IsInRange in subst P h (said_fits fields).fits
