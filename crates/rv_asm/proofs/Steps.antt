-- One more line of a program.
use Rattle.std.proofs.Common.{◌≡◌, ℕ, ◌+◌, ◌<◌, ◌≤◌, false, nat_lt, subst, Option, Some, None, Result, Ok, Err, List, [], ◌∷◌, ◌++◌, length, get_or, take, drop, map, sym, ◌∙◌, ap, refl, append_assoc, append-nil, arith}
use Rattle.std.proofs.lemmas.List.{at_drop_more, take_more, map-append, drop_all}
use Rattle.std.proofs.lemmas.Bool.{le-ltb, cond-false}
use Rattle.std.specs.Option.{option_map, option_or, option_to_list}
use Rattle.rv_asm.specs.declared.error.AsmCause.{AsmCause}
use Rattle.rv_asm.specs.Statement.{Statement, Blank, Label, Data, Does, Aims}
use Rattle.rv_asm.specs.Program.{words_of, words_in, program_of, fault_of, first_fault, fault_in, GivesWord, AreWords, IsAssembled}

abbrev pub Lines : Type 0
Lines = List (Result Statement AsmCause)

pub words_in-append : (xs ys : Lines) → words_in (xs ++ ys) ≡ words_in xs + words_in ys
words_in-append [] ys = omega arith
words_in-append (x ∷ xs) ys = let more = words_in-append xs ys in omega arith

-- the lines before the next, and those from it on
before_more : {A : Type 0} (v : A → Result Statement AsmCause) (items : List A) (k : ℕ) (x : A) → k < length items → x ≡ get_or items k x → map v (take (k + 1) items) ≡ map v (take k items) ++ v x ∷ []
before_more v items k x within is =
    ap (map v) (take_more items k x within) ∙ map-append v (take k items) _ ∙ ap (λ y. map v (take k items) ++ v y ∷ []) (sym is)

from_here : {A : Type 0} (v : A → Result Statement AsmCause) (items : List A) (k : ℕ) (x : A) → k < length items → x ≡ get_or items k x → map v (drop k items) ≡ v x ∷ map v (drop (k + 1) items)
from_here v items k x within is =
    at_drop_more (map v) items k x within ∙ ap (λ y. v y ∷ map v (drop (k + 1) items)) (sym is)

pub count_more : {A : Type 0} (v : A → Result Statement AsmCause) (items : List A) (k : ℕ) (x : A) → k < length items → x ≡ get_or items k x → words_in (map v (take (k + 1) items)) ≡ words_in (map v (take k items)) + words_of (v x)
count_more v items k x within is =
    let split = ap words_in (before_more v items k x within is) ∙ words_in-append (map v (take k items)) (v x ∷ []) in omega arith

-- past a line without a fault
pub fault_more : {A : Type 0} (v : A → Result Statement AsmCause) (p : Lines) (items : List A) (k : ℕ) (x : A) → k < length items → x ≡ get_or items k x → fault_of p (map v (take k items)) (v x) ≡ None → first_fault p (map v (take (k + 1) items)) (map v (drop (k + 1) items)) (k + 1 + 1) ≡ first_fault p (map v (take k items)) (map v (drop k items)) (k + 1)
fault_more v p items k x within is none =
    ap (λ b. first_fault p b (map v (drop (k + 1) items)) (k + 1 + 1)) (before_more v items k x within is) ∙ sym (ap (λ r. first_fault p (map v (take k items)) r (k + 1)) (from_here v items k x within is) ∙ ap (λ f. option_or (option_map (λ c. (k + 1, c)) f) (first_fault p (map v (take k items) ++ v x ∷ []) (map v (drop (k + 1) items)) (k + 1 + 1))) none)

-- at a line with a fault
pub fault_here : {A : Type 0} (v : A → Result Statement AsmCause) (p : Lines) (items : List A) (k : ℕ) (x : A) (c : AsmCause) → k < length items → x ≡ get_or items k x → fault_of p (map v (take k items)) (v x) ≡ Some c → first_fault p (map v (take k items)) (map v (drop k items)) (k + 1) ≡ Some (k + 1, c)
fault_here v p items k x c within is some =
    ap (λ r. first_fault p (map v (take k items)) r (k + 1)) (from_here v items k x within is) ∙ ap (λ f. option_or (option_map (λ d. (k + 1, d)) f) (first_fault p (map v (take k items) ++ v x ∷ []) (map v (drop (k + 1) items)) (k + 1 + 1))) some

-- the words so far with those of what is left are the words
pub words_more : {A : Type 0} (v : A → Result Statement AsmCause) (p : Lines) (items : List A) (k at : ℕ) (x : A) (found : Option ℕ) (words : List ℕ) → k < length items → x ≡ get_or items k x → GivesWord p at (v x) found → ((tail : List ℕ) → AreWords p at (map v (drop k items)) tail → AreWords p 0 p (words ++ tail)) → (tail : List ℕ) → AreWords p (at + words_of (v x)) (map v (drop (k + 1) items)) tail → AreWords p 0 p ((words ++ option_to_list found) ++ tail)
words_more v p items k at x found words within is gives before tail rest =
    rw (append_assoc words (option_to_list found) tail) (before (option_to_list found ++ tail) (rw (from_here v items k x within is) (found, tail, gives, refl, rest)))

-- a line without a fault gives as many words as it has
pub gives_count : (p : Lines) (at : ℕ) (line : Result Statement AsmCause) (found : Option ℕ) → GivesWord p at line found → length (option_to_list found) ≡ words_of line
gives_count p at (Err c) found h = absurd h
gives_count p at (Ok Blank) found h = ap (λ f. length (option_to_list f)) h
gives_count p at (Ok (Label name)) found h = ap (λ f. length (option_to_list f)) h
gives_count p at (Ok (Data n)) found h = ap (λ f. length (option_to_list f)) h
gives_count p at (Ok (Does instr)) found (w, is, word) = ap (λ f. length (option_to_list f)) is
gives_count p at (Ok (Aims instr name)) found (w, place, is, there, word) = ap (λ f. length (option_to_list f)) is

-- behind the last line
pub assembled : {A : Type 0} (v : A → Result Statement AsmCause) (items : List A) (text : List ℕ) (k : ℕ) (words : List ℕ) (at : ℕ) → map v items ≡ program_of text → length items ≤ k → length text ≤ 65536 → first_fault (map v items) (map v (take k items)) (map v (drop k items)) (k + 1) ≡ first_fault (map v items) [] (map v items) 1 → ((tail : List ℕ) → AreWords (map v items) at (map v (drop k items)) tail → AreWords (map v items) 0 (map v items) (words ++ tail)) → IsAssembled text words
unfolding IsAssembled fault_in
assembled v items text k words at told past short faults given =
    let none : drop k items ≡ [] = drop_all k items past in
    let F : Lines → Type 0 = λ q. (first_fault q [] q 1 ≡ None) × AreWords q 0 q words in
    let test : nat_lt 65536 (length text) ≡ false = le-ltb _ _ short in
    let right : first_fault (map v items) [] (map v items) 1 ≡ None = sym faults ∙ ap (λ r. first_fault (map v items) (map v (take k items)) (map v r) (k + 1)) none in
    let all : AreWords (map v items) 0 (map v items) (words ++ []) = given [] (rw none refl) in
    let found = subst F told (right, rw append-nil at all) in
    (cond-false _ _ _ test ∙ found.0, found.1)

pub words_of-le : (line : Result Statement AsmCause) → words_of line ≤ 1
words_of-le (Err c) = omega arith
words_of-le (Ok Blank) = omega arith
words_of-le (Ok (Label name)) = omega arith
words_of-le (Ok (Data n)) = omega arith
words_of-le (Ok (Does instr)) = omega arith
words_of-le (Ok (Aims instr name)) = omega arith
