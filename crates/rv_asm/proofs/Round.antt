-- A printed text has no fault, and its words come back.
use Rattle.std.proofs.Common.{◌≡◌, ℕ, zero, suc, ◌+◌, ◌-◌, ◌*◌, ◌^◌, ◌<◌, ◌≤◌, ◌==◌, nat_lt, Bool, true, not, Option, Some, None, Result, Ok, Err, List, [], ◌∷◌, ◌++◌, length, length-append, append_assoc, map, slice_index, sym, ◌∙◌, ap, subst, refl, ⊎_elim, arith}
use Rattle.std.proofs.lemmas.Bool.{cond-true, cond-false, cases_Bool, eqb-true, lt-ltb, le-ltb, and_right, and_parts, or_parts, not-true}
use Rattle.std.proofs.lemmas.List.{take_all}
use Rattle.std.specs.List.{All, list_all}
use Rattle.std.specs.Option.{option_map, option_or, option_to_list, unwrap_or}
use Rattle.rv_table.specs.declared.Instr.{Instr}
use Rattle.rv_table.specs.declared.Instr.TheVariants as instr
use Rattle.rv_table.specs.Decoded.{decoded}
use Rattle.rv_table.specs.Table.{IsInstr, IsRow}
use Rattle.rv_asm.specs.declared.error.AsmCause.{AsmCause}
use Rattle.rv_asm.specs.Bytes.{is_either}
use Rattle.rv_asm.specs.Text.{without_last}
use Rattle.rv_asm.specs.Statement.{Statement, Blank, Label, Data, Does, Aims, with_offset, statement_of}
use Rattle.rv_asm.specs.Program.{lines_of, program_of, words_of, words_in, long, fault_of, first_fault, fault_in, IsWordOf, GivesWord, AreWords, IsAssembled, offset}
use Rattle.rv_asm.specs.Printed.{shown, text_of, instruction_text, data_text}
use Rattle.rv_asm.proofs.Tokens.{front_token, rest_token}
use Rattle.rv_asm.proofs.Feeds.{lines_cut}
use Rattle.rv_asm.proofs.Steps.{Lines, words_in-append}
use Rattle.rv_asm.proofs.Bytes.{is_line_byte, no_feed, no_return}
use Rattle.rv_asm.proofs.Read.{Says, instruction_said, data_said}
use Rattle.rv_asm.proofs.Rows.{one_word}

-- a line that gives this word
pub record IsLineOf (w : ℕ) (text : List ℕ) (s : Statement) : Type 0 where
  pub says : Says text s
  pub count : words_of (Ok s) ≡ 1
  pub fault : (p before : Lines) → fault_of p before (Ok s) ≡ long (words_in before)
  pub gives : (p : Lines) (at : ℕ) → GivesWord p at (Ok s) (Some w)

data_line : (w : ℕ) → w < 2 ^ 32 → IsLineOf w (data_text w) (Data w)
data_line w low = record { says = data_said w low; count = refl; fault = λ p before. refl; gives = λ p at. refl }

instruction_line : (w : ℕ) (i : Instr) → w < 2 ^ 32 → IsRow w i → IsInstr i → (i ≡ instr.Fence → w ≡ 0x0000000F) → IsLineOf w (instruction_text i) (Does i)
instruction_line w i low row in_range fence = record {
  says = instruction_said i in_range;
  count = refl;
  fault = λ p before. refl;
  gives = λ p at. (w, refl, (row, low, fence));
}

-- the table as its law has it
pub record IsTable (w : ℕ) : Type 0 where
  pub row : (i : Instr) → decoded w ≡ Some i → IsRow w i
  pub in_range : (i : Instr) → IsRow w i → IsInstr i

abbrev HasLine : ℕ → Option Instr → Type 0
HasLine w d = (s : Statement) × IsLineOf w (shown w d) s

plain_line : (w : ℕ) (i : Instr) → w < 2 ^ 32 → IsTable w → decoded w ≡ Some i → (i ≡ instr.Fence → ⊥) → shown w (Some i) ≡ instruction_text i → HasLine w (Some i)
plain_line w i low t found other same =
    let P : List ℕ → Type 0 = λ text. IsLineOf w text (Does i) in
    let row = t.row i found in
    (Does i, subst P (sym same) (instruction_line w i low row (t.in_range i row) (λ e. absurd (other e))))

fence_line : (w : ℕ) → w < 2 ^ 32 → IsTable w → decoded w ≡ Some instr.Fence → HasLine w (Some instr.Fence)
fence_line w low t found =
    let text = shown w (Some instr.Fence) in
    ⊎_elim
    (λ yes.
    let P : List ℕ → Type 0 = λ x. IsLineOf w x (Does instr.Fence) in
    let same : text ≡ instruction_text instr.Fence = cond-true _ _ _ yes in
    (Does instr.Fence, subst P (sym same) (instruction_line w instr.Fence low (t.row instr.Fence found) tt (λ e. eqb-true w 0x0000000F yes))))
    (λ no.
    let P : List ℕ → Type 0 = λ x. IsLineOf w x (Data w) in
    let same : text ≡ data_text w = cond-false _ _ _ no in (Data w, subst P (sym same) (data_line w low)))
    (cases_Bool (w == 0x0000000F))

line_at : (w : ℕ) (d : Option Instr) → w < 2 ^ 32 → IsTable w → decoded w ≡ d → HasLine w d
line_at w None low t found = (Data w, data_line w low)
line_at w (Some (instr.Lui d imm)) low t found = plain_line w _ low t found (λ e. cc) refl
line_at w (Some (instr.Auipc d imm)) low t found = plain_line w _ low t found (λ e. cc) refl
line_at w (Some (instr.Jal d imm)) low t found = plain_line w _ low t found (λ e. cc) refl
line_at w (Some (instr.Jalr d a imm)) low t found = plain_line w _ low t found (λ e. cc) refl
line_at w (Some (instr.Branch op a b imm)) low t found = plain_line w _ low t found (λ e. cc) refl
line_at w (Some (instr.Load op d a imm)) low t found = plain_line w _ low t found (λ e. cc) refl
line_at w (Some (instr.Store op a b imm)) low t found = plain_line w _ low t found (λ e. cc) refl
line_at w (Some (instr.OpImm op alt d a imm)) low t found = plain_line w _ low t found (λ e. cc) refl
line_at w (Some (instr.Op op alt d a b)) low t found = plain_line w _ low t found (λ e. cc) refl
line_at w (Some instr.Fence) low t found = fence_line w low t found
line_at w (Some instr.Ecall) low t found = plain_line w _ low t found (λ e. cc) refl
line_at w (Some instr.Ebreak) low t found = plain_line w _ low t found (λ e. cc) refl

word_line : (w : ℕ) → w < 2 ^ 32 → IsTable w → HasLine w (decoded w)
word_line w low t = line_at w (decoded w) low t refl

-- the last byte passes
last_passes : (p : ℕ → Bool) (xs : List ℕ) (k : ℕ) → k < length xs → list_all p xs ≡ true → p (slice_index xs k) ≡ true
last_passes p [] k h all = absurd (omega arith)
last_passes p (x ∷ xs) zero h all = (and_parts (p x) (list_all p xs) all).0
last_passes p (x ∷ xs) (suc k) h all = last_passes p xs k (omega arith) (and_parts (p x) (list_all p xs) all).1

no_last_return : (t : List ℕ) → list_all is_line_byte t ≡ true → without_last 13 t ≡ None
no_last_return [] all = refl
no_last_return (x ∷ xs) all =
    let t = x ∷ xs in
    let last = last_passes (λ c. not (is_either 13 13 c)) t (length t - 1) (omega arith) (no_return t all) in
    let other = (or_parts _ _ (not-true (is_either 13 13 (slice_index t (length t - 1))) last)).0 in
    cond-false _ _ _ (and_right (nat_lt 0 (length t)) (slice_index t (length t - 1) == 13) other)

-- the first line of a printed text
lines_printed : (t more : List ℕ) → list_all is_line_byte t ≡ true → lines_of (t ++ 10 ∷ more) ≡ t ∷ lines_of more
lines_printed t more all =
    let feeds : ℕ → Bool = is_either 10 10 in
    let none = no_feed t all in
    let cut = lines_cut (t ++ 10 ∷ more) t (10 ∷ more) t (sym (front_token feeds t more 10 none refl)) (sym (rest_token feeds t more 10 none refl)) (sym (ap (λ (o : Option (List ℕ)). unwrap_or o t) (no_last_return t all))) (omega arith) in
    cut ∙ ap (λ x. t ∷ lines_of x) (take_all (length (10 ∷ more) - 1) more (omega arith))

-- the lines of a program that words are printed as, and an empty one behind the last LF
abbrev ArePrinted : List ℕ → Lines → Type 0
ArePrinted [] lines = lines ≡ Ok Blank ∷ []
ArePrinted (w ∷ ws) lines =
    (s : Statement) × (others : Lines) × (lines ≡ Ok s ∷ others) × IsLineOf w (shown w (decoded w)) s × ArePrinted ws others

-- each is a word, and the table is as its law has it
abbrev AreTabled : List ℕ → Type 0
AreTabled [] = Unit {0}
AreTabled (w ∷ ws) = (w < 2 ^ 32) × IsTable w × AreTabled ws

text_more : (w : ℕ) (ws : List ℕ) → text_of (w ∷ ws) ≡ shown w (decoded w) ++ 10 ∷ text_of ws
text_more w ws = append_assoc (shown w (decoded w)) (10 ∷ []) (text_of ws)

printed : (ws : List ℕ) → AreTabled ws → ArePrinted ws (program_of (text_of ws))
unfolding lines_of statement_of
printed [] h = refl
printed (w ∷ ws) (low, table, others) =
    let found = word_line w low table in
    let lines = ap lines_of (text_more w ws) ∙ lines_printed (shown w (decoded w)) (text_of ws) found.1.says.line.bytes in
    (found.0, program_of (text_of ws), ap (map statement_of) lines ∙ ap (λ (s : Result Statement AsmCause). s ∷ program_of (text_of ws)) found.1.says.said, found.1, printed ws others)

no_fault : (p : Lines) (ws : List ℕ) (lines before : Lines) (number : ℕ) → ArePrinted ws lines → words_in before + length ws ≤ 1024 → first_fault p before lines number ≡ None
no_fault p [] lines before number h few = ap (λ ls. first_fault p before ls number) h
no_fault p (w ∷ ws) lines before number (s, others, is, line, more) few =
    let here : fault_of p before (Ok s) ≡ None = line.fault p before ∙ cond-true _ _ _ (lt-ltb (words_in before) 1024 (omega arith)) in
    let after = words_in-append before (Ok s ∷ []) in
    let count = line.count in
    ap (λ ls. first_fault p before ls number) is ∙ ap (λ f. option_or (option_map (λ c. (number, c)) f) (first_fault p (before ++ Ok s ∷ []) others (number + 1))) here ∙ no_fault p ws others (before ++ Ok s ∷ []) (number + 1) more (omega arith)

are_words : (p : Lines) (at : ℕ) (ws : List ℕ) (lines : Lines) → ArePrinted ws lines → AreWords p at lines ws
are_words p at [] lines h =
    let P : Lines → Type 0 = λ ls. AreWords p at ls [] in subst P (sym h) (None, [], refl, refl, refl)
are_words p at (w ∷ ws) lines (s, others, is, line, more) =
    let P : Lines → Type 0 = λ ls. AreWords p at ls (w ∷ ws) in
    subst P (sym is) (Some w, ws, line.gives p at, refl, are_words p (at + words_of (Ok s)) ws others more)

text_size : (ws : List ℕ) → AreTabled ws → length (text_of ws) ≤ 64 * length ws
text_size [] h = omega arith
text_size (w ∷ ws) (low, table, others) =
    let found = word_line w low table in
    let short = found.1.says.line.short in
    let more = text_size ws others in
    let size = ap length (text_more w ws) ∙ length-append (shown w (decoded w)) (10 ∷ text_of ws) in omega arith

pub come_back : (ws : List ℕ) → AreTabled ws → length ws ≤ 1024 → IsAssembled (text_of ws) ws
unfolding IsAssembled fault_in
come_back ws h few =
    let lines = printed ws h in
    let size = text_size ws h in
    let p = program_of (text_of ws) in
    (cond-false _ _ _ (le-ltb 65536 (length (text_of ws)) (omega arith)) ∙ no_fault p ws p [] 1 lines (omega arith), are_words p 0 ws p lines)

pub all_tabled : (ws : List ℕ) → All (λ w. w < 2 ^ 32) ws → ((w : ℕ) → IsTable w) → AreTabled ws
all_tabled [] h t = tt
all_tabled (w ∷ ws) h t = (h 0 0 (omega arith), t w, all_tabled ws (λ k d less. h (suc k) d (omega arith)) t)

-- a line gives one word at most, and a text one program
one_given : (p : Lines) (at : ℕ) (line : Result Statement AsmCause) (f g : Option ℕ) → GivesWord p at line f → GivesWord p at line g → f ≡ g
one_given p at (Err c) f g h k = absurd h
one_given p at (Ok Blank) f g h k = h ∙ sym k
one_given p at (Ok (Label name)) f g h k = h ∙ sym k
one_given p at (Ok (Data n)) f g h k = h ∙ sym k
one_given p at (Ok (Does i)) f g (w, h, is) (v, k, also) = h ∙ ap Some (one_word i w v is also) ∙ sym k
one_given p at (Ok (Aims i name)) f g (w, place, h, there, is) (v, other, k, also_there, also) =
    let same : place ≡ other = cc in
    let P : ℕ → Type 0 = λ q. IsWordOf (with_offset i (offset at q)) v in
    h ∙ ap Some (one_word (with_offset i (offset at place)) w v is (subst P (sym same) also)) ∙ sym k

one_list : (p : Lines) (at : ℕ) (lines : Lines) (ws vs : List ℕ) → AreWords p at lines ws → AreWords p at lines vs → ws ≡ vs
one_list p at [] ws vs h k = h ∙ sym k
one_list p at (line ∷ lines) ws vs (f, others, gives, is, more) (g, left, also, are, rest) =
    let found = one_given p at line f g gives also in
    let behind = one_list p (at + words_of line) lines others left more rest in
    is ∙ ap (λ o. option_to_list o ++ others) found ∙ ap (λ l. option_to_list g ++ l) behind ∙ sym are

pub one_program : (text ws vs : List ℕ) → IsAssembled text ws → IsAssembled text vs → ws ≡ vs
unfolding IsAssembled
one_program text ws vs h k = one_list (program_of text) 0 (program_of text) ws vs h.1 k.1
