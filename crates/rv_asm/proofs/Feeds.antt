-- The first line of a text.
use Rattle.std.proofs.Common.{◌≡◌, ℕ, ◌-◌, ◌<◌, ◌≤◌, ◌==◌, Bool, true, false, if◌then◌else◌, List, [], ◌∷◌, take, drop, length, length-drop, sym, ◌∙◌, ap, refl, ⊎_elim, arith}
use Rattle.std.proofs.lemmas.Bool.{cases_Bool, cond-true, cond-false, cond_both, or_left, or_from, ne_eqb, eq-eqb}
use Rattle.std.proofs.lemmas.List.{take_all}
use Rattle.rv_asm.specs.Bytes.{is_either}
use Rattle.rv_asm.specs.Text.{front, rest, is_nothing}
use Rattle.rv_asm.specs.Program.{onto_first, between_feeds, without_return, without_returns, lines_of}

abbrev feeds : ℕ → Bool
feeds = is_either 10 10

-- either there is no LF, or what stands before the first is the first line
abbrev cut : List ℕ → List (List ℕ)
cut text =
    if is_nothing (rest feeds text) then front feeds text ∷ [] else front feeds text ∷ between_feeds (drop 1 (rest feeds text))

onto_cut : (c : ℕ) (b : Bool) (f : List ℕ) (x : List (List ℕ)) → onto_first c (if b then f ∷ [] else f ∷ x) ≡ (if b then (c ∷ f) ∷ [] else (c ∷ f) ∷ x)
onto_cut c true f x = refl
onto_cut c false f x = refl

between-cut : (text : List ℕ) → between_feeds text ≡ cut text
between-cut [] = refl
between-cut (c ∷ cs) =
    let shape : Bool → List (List ℕ) = λ b. if is_nothing (if b then c ∷ cs else rest feeds cs) then (if b then [] else c ∷ front feeds cs) ∷ [] else (if b then [] else c ∷ front feeds cs) ∷ between_feeds (drop 1 (if b then c ∷ cs else rest feeds cs)) in
    ⊎_elim (λ t. cond-true _ _ _ t ∙ sym (ap shape (or_left _ _ t) ∙ cond-false _ _ _ (ne_eqb (length (c ∷ cs)) 0 (λ e. omega arith)))) (λ f. cond-false _ _ _ f ∙ ap (onto_first c) (between-cut cs) ∙ onto_cut c (is_nothing (rest feeds cs)) (front feeds cs) _ ∙ sym (ap shape (or_from _ _ f f))) (cases_Bool (c == 10))

some_first : (c : ℕ) (ls : List (List ℕ)) → 0 < length (onto_first c ls)
some_first c [] = omega arith
some_first c (l ∷ ls) = omega arith

some_between : (text : List ℕ) → 0 < length (between_feeds text)
some_between [] = omega arith
some_between (c ∷ cs) =
    cond_both (c == 10) _ _ (λ (ls : List (List ℕ)). 0 < length ls) (λ _. omega arith) (λ _. some_first c (between_feeds cs))

returns_more : (l : List ℕ) (ms : List (List ℕ)) → 0 < length ms → without_returns (l ∷ ms) ≡ without_return l ∷ without_returns ms
returns_more l [] h = absurd (omega arith)
returns_more l (m ∷ ms) h = refl

pub lines_cut : (text line found kept : List ℕ) → line ≡ front feeds text → found ≡ rest feeds text → kept ≡ without_return line → 1 ≤ length found → lines_of text ≡ kept ∷ lines_of (take (length found - 1) (drop 1 found))
unfolding lines_of
lines_cut text line found kept before behind without some =
    let more : take (length found - 1) (drop 1 found) ≡ drop 1 found = take_all _ (drop 1 found) (omega (arith, length-drop 1 found)) in
    ap without_returns (between-cut text ∙ cond-false _ _ _ (ap is_nothing (sym behind) ∙ ne_eqb (length found) 0 (λ e. omega arith))) ∙ returns_more (front feeds text) (between_feeds (drop 1 (rest feeds text))) (some_between (drop 1 (rest feeds text))) ∙ ap (λ l. without_return l ∷ lines_of (drop 1 (rest feeds text))) (sym before) ∙ ap (λ r. without_return line ∷ lines_of (drop 1 r)) (sym behind) ∙ ap (λ m. without_return line ∷ lines_of m) (sym more) ∙ ap (λ l. l ∷ lines_of (take (length found - 1) (drop 1 found))) (sym without)

pub lines_last : (text line found : List ℕ) → line ≡ front feeds text → found ≡ rest feeds text → length found < 1 → lines_of text ≡ line ∷ []
unfolding lines_of
lines_last text line found before behind none =
    ap without_returns (between-cut text ∙ cond-true _ _ _ (ap is_nothing (sym behind) ∙ eq-eqb (length found) 0 (omega arith))) ∙ ap (λ l. l ∷ []) (sym before)
