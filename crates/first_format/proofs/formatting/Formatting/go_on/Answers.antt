use Rattle.std.proofs.Common.{◌≡◌, ◌≢◌, ℕ, ◌+◌, ◌*◌, ◌<◌, ◌∙◌, inr, true, ap, sym, subst, refl}
use Rattle.std.proofs.lemmas.Bool.{false≢true}
use Rattle.sls_base.specs.declared.fixed.TheConstants.{LEADER}
use Rattle.pmem_model.specs.Words.{Word, bursts, flushes}
use Rattle.pmem_model.specs.Memory.{word_at}
use Rattle.pmem_layout.specs.Places.{line_at}
use Rattle.sls_base.specs.declared.image.Image.{Image}
use Rattle.version_commit.specs.declared.step.Step.{Step}
use Rattle.version_commit.specs.declared.step.Step.TheVariants as steps
use Rattle.version_commit.specs.declared.committer.Committer.{Committer}
use Rattle.version_commit.specs.OnWay.{next}
use Rattle.first_format.specs.declared.pieces.Piece.{Piece}
use Rattle.first_format.specs.declared.stage.Stage.{Stage}
use Rattle.first_format.specs.Parts.{first_parts}
use Rattle.first_format.specs.Formatted.{content_word}
use Rattle.first_format.specs.Pieces.{piece_of, place_of, count_of, lines_of}
use Rattle.first_format.specs.Shows.{AreOnWay}
use Rattle.first_format.proofs.Steps.{flushed_on, passed_on, stored_on, word_on, word_stage}
use Rattle.first_format.proofs.WordSteps.{word_operation}
use Rattle.first_format.proofs.formatting.Formatting.go_on.Goals as goal

pub returns-then-store-clause-words : goal.returns-then-store-clause-words
returns-then-store-clause-words c = λ cores h.
    let n = c.in-Store.n in
    let p = first_parts c.args.image.now cores in
    let f = word_at c.args.nvm.now in
    let g = word_at c.store.new.nvm in
    let own = first_parts c.args.image.now c.args.self.now.cores in
    let stored : (i : ℕ) → g i ≡ bursts (place_of c.of.result) (count_of c.of.result) (λ j. content_word own (place_of c.of.result + j)) f i =
    c.if-store.ensures.stored refl in
    let by_piece : (i : ℕ) → g i ≡ bursts (place_of (piece_of n)) (count_of (piece_of n)) (λ j. content_word own (place_of (piece_of n) + j)) f i =
    subst (λ (k : Piece). (i : ℕ) → g i ≡ bursts (place_of k) (count_of k) (λ j. content_word own (place_of k + j)) f i) c.of.ensures.piece stored in
    let by_cores : (i : ℕ) → g i ≡ bursts (place_of (piece_of n)) (count_of (piece_of n)) (λ j. content_word p (place_of (piece_of n) + j)) f i =
    subst (λ (k : ℕ). (i : ℕ) → g i ≡ bursts (place_of (piece_of n)) (count_of (piece_of n)) (λ j. content_word (first_parts c.args.image.now k) (place_of (piece_of n) + j)) f i)
    h.cores_are by_piece in
    stored_on p n c.args.self.now.committer.format f g by_cores
    (subst (λ (stage : Stage). AreOnWay p stage c.args.self.now.committer.format f) c.in-Store.is h.words)

pub returns-else-store-clause-words : goal.returns-else-store-clause-words
returns-else-store-clause-words c = λ cores h.
    let n = c.in-Store.n in
    let p = first_parts c.args.image.now cores in
    let f = word_at c.args.nvm.now in
    let own = first_parts c.args.image.now c.args.self.now.cores in
    let by_piece : (j : ℕ) → j < count_of (piece_of n) → content_word own (place_of (piece_of n) + j) ≡ 0 =
    subst (λ (k : Piece). (j : ℕ) → j < count_of k → content_word own (place_of k + j) ≡ 0) c.of.ensures.piece (c.if-store.ensures.empty refl) in
    let by_cores : (j : ℕ) → j < count_of (piece_of n) → content_word p (place_of (piece_of n) + j) ≡ 0 =
    subst (λ (k : ℕ). (j : ℕ) → j < count_of (piece_of n) → content_word (first_parts c.args.image.now k) (place_of (piece_of n) + j) ≡ 0) h.cores_are by_piece in
    let on : AreOnWay p (Stage.Store n) c.args.self.now.committer.format f =
    subst (λ (stage : Stage). AreOnWay p stage c.args.self.now.committer.format f) c.in-Store.is h.words in
    rw (c.behind-self.ensures, c.if-store.ensures.same refl) (passed_on p n c.args.self.now.committer.format f by_cores on)

pub returns-in-Flush-clause-words : goal.returns-in-Flush-clause-words
returns-in-Flush-clause-words c = λ cores h.
    let n = c.in-Flush.n in
    let p = first_parts c.args.image.now cores in
    let f = word_at c.args.nvm.now in
    let g = word_at c.flush.new.nvm in
    let flushed : (i : ℕ) → g i ≡ flushes LEADER (line_at (place_of (piece_of n))) (8 * lines_of (piece_of n)) f i =
    subst (λ (k : Piece). (i : ℕ) → g i ≡ flushes LEADER (line_at (place_of k)) (8 * lines_of k) f i) c.of-in-Flush.ensures.piece c.flush.ensures.flushed in
    rw c.behind-self-in-Flush.ensures (flushed_on p n c.args.self.now.committer.format f g flushed
    (subst (λ (stage : Stage). AreOnWay p stage c.args.self.now.committer.format f) c.in-Flush.is h.words))

pub returns-in-Fence-clause-operation : goal.returns-in-Fence-clause-operation
returns-in-Fence-clause-operation c = inr (inr (inr (record { reached = λ i. true; words = c.fence.ensures.words })))

pub returns-then-format_step-clause-operation : goal.returns-then-format_step-clause-operation
returns-then-format_step-clause-operation c = word_operation c.args.self.now.committer.format _ _ c.format_step.ensures.words

pub returns-else-format_step-clause-operation : goal.returns-else-format_step-clause-operation
returns-else-format_step-clause-operation c = word_operation c.args.self.now.committer.format _ _ c.format_step.ensures.words

-- the format word's steps

abbrev IsOn : Image → ℕ → Step → (ℕ → Word) → Stage → Type 0
IsOn image cores step g stage = AreOnWay (first_parts image cores) stage step g

not_last : (step : Step) → step ≢ steps.Fence → word_stage step ≡ Stage.FormatWord
not_last steps.Store ne = refl
not_last steps.Flush ne = refl
not_last steps.Fence ne = absurd (ne refl)

abbrev format_of : Committer → Step
format_of committer = committer.format

pub returns-then-format_step-clause-words : goal.returns-then-format_step-clause-words
returns-then-format_step-clause-words c = λ cores h.
    let image = c.args.image.now in
    let step = c.args.self.now.committer.format in
    let g = word_at c.format_step.new.nvm in
    let last : step ≡ steps.Fence = c.format_step.ensures.last.0 c.if-format_step.true in
    let now : c.format_step.new.self.format ≡ next step = ap format_of c.format_step.ensures.steps in
    let on = word_on (first_parts image cores) step (word_at c.args.nvm.now) g c.format_step.ensures.words
    (subst (IsOn image cores step (word_at c.args.nvm.now)) c.in-FormatWord.is h.words) in
    rw now (subst (IsOn image cores (next step) g) (ap word_stage last) on)

pub returns-else-format_step-clause-words : goal.returns-else-format_step-clause-words
returns-else-format_step-clause-words c = λ cores h.
    let image = c.args.image.now in
    let step = c.args.self.now.committer.format in
    let g = word_at c.format_step.new.nvm in
    let other : word_stage step ≡ Stage.FormatWord = not_last step (λ e. false≢true (sym c.if-format_step.false ∙ c.format_step.ensures.last.1 e)) in
    let now : c.format_step.new.self.format ≡ next step = ap format_of c.format_step.ensures.steps in
    let on = word_on (first_parts image cores) step (word_at c.args.nvm.now) g c.format_step.ensures.words
    (subst (IsOn image cores step (word_at c.args.nvm.now)) c.in-FormatWord.is h.words) in
    rw now (subst (IsOn image cores (next step) g) (other ∙ sym c.in-FormatWord.is) on)
