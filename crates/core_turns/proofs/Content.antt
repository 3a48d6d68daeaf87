-- The bytes of pages that a memory has, and those of pages that aren't fresh by their rooms.
use Rattle.std.specs.Prelude.{◌≡◌, ℕ, zero, suc, ◌+◌, ◌/◌, ◌%◌, ◌<◌, ◌≤◌, ◌&&◌, nat_lt, if◌then◌else◌, Bool, true, false, Option, Some, None}
use Rattle.std.proofs.Common.{refl, ap, sym, ◌∙◌, subst, arith, inl, inr}
use Rattle.std.proofs.lemmas.Bool.{cases_lt, lt-ltb, le-ltb}
use Rattle.sls_base.specs.declared.limits.TheConstants.{FRAME_WORDS, PAGES, PAGE_BYTES}
use Rattle.pmem_model.specs.Words.{Word}
use Rattle.pmem_model.specs.Maps.{IsKnown}
use Rattle.pmem_model.specs.Memory.{Memory, word_at, AllHome}
use Rattle.pmem_layout.specs.Places.{frame_at, runtime_frame}
use Rattle.page_store.specs.declared.stage.PageStage.{PageStage}
use Rattle.page_store.specs.declared.stage.PageStage.TheVariants.{Fresh, Protected, Preparing, Writable}
use Rattle.page_store.specs.declared.stage.Origin.TheVariants.{Zeros, Copy}
use Rattle.page_store.specs.declared.stage.Writes.TheVariants.{Nothing, Stored, Flushed}
use Rattle.page_store.specs.Known.{Phase, flusher, page_map}
use Rattle.page_store.specs.Shows.{Has, Holds, PageShows, words_of}
use Rattle.page_store.proofs.PageLaws.{written_reads}
use Rattle.call_readings.specs.declared.content.TheConstants.{WORD_BYTES}
use Rattle.call_readings.specs.Content.{Reads, byte_of, is_page_home}

-- What a memory has.

-- a byte by the words of its page, none behind its end and past the last page
abbrev byte_in : (ℕ → ℕ) → ℕ → ℕ → ℕ
byte_in words page offset =
    if nat_lt page PAGES && nat_lt offset PAGE_BYTES
    then byte_of (words (offset / WORD_BYTES)) (offset % WORD_BYTES)
    else 0

abbrev pub words_in : (ℕ → Word) → ℕ → ℕ → ℕ
words_in f page j = (f (frame_at (runtime_frame page) + j)).cached

abbrev pub content_at : Memory → ℕ → ℕ → ℕ
content_at m page offset = byte_in (words_in (word_at m) page) page offset

byte_inside : (words : ℕ → ℕ) (page offset : ℕ) → page < PAGES → offset < PAGE_BYTES
    → byte_in words page offset ≡ byte_of (words (offset / WORD_BYTES)) (offset % WORD_BYTES)
byte_inside words page offset below inside =
    ap (λ (b : Bool). if b && nat_lt offset PAGE_BYTES
    then byte_of (words (offset / WORD_BYTES)) (offset % WORD_BYTES) else 0) (lt-ltb page PAGES below)
    ∙ ap (λ (b : Bool). if b then byte_of (words (offset / WORD_BYTES)) (offset % WORD_BYTES) else 0)
    (lt-ltb offset PAGE_BYTES inside)

byte_past : (words : ℕ → ℕ) (page offset : ℕ) → PAGES ≤ page → byte_in words page offset ≡ 0
byte_past words page offset past =
    ap (λ (b : Bool). if b && nat_lt offset PAGE_BYTES
    then byte_of (words (offset / WORD_BYTES)) (offset % WORD_BYTES) else 0) (le-ltb page PAGES past)

off_if : (a : Bool) (x : ℕ) → (if a && false then x else 0) ≡ 0
off_if true x = refl
off_if false x = refl

byte_behind : (words : ℕ → ℕ) (page offset : ℕ) → PAGE_BYTES ≤ offset → byte_in words page offset ≡ 0
byte_behind words page offset behind =
    ap (λ (b : Bool). if nat_lt page PAGES && b
    then byte_of (words (offset / WORD_BYTES)) (offset % WORD_BYTES) else 0) (le-ltb offset PAGE_BYTES behind)
    ∙ off_if (nat_lt page PAGES) (byte_of (words (offset / WORD_BYTES)) (offset % WORD_BYTES))

pub same_bytes : (a b : ℕ → ℕ) (page offset : ℕ) → (page < PAGES → (j : ℕ) → j < FRAME_WORDS → a j ≡ b j)
    → byte_in a page offset ≡ byte_in b page offset
same_bytes a b page offset same = elim (cases_lt page PAGES) [
  | inr past ↦ byte_past a page offset past ∙ sym (byte_past b page offset past)
  | inl below ↦ elim (cases_lt offset PAGE_BYTES) [
    | inr behind ↦ byte_behind a page offset behind ∙ sym (byte_behind b page offset behind)
    | inl inside ↦
        byte_inside a page offset below inside
        ∙ ap (λ (x : ℕ). byte_of x (offset % WORD_BYTES)) (same below (offset / WORD_BYTES) (omega arith))
        ∙ sym (byte_inside b page offset below inside)
  ]
]

pub reads_now : (m : Memory) → Reads (content_at m) m
reads_now m = record {
  home = λ page offset below inside home. byte_inside (words_in (word_at m) page) page offset below inside;
  end = λ page offset behind. byte_behind (words_in (word_at m) page) page offset behind;
  none = λ page offset past. byte_past (words_in (word_at m) page) page offset past;
}

page_home : (m : Memory) (page : ℕ) → AllHome m → page < PAGES → is_page_home m page ≡ true
page_home m page home below = home (1 + runtime_frame page) (omega arith)

pub reads_same : (content : ℕ → ℕ → ℕ) (m : Memory) (page offset : ℕ) → Reads content m → AllHome m
    → content page offset ≡ content_at m page offset
reads_same content m page offset reads home = elim (cases_lt page PAGES) [
  | inr past ↦ reads.none page offset past ∙ sym (byte_past (words_in (word_at m) page) page offset past)
  | inl below ↦ elim (cases_lt offset PAGE_BYTES) [
    | inr behind ↦ reads.end page offset behind ∙ sym (byte_behind (words_in (word_at m) page) page offset behind)
    | inl inside ↦ reads.home page offset below inside (page_home m page home below)
        ∙ sym (byte_inside (words_in (word_at m) page) page offset below inside)
  ]
]

-- What the rooms say of a page that isn't fresh.

has_words : (now : Option (ℕ → ℕ)) (held : ℕ → ℕ) (j : ℕ) → Has now held → j < FRAME_WORDS → held j ≡ words_of now j
has_words None held j has inside = absurd has
has_words (Some content) held j has inside = has j inside

stage_words : (stage : PageStage) (f : ℕ → Word) (v page : ℕ) (saved now : Option (ℕ → ℕ)) (phase : Phase)
    (held kept : ℕ → ℕ) (old j : ℕ) → (stage ≡ Fresh → ⊥) → j < FRAME_WORDS
    → Holds stage saved now held kept old v → IsKnown (flusher stage) (page_map stage phase page v held kept old) f
    → words_in f page j ≡ words_of now j
stage_words Fresh f v page saved now phase held kept old j stale inside h k = absurd (stale refl)
stage_words Protected f v page saved now phase held kept old j stale inside h k =
    (k.0 j inside).0 ∙ has_words now held j h.as_now inside
stage_words (Preparing core next) f v page saved now phase held kept old j stale inside h k =
    (k.0 j inside).0 ∙ has_words now held j h.0.as_now inside
stage_words (Writable Zeros Nothing) f v page saved now phase held kept old j stale inside h k =
    k.0 j inside ∙ h.1.1 j inside ∙ sym (ap (λ (words : Option (ℕ → ℕ)). words_of words j) h.1.0)
stage_words (Writable Copy Nothing) f v page saved now phase held kept old j stale inside h k =
    (k.0 j inside).0 ∙ has_words now held j h.1.0 inside
stage_words (Writable origin Stored) f v page saved now phase held kept old j stale inside h k =
    k.0 j inside ∙ has_words now held j h.1 inside
stage_words (Writable origin Flushed) f v page saved now phase held kept old j stale inside h k =
    written_reads Flushed origin phase (f (frame_at (runtime_frame page) + j)) (held j) (k.0 j inside)
    ∙ has_words now held j h.1 inside

pub page_words : (stage : PageStage) (f : ℕ → Word) (v page : ℕ) (saved now : Option (ℕ → ℕ)) (phase : Phase) (j : ℕ)
    → (stage ≡ Fresh → ⊥) → j < FRAME_WORDS
    → PageShows stage f v page saved now phase → words_in f page j ≡ words_of now j
page_words stage f v page saved now phase j stale inside h =
    stage_words stage f v page saved now phase h.held h.kept h.old j stale inside h.holds h.known

-- What a page that was zeroed reads.

pub zeroed_words : (stage : PageStage) (f : ℕ → Word) (v page : ℕ) (saved now : Option (ℕ → ℕ)) (phase : Phase) (j : ℕ)
    → stage ≡ Writable Zeros Nothing → j < FRAME_WORDS → PageShows stage f v page saved now phase
    → words_in f page j ≡ 0
zeroed_words stage f v page saved now phase j is inside h =
    let shows = subst (λ (s : PageStage). PageShows s f v page saved now phase) is h in
    shows.known.0 j inside ∙ shows.holds.1.1 j inside

zero_byte : (k : ℕ) → byte_of 0 k ≡ 0
zero_byte zero = refl
zero_byte (suc zero) = refl
zero_byte (suc (suc zero)) = refl
zero_byte (suc (suc (suc zero))) = refl
zero_byte (suc (suc (suc (suc zero)))) = refl
zero_byte (suc (suc (suc (suc (suc zero))))) = refl
zero_byte (suc (suc (suc (suc (suc (suc zero)))))) = refl
zero_byte (suc (suc (suc (suc (suc (suc (suc zero))))))) = refl
zero_byte (suc (suc (suc (suc (suc (suc (suc (suc k)))))))) = refl

zero_if : (b : Bool) (k : ℕ) → (if b then byte_of 0 k else 0) ≡ 0
zero_if true k = zero_byte k
zero_if false k = refl

pub zeros_read : (m : Memory) (page offset : ℕ)
    → (page < PAGES → (j : ℕ) → j < FRAME_WORDS → words_in (word_at m) page j ≡ 0) → content_at m page offset ≡ 0
zeros_read m page offset zeros =
    same_bytes (words_in (word_at m) page) (λ j. 0) page offset zeros
    ∙ zero_if (nat_lt page PAGES && nat_lt offset PAGE_BYTES) (offset % WORD_BYTES)
