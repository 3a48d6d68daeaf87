-- Where words stand: laws for those who use a memory.
use Rattle.std.proofs.Common.{◌≡◌, ◌≢◌, ℕ, ◌+◌, ◌-◌, ◌*◌, ◌/◌, ◌%◌, ◌<◌, ◌≤◌, ◌⊎◌, inl, inr, ⊎_elim, true, false, nat_lt, IsTrue, is_some, arith, ◌∙◌, refl}
use Rattle.std.proofs.lemmas.Bool.{cases_eq, cases_lt, cases_Bool}
use Rattle.std.proofs.lemmas.Bool.Decides.{nat_tests}
use Rattle.sls_base.specs.declared.limits.TheConstants.{TABLE_WORDS, FRAMES, WORDS}
use Rattle.pmem_model.specs.Places.{bank_of, offset_of, bank_size, bank_start, bank_at}
use Rattle.pmem_model.specs.Memory.{Memory, is_at_home, is_frame_home, frame_begin, AllHome, SameHomes, SameHomesBut}

-- a frame's first word
pub frame_begin-is : (f : ℕ) → frame_begin f ≡ 17920 + 512 * f
unfolding bank_start
frame_begin-is f = grind (arith, nat_tests)

-- the table is the first bank, and it has 17,920 words
pub bank_of-table : (at : ℕ) → at < 17920 → bank_of at ≡ 0
unfolding bank_of
bank_of-table at h = grind (arith, nat_tests)

pub offset_of-table : (at : ℕ) → at < 17920 → offset_of at ≡ at
unfolding offset_of
offset_of-table at h = grind (arith, nat_tests)

pub bank_size-table : bank_size 0 ≡ 17920
unfolding bank_size
bank_size-table = refl

-- a frame is the bank after that of the frame before it, and it has 512 words
pub bank_of-frame : (f o : ℕ) → o < 512 → bank_of (17920 + 512 * f + o) ≡ 1 + f
unfolding bank_of
bank_of-frame f o h = grind (arith, nat_tests)

pub offset_of-frame : (f o : ℕ) → o < 512 → offset_of (17920 + 512 * f + o) ≡ o
unfolding offset_of
offset_of-frame f o h = grind (arith, nat_tests)

pub bank_size-frame : (f : ℕ) → bank_size (1 + f) ≡ 512
unfolding bank_size
bank_size-frame f = grind (arith, nat_tests)

-- the same of a frame's first word, and of places that are named by it
pub bank_of-first : (f : ℕ) → bank_of (17920 + 512 * f) ≡ 1 + f
unfolding bank_of
bank_of-first f = grind (arith, nat_tests)

pub offset_of-first : (f : ℕ) → offset_of (17920 + 512 * f) ≡ 0
unfolding offset_of
offset_of-first f = grind (arith, nat_tests)

pub bank_of-begin : (f : ℕ) → bank_of (frame_begin f) ≡ 1 + f
bank_of-begin f = rw (frame_begin-is f) (bank_of-first f)

pub offset_of-begin : (f : ℕ) → offset_of (frame_begin f) ≡ 0
offset_of-begin f = rw (frame_begin-is f) (offset_of-first f)

pub bank_of-within : (f o : ℕ) → o < 512 → bank_of (frame_begin f + o) ≡ 1 + f
bank_of-within f o h = rw (frame_begin-is f) (bank_of-frame f o h)

pub offset_of-within : (f o : ℕ) → o < 512 → offset_of (frame_begin f + o) ≡ o
offset_of-within f o h = rw (frame_begin-is f) (offset_of-frame f o h)

pub bank_size-in_frame : (f o : ℕ) → o < 512 → bank_size (bank_of (17920 + 512 * f + o)) ≡ 512
bank_size-in_frame f o h = rw (bank_of-frame f o h) (bank_size-frame f)

-- the same where the place is known by an equation
pub bank_of-at : (at f o : ℕ) → at ≡ 17920 + 512 * f + o → o < 512 → bank_of at ≡ 1 + f
bank_of-at at f o is h = rw is (bank_of-frame f o h)

pub offset_of-at : (at f o : ℕ) → at ≡ 17920 + 512 * f + o → o < 512 → offset_of at ≡ o
offset_of-at at f o is h = rw is (offset_of-frame f o h)

pub bank_size-at : (at f o : ℕ) → at ≡ 17920 + 512 * f + o → o < 512 → bank_size (bank_of at) ≡ 512
bank_size-at at f o is h = rw is (bank_size-in_frame f o h)

-- words that stay inside the table or a frame, as a burst and a flush ask
pub inside_table : (at n : ℕ) → at < 17920 → at + n ≤ 17920 → offset_of at + n ≤ bank_size (bank_of at)
inside_table at n h fits = rw (bank_of-table at h, offset_of-table at h, bank_size-table) fits

pub inside_frame : (f o n : ℕ) → o < 512 → o + n ≤ 512 → offset_of (17920 + 512 * f + o) + n ≤ bank_size
    (bank_of (17920 + 512 * f + o))
inside_frame f o n h fits = rw (bank_size-in_frame f o h, offset_of-frame f o h) fits

pub inside_at : (at f o n : ℕ) → at ≡ 17920 + 512 * f + o → o < 512 → o + n ≤ 512
    → offset_of at + n ≤ bank_size (bank_of at)
inside_at at f o n is h fits = rw is (inside_frame f o n h fits)

-- one word, as a burst asks, and one line, as a flush asks
pub inside_word : (at : ℕ) → offset_of at + 1 ≤ bank_size (bank_of at)
unfolding offset_of bank_size bank_of
inside_word at = grind (arith, nat_tests)

pub inside_line : (at : ℕ) → offset_of (at / 8 * 8) + 8 * 1 ≤ bank_size (bank_of (at / 8 * 8))
unfolding offset_of bank_size bank_of
inside_line at = grind (arith, nat_tests)

-- each word of the memory is in the table or in one frame
pub place_cases : (at : ℕ) → at < WORDS → (at < 17920) ⊎ ((f : ℕ) × (o : ℕ) × (f < FRAMES) × (o < 512)
    × (at ≡ 17920 + 512 * f + o))
place_cases at h =
    ⊎_elim
    (λ (low : at < 17920). inl low)
    (λ (high : 17920 ≤ at). inr ((at - 17920) / 512, (at - 17920) % 512, omega arith, omega arith, omega arith))
    (cases_lt at 17920)

-- a frame is at home where its words are
pub home-frame : (m : Memory) (f o : ℕ) → o < 512 → is_at_home m (17920 + 512 * f + o) ≡ is_frame_home m f
home-frame m f o h =
    let high : nat_lt (17920 + 512 * f + o) TABLE_WORDS ≡ false = grind (arith, nat_tests) in
    rw (high, bank_of-frame f o h) refl

pub home-at : (m : Memory) (at f o : ℕ) → at ≡ 17920 + 512 * f + o → o < 512 → is_at_home m at ≡ is_frame_home m f
home-at m at f o is h = rw is (home-frame m f o h)

-- the table is always at home
pub table_home : (m : Memory) (at : ℕ) → at < TABLE_WORDS → is_at_home m at ≡ true
table_home m at h = let low : nat_lt at TABLE_WORDS ≡ true = grind (arith, nat_tests) in rw low refl

-- where all are at home, each is
pub home_of : (m : Memory) (at : ℕ) → AllHome m → at < WORDS → IsTrue (is_at_home m at)
unfolding bank_of
home_of m at all h =
    let lt : bank_of at < 1 + FRAMES = grind (arith, nat_tests) in
    ⊎_elim
    (λ (low : nat_lt at TABLE_WORDS ≡ true). rw low refl)
    (λ (high : nat_lt at TABLE_WORDS ≡ false). let home = all (bank_of at) lt in rw high (rw high at home))
    (cases_Bool (nat_lt at TABLE_WORDS))

pub frame_home_of : (m : Memory) (f : ℕ) → AllHome m → f < FRAMES → IsTrue (is_frame_home m f)
frame_home_of m f all h = all (1 + f) (omega arith)

-- an event that leaves the homes keeps all at home, each word, and each frame
pub all_home_kept : (old new : Memory) → SameHomes old new → AllHome old → AllHome new
all_home_kept old new same all = λ k h. same k ∙ all k h

pub home_kept : (old new : Memory) (at : ℕ) → SameHomes old new → IsTrue (is_at_home old at)
    → IsTrue (is_at_home new at)
home_kept old new at same h = rw (same (bank_of at)) h

pub frame_home_kept : (old new : Memory) (f : ℕ) → SameHomes old new → IsTrue (is_frame_home old f)
    → IsTrue (is_frame_home new f)
frame_home_kept old new f same h = rw (same (1 + f)) h

-- a frame that is lent or comes back leaves the homes of other frames
pub frame_home_but : (old new : Memory) (frame other : ℕ) → SameHomesBut frame old new → other ≢ frame
    → is_frame_home new other ≡ is_frame_home old other
frame_home_but old new frame other same ne = same (1 + other) (omega arith)

-- where the last frame comes back, all are at home
pub all_home_back : (away new : Memory) (frame : ℕ) → ((k : ℕ) → k < 1 + FRAMES → k ≢ 1 + frame
    → is_some (bank_at away.banks k) ≡ true)
    → SameHomesBut frame away new → IsTrue (is_frame_home new frame) → AllHome new
all_home_back away new frame others same back = λ k lt.
    ⊎_elim (λ (this : k ≡ 1 + frame). rw this back) (λ (ne : k ≢ 1 + frame). same k ne ∙ others k lt ne)
    (cases_eq k (1 + frame))

-- a frame that is lent and comes back, where all were at home
pub all_home_returned : (old away new : Memory) (frame : ℕ) → AllHome old → SameHomesBut frame old away
    → SameHomesBut frame away new → IsTrue (is_frame_home new frame) → AllHome new
all_home_returned old away new frame all lent same back = all_home_back away new frame
    (λ k lt ne. lent k ne ∙ all k lt) same back

pub ruleset places = (
  bank_of-table,
  offset_of-table,
  bank_size-table,
  bank_of-frame,
  offset_of-frame,
  bank_of-first,
  offset_of-first,
  bank_size-frame,
  frame_begin-is,
)

pub ruleset begins = (bank_of-begin, offset_of-begin, bank_of-within, offset_of-within, bank_size-frame)
