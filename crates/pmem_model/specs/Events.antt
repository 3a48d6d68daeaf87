-- What is known of a word, which events it outlives, and what a cut may leave of it.
use Rattle.std.proofs.Common.{◌≡◌, ◌≢◌, ◌⊎◌, inl, inr, ℕ, ◌+◌, ◌-◌, ◌<◌, ◌≤◌, ◌∙◌, sym, ap, refl, subst, Bool, true, false, arith, slice_index, List, ⊎_elim}
use Rattle.std.proofs.lemmas.Bool.{cases_Bool}
use Rattle.std.proofs.lemmas.Bool.Decides.{nat_tests}
use Rattle.pmem_model.specs.Words.{Word, has_core, is_within, stored, flushed, fenced, written_back, lost, bursts, flushes, fences, writes_back, cuts}
use Rattle.pmem_model.specs.Marks.{has-or_left, has-with_same}

-- Calm events

-- Nothing was stored. The word reads as before, and what is durable now is what was durable or what it reads. A word
-- that was in flight for a core still is, or is durable.
pub record WordCalm (w u : Word) : Type 0 where
  pub cached : u.cached ≡ w.cached
  pub durable : (u.durable ≡ w.durable) ⊎ (u.durable ≡ w.cached)
  pub marks : (c : ℕ) → has_core w.marks c ≡ true → (has_core u.marks c ≡ true) ⊎ (u.durable ≡ w.cached)

-- A calm event after which what was in flight for the core is durable, as after its fence.
pub record WordFenced (core : ℕ) (w u : Word) : Type 0 where
  pub calm : WordCalm w u
  pub settled : has_core w.marks core ≡ true → u.durable ≡ w.cached

-- Kinds of words

-- What may be known, for one core, of a word that should read x.
pub data Kind : Type 0 where
  -- nothing
  Any : Kind
  -- it reads x
  Cached : Kind
  -- it reads x, and x is durable or in flight for the core
  Ready : Kind
  -- it reads x, and x is durable
  Clean : Kind
  -- it reads x, and what is durable is x or the given value
  Over : ℕ → Kind
  -- it reads x, and x is durable, or the given value is and x is in flight for the core
  ReadyOver : ℕ → Kind

-- the word is of the kind, for the core, where x should be read
abbrev pub WordIs : ℕ → Kind → Word → ℕ → Type 0
WordIs core Any w x = Unit {0}
WordIs core Cached w x = w.cached ≡ x
WordIs core Ready w x = (w.cached ≡ x) × ((w.durable ≡ x) ⊎ (has_core w.marks core ≡ true))
WordIs core Clean w x = (w.cached ≡ x) × (w.durable ≡ x)
WordIs core (Over d) w x = (w.cached ≡ x) × ((w.durable ≡ x) ⊎ (w.durable ≡ d))
WordIs core (ReadyOver d) w x = (w.cached ≡ x) × ((w.durable ≡ x) ⊎ ((w.durable ≡ d) × (has_core w.marks core ≡ true)))

-- the kind after a fence by the core
abbrev pub settled : Kind → Kind
settled Any = Any
settled Cached = Cached
settled Ready = Clean
settled Clean = Clean
settled (Over d) = Over d
settled (ReadyOver d) = Clean

-- the kind after a flush by the core
abbrev pub in_flight : Kind → Kind
in_flight Any = Any
in_flight Cached = Ready
in_flight Ready = Ready
in_flight Clean = Clean
in_flight (Over d) = ReadyOver d
in_flight (ReadyOver d) = ReadyOver d

-- what a cut may leave of a word: its durable value or, after a write-back, its cached one
abbrev pub Left : Word → ℕ → Type 0
Left w y = (y ≡ w.durable) ⊎ (y ≡ w.cached)

-- what a cut may leave of a word of the kind where x should be read
abbrev pub MayBe : Kind → ℕ → ℕ → Type 0
MayBe Any x y = Unit {0}
MayBe Cached x y = Unit {0}
MayBe Ready x y = Unit {0}
MayBe Clean x y = y ≡ x
MayBe (Over d) x y = (y ≡ x) ⊎ (y ≡ d)
MayBe (ReadyOver d) x y = (y ≡ x) ⊎ (y ≡ d)

-- Words behind one another, and all words of a memory

-- the first `n` words of a list stand from a place on, each of the kind
abbrev pub WordsAre : ℕ → Kind → (ℕ → Word) → ℕ → List ℕ → ℕ → Type 0
WordsAre core k f at xs n = (j : ℕ) → j < n → WordIs core k (f (at + j)) (slice_index xs j)

-- all words after a burst of `n` words from `at` on
pub record IsBurst (f g : ℕ → Word) (at n : ℕ) (value : ℕ → ℕ) : Type 0 where
  pub words : (i : ℕ) → g i ≡ bursts at n value f i

-- all words after calm events
pub record IsCalm (f g : ℕ → Word) : Type 0 where
  pub at : (i : ℕ) → WordCalm (f i) (g i)

-- all words after a fence by the core, and perhaps other calm events
pub record IsFenced (core : ℕ) (f g : ℕ → Word) : Type 0 where
  pub at : (i : ℕ) → WordFenced core (f i) (g i)

-- all words after a cut
pub record IsCut (f g : ℕ → Word) : Type 0 where
  pub at : (i : ℕ) → g i ≡ lost (f i)

-- the place is not among the `n` from `at` on
abbrev pub Apart : ℕ → ℕ → ℕ → Type 0
Apart at n p = (p < at) ⊎ (at + n ≤ p)

-- Laws of one word

-- a word that isn't changed is calm
pub calm_same : (w u : Word) → u ≡ w → WordCalm w u
calm_same w u e = subst (λ (t : Word). WordCalm w t) (sym e)
    (record { cached = refl; durable = inl refl; marks = λ c h. inl h })

-- calm events one after another are calm
pub calm_then : (w u t : Word) → WordCalm w u → WordCalm u t → WordCalm w t
calm_then w u t a b = record {
  cached = b.cached ∙ a.cached;
  durable = elim b.durable [
    | inl same ↦ elim a.durable [ inl s ↦ inl (same ∙ s) | inr s ↦ inr (same ∙ s) ]
    | inr now ↦ inr (now ∙ a.cached)
  ];
  marks = λ c h. elim (a.marks c h) [
    | inl still ↦ elim (b.marks c still) [ inl s ↦ inl s | inr s ↦ inr (s ∙ a.cached) ]
    | inr done ↦ inr (elim b.durable [ inl same ↦ same ∙ done | inr now ↦ now ∙ a.cached ])
  ];
}

-- a flush, a write-back and a fence are calm
pub calm_flushed : (core : ℕ) (w : Word) → WordCalm w (flushed core w)
calm_flushed core w = record { cached = refl; durable = inl refl; marks = λ c h. inl (has-or_left w.marks _ c h) }

pub calm_written : (w : Word) → WordCalm w (written_back w)
calm_written w = record { cached = refl; durable = inr refl; marks = λ c h. inl h }

pub fenced_of : (core : ℕ) (w : Word) → WordFenced core w (fenced core w)
fenced_of core w =
    ⊎_elim
    (λ (yes : has_core w.marks core ≡ true). rw yes (record {
      calm = record {
        cached = refl;
        durable = inr refl;
        marks = λ c h. inr refl;
      };
      settled = λ h. refl;
    }))
    (λ (not_set : has_core w.marks core ≡ false). rw not_set (record { calm = calm_same w w refl; settled = λ h. cc }))
    (cases_Bool (has_core w.marks core))

-- what is known of a word outlives calm events
pub calm_word : (core : ℕ) (k : Kind) (w u : Word) (x : ℕ) → WordCalm w u → WordIs core k w x → WordIs core k u x
calm_word core Any w u x e h = tt
calm_word core Cached w u x e h = e.cached ∙ h
calm_word core Ready w u x e h = (
  e.cached ∙ h.0,
  elim h.1 [
    | inl d ↦ inl (elim e.durable [ inl s ↦ s ∙ d | inr s ↦ s ∙ h.0 ])
    | inr m ↦ elim (e.marks core m) [ inl s ↦ inr s | inr s ↦ inl (s ∙ h.0) ]
  ],
)
calm_word core Clean w u x e h = (e.cached ∙ h.0, elim e.durable [ inl s ↦ s ∙ h.1 | inr s ↦ s ∙ h.0 ])
calm_word core (Over d) w u x e h = (
  e.cached ∙ h.0,
  elim e.durable [
    | inl s ↦ elim h.1 [ inl t ↦ inl (s ∙ t) | inr t ↦ inr (s ∙ t) ]
    | inr s ↦ inl (s ∙ h.0)
  ],
)
calm_word core (ReadyOver d) w u x e h = (
  e.cached ∙ h.0,
  elim e.durable [
    | inl s ↦ elim h.1 [
      | inl t ↦ inl (s ∙ t)
      | inr t ↦ elim (e.marks core t.1) [ inl m ↦ inr (s ∙ t.0, m) | inr m ↦ inl (m ∙ h.0) ]
    ]
    | inr s ↦ inl (s ∙ h.0)
  ],
)

-- a fence settles what is in flight for its core
pub fence_word : (core : ℕ) (k : Kind) (w u : Word) (x : ℕ) → WordFenced core w u → WordIs core k w x
    → WordIs core (settled k) u x
fence_word core Any w u x e h = tt
fence_word core Cached w u x e h = e.calm.cached ∙ h
fence_word core Ready w u x e h = (
  e.calm.cached ∙ h.0,
  elim h.1 [
    | inl d ↦ elim e.calm.durable [ inl s ↦ s ∙ d | inr s ↦ s ∙ h.0 ]
    | inr m ↦ e.settled m ∙ h.0
  ],
)
fence_word core Clean w u x e h = calm_word core Clean w u x e.calm h
fence_word core (Over d) w u x e h = calm_word core (Over d) w u x e.calm h
fence_word core (ReadyOver d) w u x e h = (
  e.calm.cached ∙ h.0,
  elim h.1 [
    | inl d ↦ elim e.calm.durable [ inl s ↦ s ∙ d | inr s ↦ s ∙ h.0 ]
    | inr m ↦ e.settled m.1 ∙ h.0
  ],
)

-- a cut leaves of a word what its kind allows
pub left_word : (core : ℕ) (k : Kind) (w : Word) (x y : ℕ) → WordIs core k w x → Left w y → MayBe k x y
left_word core Any w x y h l = tt
left_word core Cached w x y h l = tt
left_word core Ready w x y h l = tt
left_word core Clean w x y h l = elim l [ inl d ↦ d ∙ h.1 | inr c ↦ c ∙ h.0 ]
left_word core (Over d) w x y h l = elim l [
  | inl e ↦ elim h.1 [ inl t ↦ inl (e ∙ t) | inr t ↦ inr (e ∙ t) ]
  | inr c ↦ inl (c ∙ h.0)
]
left_word core (ReadyOver d) w x y h l = elim l [
  | inl e ↦ elim h.1 [ inl t ↦ inl (e ∙ t) | inr t ↦ inr (e ∙ t.0) ]
  | inr c ↦ inl (c ∙ h.0)
]

-- what may be left of a word after a calm event might be left of it before
pub left_calm : (w u : Word) (y : ℕ) → WordCalm w u → Left u y → Left w y
left_calm w u y e l = elim l [
  | inl d ↦ elim e.durable [ inl s ↦ inl (d ∙ s) | inr s ↦ inr (d ∙ s) ]
  | inr c ↦ inr (c ∙ e.cached)
]

-- Laws of the events on all words

-- a place that is apart from a range, or inside it
pub is_apart : (at n p : ℕ) → Apart at n p → is_within at n p ≡ false
is_apart at n p h = elim h [ inl low ↦ grind (arith, nat_tests) | inr high ↦ grind (arith, nat_tests) ]

pub is_inside : (at n j : ℕ) → j < n → is_within at n (at + j) ≡ true
is_inside at n j h = grind (arith, nat_tests)

pub inside_of : (at n p : ℕ) → is_within at n p ≡ true → (j : ℕ) × (j < n) × (at + j ≡ p)
inside_of at n p h =
    let low : at ≤ p = grind (arith, nat_tests) in let high : p < at + n = grind (arith, nat_tests) in
    (p - at, omega arith, omega arith)

-- outside of a burst a word stays as it is
pub burst_off : (f g : ℕ → Word) (at n p : ℕ) (value : ℕ → ℕ) → ((i : ℕ) → g i ≡ bursts at n value f i) → Apart at n p
    → WordCalm (f p) (g p)
burst_off f g at n p value e h = calm_same (f p) (g p) (rw (is_apart at n p h) at (e p))

-- inside of a burst a word is stored
pub burst_in : (f g : ℕ → Word) (at n j : ℕ) (value : ℕ → ℕ) → ((i : ℕ) → g i ≡ bursts at n value f i) → j < n
    → g (at + j) ≡ stored (value (at + j - at)) (f (at + j))
burst_in f g at n j value e h = rw (is_inside at n j h) at (e (at + j))

-- inside of a burst a word reads the value stored, over what was durable
pub burst_over : (core : ℕ) (f g : ℕ → Word) (at n j d : ℕ) (value : ℕ → ℕ) → ((i : ℕ) → g i ≡ bursts at n value f i)
    → j < n → (f (at + j)).durable ≡ d → WordIs core (Over d) (g (at + j)) (value j)
burst_over core f g at n j d value e h is =
    let s = burst_in f g at n j value e h in
    let k : at + j - at ≡ j = omega arith in
    (ap (λ (w : Word). w.cached) s ∙ ap value k, inr (ap (λ (w : Word). w.durable) s ∙ is))

-- inside of a burst a word reads the value stored
pub burst_cached : (f g : ℕ → Word) (at n j : ℕ) (value : ℕ → ℕ) → ((i : ℕ) → g i ≡ bursts at n value f i) → j < n
    → (g (at + j)).cached ≡ value j
burst_cached f g at n j value e h =
    let s = burst_in f g at n j value e h in
    let k : at + j - at ≡ j = omega arith in
    ap (λ (w : Word). w.cached) s ∙ ap value k

-- a flush is calm
pub flush_calm : (f g : ℕ → Word) (core at n : ℕ) → ((i : ℕ) → g i ≡ flushes core at n f i) → (p : ℕ)
    → WordCalm (f p) (g p)
flush_calm f g core at n e p =
    ⊎_elim
    (λ (yes : is_within at n p ≡ true). subst (λ (t : Word). WordCalm (f p) t) (sym (rw yes at (e p)))
    (calm_flushed core (f p)))
    (λ (off : is_within at n p ≡ false). calm_same (f p) (g p) (rw off at (e p)))
    (cases_Bool (is_within at n p))

-- a flush puts in flight what is known of a word
pub marked_word : (core : ℕ) (k : Kind) (w : Word) (x : ℕ) → WordIs core k w x
    → WordIs core (in_flight k) (flushed core w) x
marked_word core Any w x h = tt
marked_word core Cached w x h = (h, inr (has-with_same w.marks core))
marked_word core Ready w x h = (h.0, inr (has-with_same w.marks core))
marked_word core Clean w x h = h
marked_word core (Over d) w x h = (h.0, elim h.1 [ inl s ↦ inl s | inr s ↦ inr (s, has-with_same w.marks core) ])
marked_word core (ReadyOver d) w x h = (h.0, elim h.1 [ inl s ↦ inl s | inr s ↦ inr (s.0, has-with_same w.marks core) ])

-- inside of a flush a word is in flight
pub flush_in : (core : ℕ) (k : Kind) (f g : ℕ → Word) (at n j x : ℕ) → ((i : ℕ) → g i ≡ flushes core at n f i) → j < n
    → WordIs core k (f (at + j)) x → WordIs core (in_flight k) (g (at + j)) x
flush_in core k f g at n j x e h is =
    let s : g (at + j) ≡ flushed core (f (at + j)) = rw (is_inside at n j h) at (e (at + j)) in
    subst (λ (t : Word). WordIs core (in_flight k) t x) (sym s) (marked_word core k (f (at + j)) x is)

-- a fence by the core is one of each word
pub fence_all : (f g : ℕ → Word) (core : ℕ) → ((i : ℕ) → g i ≡ fences core f i) → (p : ℕ) → WordFenced core (f p) (g p)
fence_all f g core e p = subst (λ (t : Word). WordFenced core (f p) t) (sym (e p)) (fenced_of core (f p))

-- write-backs are calm
pub write_back_calm : (f g : ℕ → Word) (chosen : ℕ → Bool) → ((i : ℕ) → g i ≡ writes_back chosen f i) → (p : ℕ)
    → WordCalm (f p) (g p)
write_back_calm f g chosen e p =
    ⊎_elim
    (λ (yes : chosen p ≡ true). subst (λ (t : Word). WordCalm (f p) t) (sym (rw yes at (e p))) (calm_written (f p)))
    (λ (off : chosen p ≡ false). calm_same (f p) (g p) (rw off at (e p)))
    (cases_Bool (chosen p))

-- after a cut each word is clean, and it is one that might be left
pub cut_clean : (f g : ℕ → Word) → ((i : ℕ) → g i ≡ cuts f i) → (core p : ℕ) → WordIs core Clean (g p) ((g p).durable)
cut_clean f g e core p = (ap (λ (w : Word). w.cached) (e p) ∙ sym (ap (λ (w : Word). w.durable) (e p)), refl)

pub cut_left : (f g : ℕ → Word) → ((i : ℕ) → g i ≡ cuts f i) → (p : ℕ) → Left (f p) ((g p).durable)
cut_left f g e p = inl (ap (λ (w : Word). w.durable) (e p))

-- a burst and a flush of one word
pub burst_one : (core : ℕ) (f g : ℕ → Word) (at d x : ℕ) (value : ℕ → ℕ) → ((i : ℕ) → g i ≡ bursts at 1 value f i)
    → value 0 ≡ x → (f at).durable ≡ d → WordIs core (Over d) (g at) x
burst_one core f g at d x value e is was =
    let z : at + 0 ≡ at = omega arith in
    subst (λ (p : ℕ). WordIs core (Over d) (g p) x) z (subst (λ (y : ℕ). WordIs core (Over d) (g (at + 0)) y) is
    (burst_over core f g at 1 0 d value e (omega arith) (subst (λ (p : ℕ). (f p).durable ≡ d) (sym z) was)))

pub flush_one : (core : ℕ) (k : Kind) (f g : ℕ → Word) (at x : ℕ) → ((i : ℕ) → g i ≡ flushes core at 1 f i)
    → WordIs core k (f at) x → WordIs core (in_flight k) (g at) x
flush_one core k f g at x e is =
    let z : at + 0 ≡ at = omega arith in
    subst (λ (p : ℕ). WordIs core (in_flight k) (g p) x) z
    (flush_in core k f g at 1 0 x e (omega arith) (subst (λ (p : ℕ). WordIs core k (f p) x) (sym z) is))

-- apart from a burst of one word a word stays as it is
pub burst_apart : (f g : ℕ → Word) (at i : ℕ) (value : ℕ → ℕ) → ((k : ℕ) → g k ≡ bursts at 1 value f k) → i ≢ at
    → WordCalm (f i) (g i)
burst_apart f g at i value e ne = burst_off f g at 1 i value e (grind arith)

-- Laws of words behind one another

-- words outlive calm events
pub words_calm : (core : ℕ) (k : Kind) (f g : ℕ → Word) (at n : ℕ) (xs : List ℕ) → IsCalm f g
    → WordsAre core k f at xs n → WordsAre core k g at xs n
words_calm core k f g at n xs calm is = λ j lt. calm_word core k (f (at + j)) (g (at + j)) (slice_index xs j)
    (calm.at (at + j)) (is j lt)

-- a fence settles them
pub words_fenced : (core : ℕ) (k : Kind) (f g : ℕ → Word) (at n : ℕ) (xs : List ℕ) → IsFenced core f g
    → WordsAre core k f at xs n → WordsAre core (settled k) g at xs n
words_fenced core k f g at n xs fenced_now is = λ j lt. fence_word core k (f (at + j)) (g (at + j)) (slice_index xs j)
    (fenced_now.at (at + j)) (is j lt)

-- clean words are what a cut leaves
pub words_left : (core : ℕ) (f : ℕ → Word) (left : ℕ → ℕ) (at n : ℕ) (xs : List ℕ) → ((i : ℕ) → Left (f i) (left i))
    → WordsAre core Clean f at xs n
    → (j : ℕ) → j < n → left (at + j) ≡ slice_index xs j
words_left core f left at n xs may is = λ j lt. left_word core Clean (f (at + j)) (slice_index xs j) (left (at + j))
    (is j lt) (may (at + j))
