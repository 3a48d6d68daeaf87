-- Maps of knowledge: what is known, for one core, of many words at once.
use Rattle.std.proofs.Common.{◌≡◌, inl, inr, ℕ, ◌+◌, ◌-◌, ◌<◌, ◌≤◌, ◌∙◌, sym, refl, subst, arith, true, false, cond}
use Rattle.std.proofs.lemmas.Bool.{cond_both}
use Rattle.pmem_model.specs.Words.{Word, is_within, stored, flushed, bursts, flushes, cuts}
use Rattle.pmem_model.specs.Events.{WordCalm, WordFenced, Kind, Any, Cached, Ready, Clean, Over, ReadyOver, WordIs, settled, in_flight, Left, MayBe}
use Rattle.pmem_model.specs.Events.{calm_same, calm_word, fence_word, left_word, marked_word, burst_cached, cut_clean, is_inside}

-- A map says of words, by their places, of which kind they are and which value they should read.
pub data Map : Type 0 where
  -- nothing
  Nothing : Map
  -- of the word at a place, its kind and value
  One : ℕ → Kind → ℕ → Map
  -- what two maps say
  Both : Map → Map → Map
  -- what as many maps say, which are numbered from 0
  Each : ℕ → (ℕ → Map) → Map

-- `count` words from `at` on, all of one kind
abbrev pub row : ℕ → ℕ → Kind → (ℕ → ℕ) → Map
row at count k value = Each count (λ j. One (at + j) k (value j))

-- each word of the memory is, for the core, as the map says
abbrev pub IsKnown : ℕ → Map → (ℕ → Word) → Type 0
IsKnown core Nothing f = Unit {0}
IsKnown core (One at k x) f = WordIs core k (f at) x
IsKnown core (Both a b) f = IsKnown core a f × IsKnown core b f
IsKnown core (Each n m) f = (i : ℕ) → i < n → IsKnown core (m i) f

-- it holds at each place of which the map says something
abbrev pub AllPlaces : (ℕ → Type 0) → Map → Type 0
AllPlaces P Nothing = Unit {0}
AllPlaces P (One at k x) = P at
AllPlaces P (Both a b) = AllPlaces P a × AllPlaces P b
AllPlaces P (Each n m) = (i : ℕ) → i < n → AllPlaces P (m i)

-- the map with other kinds: `with_kinds in_flight` after a flush of its words, `with_kinds settled` after a fence
abbrev pub with_kinds : (Kind → Kind) → Map → Map
with_kinds kind Nothing = Nothing
with_kinds kind (One at k x) = One at (kind k) x
with_kinds kind (Both a b) = Both (with_kinds kind a) (with_kinds kind b)
with_kinds kind (Each n m) = Each n (λ i. with_kinds kind (m i))

-- the kind of a word after something is stored there: over its value, if it was clean
abbrev pub overwritten : Kind → ℕ → Kind
overwritten Any x = Cached
overwritten Cached x = Cached
overwritten Ready x = Cached
overwritten Clean x = Over x
overwritten (Over d) x = Cached
overwritten (ReadyOver d) x = Cached

-- the map after a burst of `count` words from `from` on
abbrev pub after_burst : ℕ → ℕ → (ℕ → ℕ) → Map → Map
after_burst from count value Nothing = Nothing
after_burst from count value (One at k x) =
    cond (is_within from count at) (One at (overwritten k x) (value (at - from))) (One at k x)
after_burst from count value (Both a b) = Both (after_burst from count value a) (after_burst from count value b)
after_burst from count value (Each n m) = Each n (λ i. after_burst from count value (m i))

-- the durable words are ones that a cut may leave of the map
abbrev pub IsLeft : Map → (ℕ → ℕ) → Type 0
IsLeft Nothing left = Unit {0}
IsLeft (One at k x) left = MayBe k x (left at)
IsLeft (Both a b) left = IsLeft a left × IsLeft b left
IsLeft (Each n m) left = (i : ℕ) → i < n → IsLeft (m i) left

-- the map after a cut that left these words
abbrev pub after_cut : (ℕ → ℕ) → Map → Map
after_cut left Nothing = Nothing
after_cut left (One at k x) = One at Clean (left at)
after_cut left (Both a b) = Both (after_cut left a) (after_cut left b)
after_cut left (Each n m) = Each n (λ i. after_cut left (m i))

-- what is known of a word as the first kind is known of it as the second
abbrev pub Gives : Kind → Kind → Type 0
Gives k l = (core : ℕ) (w : Word) (x : ℕ) → WordIs core k w x → WordIs core l w x

-- the second map says no more than the first: it has fewer places, or weaker kinds
abbrev pub Weakens : Map → Map → Type 0
Weakens m Nothing = Unit {0}
Weakens (One at k x) (One to l y) = (at ≡ to) × (x ≡ y) × Gives k l
Weakens (Both a b) (Both c d) = Weakens a c × Weakens b d
Weakens (Each n m) (Each o l) = (o ≤ n) × ((i : ℕ) → i < o → Weakens (m i) (l i))
Weakens _ _ = ⊥

-- something is known of a word of the kind: it reads its value
abbrev pub IsRead : Kind → Type 0
IsRead Any = ⊥
IsRead Cached = Unit {0}
IsRead Ready = Unit {0}
IsRead Clean = Unit {0}
IsRead (Over d) = Unit {0}
IsRead (ReadyOver d) = Unit {0}

-- Laws of places

pub all_places : (P : ℕ → Type 0) (m : Map) → ((p : ℕ) → P p) → AllPlaces P m
all_places P Nothing all = tt
all_places P (One at k x) all = all at
all_places P (Both a b) all = (all_places P a all, all_places P b all)
all_places P (Each n m) all = λ i lt. all_places P (m i) all

pub all_places_so : (P Q : ℕ → Type 0) (m : Map) → ((p : ℕ) → P p → Q p) → AllPlaces P m → AllPlaces Q m
all_places_so P Q Nothing so own = tt
all_places_so P Q (One at k x) so own = so at own
all_places_so P Q (Both a b) so own = (all_places_so P Q a so own.0, all_places_so P Q b so own.1)
all_places_so P Q (Each n m) so own = λ i lt. all_places_so P Q (m i) so (own i lt)

-- a row's words are within it
pub row_within : (at count : ℕ) (k : Kind) (value : ℕ → ℕ)
    → AllPlaces (λ p. is_within at count p ≡ true) (row at count k value)
row_within at count k value = λ j lt. is_inside at count j lt

-- Laws of events

-- a map outlives events that are calm at its places
pub known_calm : (core : ℕ) (m : Map) (f g : ℕ → Word) → AllPlaces (λ p. WordCalm (f p) (g p)) m → IsKnown core m f
    → IsKnown core m g
known_calm core Nothing f g calm h = tt
known_calm core (One at k x) f g calm h = calm_word core k (f at) (g at) x calm h
known_calm core (Both a b) f g calm h = (known_calm core a f g calm.0 h.0, known_calm core b f g calm.1 h.1)
known_calm core (Each n m) f g calm h = λ i lt. known_calm core (m i) f g (calm i lt) (h i lt)

-- a fence by the core settles it
pub known_fenced : (core : ℕ) (m : Map) (f g : ℕ → Word) → AllPlaces (λ p. WordFenced core (f p) (g p)) m
    → IsKnown core m f → IsKnown core (with_kinds settled m) g
known_fenced core Nothing f g fence h = tt
known_fenced core (One at k x) f g fence h = fence_word core k (f at) (g at) x fence h
known_fenced core (Both a b) f g fence h = (known_fenced core a f g fence.0 h.0, known_fenced core b f g fence.1 h.1)
known_fenced core (Each n m) f g fence h = λ i lt. known_fenced core (m i) f g (fence i lt) (h i lt)

-- a flush by the core of all its words puts it in flight
pub known_flushed : (core : ℕ) (m : Map) (f g : ℕ → Word) (from count : ℕ)
    → ((i : ℕ) → g i ≡ flushes core from count f i)
    → AllPlaces (λ p. is_within from count p ≡ true) m → IsKnown core m f → IsKnown core (with_kinds in_flight m) g
known_flushed core Nothing f g from count e own h = tt
known_flushed core (One at k x) f g from count e own h =
    let s : g at ≡ flushed core (f at) = rw own at (e at) in
    subst (λ (t : Word). WordIs core (in_flight k) t x) (sym s) (marked_word core k (f at) x h)
known_flushed core (Both a b) f g from count e own h = (
  known_flushed core a f g from count e own.0 h.0,
  known_flushed core b f g from count e own.1 h.1,
)
known_flushed core (Each n m) f g from count e own h = λ i lt. known_flushed core (m i) f g from count e (own i lt)
    (h i lt)

-- what is known of a word that is stored to
pub stored_word : (core : ℕ) (k : Kind) (w : Word) (x y : ℕ) → WordIs core k w x
    → WordIs core (overwritten k x) (stored y w) y
stored_word core Any w x y h = refl
stored_word core Cached w x y h = refl
stored_word core Ready w x y h = refl
stored_word core Clean w x y h = (refl, inr h.1)
stored_word core (Over d) w x y h = refl
stored_word core (ReadyOver d) w x y h = refl

-- a burst: what was known of its words is known of what it stores, and what is elsewhere stays
pub known_burst : (core : ℕ) (m : Map) (f g : ℕ → Word) (from count : ℕ) (value : ℕ → ℕ)
    → ((i : ℕ) → g i ≡ bursts from count value f i)
    → IsKnown core m f → IsKnown core (after_burst from count value m) g
known_burst core Nothing f g from count value e h = tt
known_burst core (One at k x) f g from count value e h =
    cond_both (is_within from count at) (One at (overwritten k x) (value (at - from))) (One at k x)
    (λ m. IsKnown core m g)
    (λ yes.
    let s : g at ≡ stored (value (at - from)) (f at) = rw yes at (e at) in
    subst (λ (t : Word). WordIs core (overwritten k x) t (value (at - from))) (sym s)
    (stored_word core k (f at) x (value (at - from)) h))
    (λ off. let s : g at ≡ f at = rw off at (e at) in calm_word core k (f at) (g at) x (calm_same (f at) (g at) s) h)
known_burst core (Both a b) f g from count value e h = (
  known_burst core a f g from count value e h.0,
  known_burst core b f g from count value e h.1,
)
known_burst core (Each n m) f g from count value e h = λ i lt. known_burst core (m i) f g from count value e (h i lt)

-- the words of a burst are cached
pub known_row : (core : ℕ) (f g : ℕ → Word) (from count : ℕ) (value : ℕ → ℕ)
    → ((i : ℕ) → g i ≡ bursts from count value f i) → IsKnown core (row from count Cached value) g
known_row core f g from count value e = λ j lt. burst_cached f g from count j value e lt

pub reads_word : (core : ℕ) (k : Kind) (w : Word) (x : ℕ) → IsRead k → WordIs core k w x → w.cached ≡ x
reads_word core Any w x r h = absurd r
reads_word core Cached w x r h = h
reads_word core Ready w x r h = h.0
reads_word core Clean w x r h = h.0
reads_word core (Over d) w x r h = h.0
reads_word core (ReadyOver d) w x r h = h.0

-- the words of a copy are cached, with the values that were read
pub known_copied : (core : ℕ) (k : Kind) (f g : ℕ → Word) (from to count : ℕ) (value : ℕ → ℕ)
    → ((i : ℕ) → g i ≡ bursts to count (λ j. (f (from + j)).cached) f i)
    → IsRead k → IsKnown core (row from count k value) f → IsKnown core (row to count Cached value) g
known_copied core k f g from to count value e r h = λ j lt. burst_cached f g to count j
    (λ i. (f (from + i)).cached) e lt ∙ reads_word core k (f (from + j)) (value j) r (h j lt)

-- a cut leaves what the map allows
pub known_left : (core : ℕ) (m : Map) (f : ℕ → Word) (left : ℕ → ℕ) → AllPlaces (λ p. Left (f p) (left p)) m
    → IsKnown core m f → IsLeft m left
known_left core Nothing f left may h = tt
known_left core (One at k x) f left may h = left_word core k (f at) x (left at) h may
known_left core (Both a b) f left may h = (known_left core a f left may.0 h.0, known_left core b f left may.1 h.1)
known_left core (Each n m) f left may h = λ i lt. known_left core (m i) f left (may i lt) (h i lt)

-- and after it all is clean
pub known_cut : (core : ℕ) (m : Map) (f g : ℕ → Word) → ((i : ℕ) → g i ≡ cuts f i)
    → IsKnown core (after_cut (λ p. (g p).durable) m) g
known_cut core Nothing f g e = tt
known_cut core (One at k x) f g e = cut_clean f g e core at
known_cut core (Both a b) f g e = (known_cut core a f g e, known_cut core b f g e)
known_cut core (Each n m) f g e = λ i lt. known_cut core (m i) f g e

-- Laws of kinds, and of a map that says less

pub gives_same : (k : Kind) → Gives k k
gives_same k = λ core w x h. h

pub gives_any : (k : Kind) → Gives k Any
gives_any k = λ core w x h. tt

pub gives_cached : (k : Kind) → IsRead k → Gives k Cached
gives_cached k r = λ core w x h. reads_word core k w x r h

pub clean_gives : (k : Kind) → Gives Clean k
clean_gives Any = λ core w x h. tt
clean_gives Cached = λ core w x h. h.0
clean_gives Ready = λ core w x h. (h.0, inl h.1)
clean_gives Clean = λ core w x h. h
clean_gives (Over d) = λ core w x h. (h.0, inl h.1)
clean_gives (ReadyOver d) = λ core w x h. (h.0, inl h.1)

pub ready_over_gives : (d : ℕ) → Gives (ReadyOver d) (Over d)
ready_over_gives d = λ core w x h. (h.0, elim h.1 [ inl s ↦ inl s | inr s ↦ inr s.0 ])

pub ready_over_gives_ready : (d : ℕ) → Gives (ReadyOver d) Ready
ready_over_gives_ready d = λ core w x h. (h.0, elim h.1 [ inl s ↦ inl s | inr s ↦ inr s.1 ])

pub known_weaker : (core : ℕ) (m l : Map) (f : ℕ → Word) → Weakens m l → IsKnown core m f → IsKnown core l f
known_weaker core m Nothing f less h = tt
known_weaker core (One at k x) (One to j y) f less h =
    subst (λ (p : ℕ). WordIs core j (f p) y) less.0 (subst (λ (v : ℕ). WordIs core j (f at) v) less.1
    (less.2 core (f at) x h))
known_weaker core (Both a b) (Both c d) f less h = (
  known_weaker core a c f less.0 h.0,
  known_weaker core b d f less.1 h.1,
)
known_weaker core (Each n m) (Each o l) f less h = λ i lt. known_weaker core (m i) (l i) f (less.1 i lt)
    (h i (omega (arith, less.0)))
known_weaker _ _ _ f less h = absurd less

-- Maps of words of P. What happens may be told of the words of P alone, wherever else it stores.

pub known_calm_in : {P : ℕ → Type 0} (core : ℕ) (m : Map) (f g : ℕ → Word) → AllPlaces P m
    → ((p : ℕ) → P p → WordCalm (f p) (g p)) → IsKnown core m f → IsKnown core m g
known_calm_in {P} core m f g own calm h = known_calm core m f g (all_places_so P _ m calm own) h

pub known_fenced_in : {P : ℕ → Type 0} (core : ℕ) (m : Map) (f g : ℕ → Word) → AllPlaces P m
    → ((p : ℕ) → P p → WordFenced core (f p) (g p)) → IsKnown core m f → IsKnown core (with_kinds settled m) g
known_fenced_in {P} core m f g own fence h = known_fenced core m f g (all_places_so P _ m fence own) h

pub known_left_in : {P : ℕ → Type 0} (core : ℕ) (m : Map) (f : ℕ → Word) (left : ℕ → ℕ) → AllPlaces P m
    → ((p : ℕ) → P p → Left (f p) (left p)) → IsKnown core m f → IsLeft m left
known_left_in {P} core m f left own may h = known_left core m f left (all_places_so P _ m may own) h

-- words that a burst doesn't store
pub known_elsewhere : (core : ℕ) (m : Map) (f g : ℕ → Word) (from count : ℕ) (value : ℕ → ℕ)
    → ((i : ℕ) → g i ≡ bursts from count value f i) → AllPlaces (λ p. is_within from count p ≡ false) m
    → IsKnown core m f → IsKnown core m g
known_elsewhere core m f g from count value e off h =
    known_calm_in core m f g off (λ p out. calm_same (f p) (g p) (rw out at (e p))) h
