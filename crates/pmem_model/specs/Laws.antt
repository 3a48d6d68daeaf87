-- Laws of the memory.
use Rattle.std.specs.Prelude.{◌≡◌, ℕ, Bool, true, false, ◌+◌, ◌-◌, ◌⊎◌}
use Rattle.pmem_model.specs.Words.{Word, is_within, bursts, part_bursts, flushes, fences, writes_back, cuts}
use Rattle.pmem_model.specs.Events.{WordCalm, WordFenced, Kind, Cached, WordIs, settled, in_flight, Left, MayBe}
use Rattle.pmem_model.specs.Maps.{Map, row, IsKnown, AllPlaces, with_kinds, after_burst, IsLeft, after_cut, Weakens, IsRead}

-- A burst that is stopped

-- A burst that is stopped after it stored the words `stored`, with `early` written back before they were stored or not
-- stored, and `late` written back after they were, leaves at a cut what the whole burst leaves there.
abbrev pub StoppedBurstIsWhole : Type 0
StoppedBurstIsWhole =
    (f : ℕ → Word) (at count : ℕ) (value : ℕ → ℕ) (stored early late : ℕ → Bool)
    → ((i : ℕ) → stored i ≡ true → is_within at count i ≡ true)
    → ((i : ℕ) → late i ≡ true → stored i ≡ true)
    → (i : ℕ) → cuts (writes_back late (part_bursts stored at value (writes_back early f))) i
    ≡ cuts (writes_back late (bursts at count value (writes_back early f))) i

-- What a cut may leave

-- a cut now, after some write-backs, may leave these durable words
abbrev pub MayLeave : (ℕ → Word) → (ℕ → ℕ) → Type 0
MayLeave f left = (i : ℕ) → (left i ≡ (f i).durable) ⊎ (left i ≡ (f i).cached)

-- a cut after chosen write-backs leaves what `MayLeave` allows
abbrev pub CutLeaves : Type 0
CutLeaves = (f : ℕ → Word) (chosen : ℕ → Bool) → MayLeave f (λ i. (cuts (writes_back chosen f) i).durable)

-- and whatever it allows, a cut leaves after some choice of write-backs
abbrev pub CutCanLeave : Type 0
CutCanLeave = (f : ℕ → Word) (left : ℕ → ℕ) → MayLeave f left
    → (chosen : ℕ → Bool) × ((i : ℕ) → (cuts (writes_back chosen f) i).durable ≡ left i)

-- whatever may be left after `g` might be left before
abbrev pub LeavesNoMore : (ℕ → Word) → (ℕ → Word) → Type 0
LeavesNoMore f g = (left : ℕ → ℕ) → MayLeave g left → MayLeave f left

-- flushes, fences, write-backs and cuts leave nothing new
pub record OnlyBurstsLeaveMore : Type 0 where
  pub flush : (f : ℕ → Word) (core at count : ℕ) → LeavesNoMore f (flushes core at count f)
  pub fence : (f : ℕ → Word) (core : ℕ) → LeavesNoMore f (fences core f)
  pub write_back : (f : ℕ → Word) (chosen : ℕ → Bool) → LeavesNoMore f (writes_back chosen f)
  pub cut : (f : ℕ → Word) → LeavesNoMore f (cuts f)

-- what may be left after a burst: outside of it what might be left before, and in it the new values or the durable ones
abbrev pub BurstLeaves : Type 0
BurstLeaves = (f : ℕ → Word) (at count : ℕ) (value left : ℕ → ℕ) → MayLeave (bursts at count value f) left
    → (i : ℕ) → (is_within at count i ≡ true → (left i ≡ (f i).durable) ⊎ (left i ≡ value (i - at)))
    × (is_within at count i ≡ false → (left i ≡ (f i).durable) ⊎ (left i ≡ (f i).cached))

-- no mix of calm events leaves anything new
abbrev pub CalmLeavesNoMore : Type 0
CalmLeavesNoMore = (f g : ℕ → Word) → ((i : ℕ) → WordCalm (f i) (g i)) → LeavesNoMore f g

-- What is known of a word

-- flushes, fences and write-backs are calm at each word, and a burst is outside of it
pub record CalmEvents : Type 0 where
  pub flush : (f : ℕ → Word) (core at count i : ℕ) → WordCalm (f i) (flushes core at count f i)
  pub fence : (f : ℕ → Word) (core i : ℕ) → WordFenced core (f i) (fences core f i)
  pub write_back : (f : ℕ → Word) (chosen : ℕ → Bool) (i : ℕ) → WordCalm (f i) (writes_back chosen f i)
  pub burst : (f : ℕ → Word) (at count : ℕ) (value : ℕ → ℕ) (i : ℕ) → is_within at count i ≡ false
      → WordCalm (f i) (bursts at count value f i)
  pub both : (w u t : Word) → WordCalm w u → WordCalm u t → WordCalm w t

-- what is known of a word outlives calm events
abbrev pub KnownOutlivesCalm : Type 0
KnownOutlivesCalm = (core : ℕ) (k : Kind) (w u : Word) (x : ℕ) → WordCalm w u → WordIs core k w x → WordIs core k u x

-- a flush by the core puts in flight what is known of a word
abbrev pub FlushPutsInFlight : Type 0
FlushPutsInFlight = (f : ℕ → Word) (core : ℕ) (k : Kind) (at count i x : ℕ) → is_within at count i ≡ true
    → WordIs core k (f i) x → WordIs core (in_flight k) (flushes core at count f i) x

-- a fence by the core settles what is known of a word
abbrev pub FenceSettles : Type 0
FenceSettles = (core : ℕ) (k : Kind) (w u : Word) (x : ℕ) → WordFenced core w u → WordIs core k w x
    → WordIs core (settled k) u x

-- a cut leaves of a word what is known of it
abbrev pub CutLeavesKnown : Type 0
CutLeavesKnown = (core : ℕ) (k : Kind) (w : Word) (x y : ℕ) → WordIs core k w x → Left w y → MayBe k x y

-- What is known of many words

-- A map outlives events that are calm at its words.
abbrev pub MapsOutliveCalm : Type 0
MapsOutliveCalm = (core : ℕ) (m : Map) (f g : ℕ → Word) → AllPlaces (λ p. WordCalm (f p) (g p)) m
    → IsKnown core m f → IsKnown core m g

-- Flushes and fences by any core, write-backs, and bursts of other words leave it as it is.
pub record EventsKeepMaps : Type 0 where
  pub flush : (core c : ℕ) (m : Map) (f : ℕ → Word) (from count : ℕ)
      → IsKnown core m f → IsKnown core m (flushes c from count f)
  pub fence : (core c : ℕ) (m : Map) (f : ℕ → Word) → IsKnown core m f → IsKnown core m (fences c f)
  pub write_back : (core : ℕ) (m : Map) (f : ℕ → Word) (chosen : ℕ → Bool)
      → IsKnown core m f → IsKnown core m (writes_back chosen f)
  pub burst : (core : ℕ) (m : Map) (f : ℕ → Word) (from count : ℕ) (value : ℕ → ℕ)
      → AllPlaces (λ p. is_within from count p ≡ false) m
      → IsKnown core m f → IsKnown core m (bursts from count value f)

-- A burst changes what is known of its words, and nothing elsewhere.
abbrev pub BurstChangesMap : Type 0
BurstChangesMap = (core : ℕ) (m : Map) (f : ℕ → Word) (from count : ℕ) (value : ℕ → ℕ)
    → IsKnown core m f → IsKnown core (after_burst from count value m) (bursts from count value f)

-- Each word that a burst stores is cached, whatever was known of it.
abbrev pub BurstIsCached : Type 0
BurstIsCached = (core : ℕ) (f : ℕ → Word) (from count : ℕ) (value : ℕ → ℕ)
    → IsKnown core (row from count Cached value) (bursts from count value f)

-- So is each that a copy stores, with the values that are known where it copies from.
abbrev pub CopyIsCached : Type 0
CopyIsCached = (core : ℕ) (k : Kind) (f : ℕ → Word) (from to count : ℕ) (value : ℕ → ℕ)
    → IsRead k → IsKnown core (row from count k value) f
    → IsKnown core (row to count Cached value) (bursts to count (λ j. (f (from + j)).cached) f)

-- A flush by the core of all words of a map puts them in flight.
abbrev pub FlushPutsMapInFlight : Type 0
FlushPutsMapInFlight = (core : ℕ) (m : Map) (f : ℕ → Word) (from count : ℕ)
    → AllPlaces (λ p. is_within from count p ≡ true) m
    → IsKnown core m f → IsKnown core (with_kinds in_flight m) (flushes core from count f)

-- A fence by the core settles it.
abbrev pub FenceSettlesMap : Type 0
FenceSettlesMap = (core : ℕ) (m : Map) (f g : ℕ → Word) → AllPlaces (λ p. WordFenced core (f p) (g p)) m
    → IsKnown core m f → IsKnown core (with_kinds settled m) g

-- A cut leaves of its words what the map allows.
abbrev pub CutLeavesMap : Type 0
CutLeavesMap = (core : ℕ) (m : Map) (f : ℕ → Word) (left : ℕ → ℕ) → AllPlaces (λ p. Left (f p) (left p)) m
    → IsKnown core m f → IsLeft m left

-- After a cut all words are clean.
abbrev pub CutIsClean : Type 0
CutIsClean = (core : ℕ) (m : Map) (f : ℕ → Word) → IsKnown core (after_cut (λ p. (cuts f p).durable) m) (cuts f)

-- Of fewer places and weaker kinds no less is known.
abbrev pub LessIsKnown : Type 0
LessIsKnown = (core : ℕ) (m l : Map) (f : ℕ → Word) → Weakens m l → IsKnown core m f → IsKnown core l f
