-- The entries of all channels that wait to be accepted.
use Rattle.std.specs.Prelude.{◌≡◌, ◌≢◌, ℕ, ◌+◌, ◌<◌, ◌≤◌, ◌==◌, Bool, true, false, List, [], ◌∷◌, ◌++◌, length, Some, if◌then◌else◌, slice_index_or}
use Rattle.std.proofs.Common.{ap, subst, sym, ◌∙◌, arith, inl, inr}
use Rattle.std.proofs.lemmas.Bool.{cases_eq, cases_lt, eq-eqb, ltb-true, ne_eqb}
use Rattle.std.proofs.lemmas.List.{get_or_append_left, get_or_push, length-append, length_push}
use Rattle.sls_base.specs.declared.limits.TheConstants.{ENTRY_BYTES, OUTPUT_CHANNELS, RING_ENTRIES}
use Rattle.plain_model.specs.Objects.{page_of_channel}
use Rattle.plain_model.specs.Worlds.{World, accepted_count}
use Rattle.plain_model.specs.Ticks.{with_output}
use Rattle.plain_model.specs.Play.{accept, is_offered, next_bytes, with_released}
use Rattle.plain_laws.specs.Laws.{IsFirstPart}
use Rattle.page_bytes.specs.Bytes.{overwritten, with_bytes}
use Rattle.out_gate.specs.Entries.{entry_at, place_bytes, with_entry, EntriesStand, HasEntry}
use Rattle.out_gate.proofs.Places.{kept, other_page, others_kept, stands}

-- One more entry.

module _ (content : ℕ → ℕ → ℕ) (w : World) (out : ℕ → List (List ℕ)) (channel : ℕ) (entry : List ℕ) (some : 1 ≤ length entry) (most : length entry ≤ ENTRY_BYTES)
    (room : w.base channel + length (out channel) < accepted_count w channel + RING_ENTRIES) (waiting : EntriesStand content w out) where
  number : ℕ
  number = w.base channel + length (out channel)

  -- on its own page
  own : (i : ℕ) → channel < OUTPUT_CHANNELS → length (w.released channel) ≤ i → i < length (out channel ++ entry ∷ [])
      → HasEntry (overwritten (content (page_of_channel channel)) (entry_at number) (place_bytes entry)) (w.base channel + i) (slice_index_or (out channel ++ entry ∷ []) i [])
  unfolding number
  own i below from to = elim (cases_lt i (length (out channel))) [
    | inl before ↦
        let same = get_or_append_left (out channel) (entry ∷ []) [] i before in
        rw same (others_kept (content (page_of_channel channel)) number (w.base channel + i) entry (slice_index_or (out channel) i []) most
        (omega (arith, before)) (omega (arith, room, from)) (waiting channel i below from before))
    | inr last ↦
        let here : i ≡ length (out channel) = omega (arith, last, to, length_push (out channel) entry) in
        let same = get_or_push (out channel) entry [] i (sym here) in
        rw same (rw here (stands (content (page_of_channel channel)) number entry some most))
  ]

  pub one_more : EntriesStand (with_entry content channel (w.base channel + length (out channel)) entry) w
      (with_output out (Some (record { channel = channel; bytes = record { items = entry } })))
  unfolding number
  one_more other i below from to = elim (cases_eq other channel) [
    | inl here ↦
        let same = eq-eqb other channel here in
        rw same (rw here (own i (subst (λ (c : ℕ). c < OUTPUT_CHANNELS) here below) (subst (λ (c : ℕ). length (w.released c) ≤ i) here from)
        (subst (λ (c : ℕ). i < length (out c ++ entry ∷ [])) here (rw same at to))))
    | inr ne ↦
        let apart = ne_eqb other channel ne in
        rw apart (waiting other i below from (rw apart at to))
  ]

-- One less.

grows : (released : ℕ → List (List ℕ)) (channel : ℕ) (bytes : List ℕ) (other : ℕ) → length (released other) ≤ length (with_released released channel bytes other)
grows released channel bytes other = by (other == channel)
  where
    by : (b : Bool) → length (released other) ≤ length (if b then released other ++ bytes ∷ [] else released other)
    by true = omega (arith, length_push (released other) bytes)
    by false = omega arith

pub one_less : (content : ℕ → ℕ → ℕ) (w : World) (out : ℕ → List (List ℕ)) (channel : ℕ) → EntriesStand content w out → EntriesStand content (accept w channel) out
one_less content w out channel waiting other i below from to = by (is_offered w channel) from
  where
    by : (b : Bool) → length ((if b then record w { released = with_released w.released channel (next_bytes w channel) } else w).released other) ≤ i
        → HasEntry (content (page_of_channel other)) ((if b then record w { released = with_released w.released channel (next_bytes w channel) } else w).base other + i) (slice_index_or (out other) i [])
    by true from = waiting other i below (omega (arith, grows w.released channel (next_bytes w channel) other, from)) to
    by false from = waiting other i below from to

-- The next one is offered.

pub next_stands : (content : ℕ → ℕ → ℕ) (w : World) (out : ℕ → List (List ℕ)) (channel : ℕ) → channel < OUTPUT_CHANNELS → IsFirstPart (w.saved.out channel) (out channel)
    → is_offered w channel ≡ true → EntriesStand content w out → HasEntry (content (page_of_channel channel)) (accepted_count w channel) (next_bytes w channel)
next_stands content w out channel below part offered waiting =
    let i = length (w.released channel) in
    let saved = w.saved.out channel in
    let inside : i < length saved = ltb-true i (length saved) offered in
    let long : i < length (out channel) = omega (arith, inside, length-append saved part.0, ap length part.1) in
    let same : slice_index_or (out channel) i [] ≡ slice_index_or saved i [] = ap (λ (l : List (List ℕ)). slice_index_or l i []) (sym part.1) ∙ get_or_append_left saved part.0 [] i inside in
    subst (λ (entry : List ℕ). HasEntry (content (page_of_channel channel)) (w.base channel + i) entry) same (waiting channel i below (omega arith) long)

-- Other pages.

pub same_pages : (first second : ℕ → ℕ → ℕ) (w : World) (out : ℕ → List (List ℕ))
    → ((channel offset : ℕ) → channel < OUTPUT_CHANNELS → second (page_of_channel channel) offset ≡ first (page_of_channel channel) offset)
    → EntriesStand first w out → EntriesStand second w out
same_pages first second w out same waiting channel i below from to =
    kept (first (page_of_channel channel)) (second (page_of_channel channel)) (w.base channel + i) (slice_index_or (out channel) i [])
    (λ k l. same channel (entry_at (w.base channel + i) + k) below) (waiting channel i below from to)

pub beside_rings : (content : ℕ → ℕ → ℕ) (w : World) (out : ℕ → List (List ℕ)) (page at : ℕ) (bytes : List ℕ)
    → ((channel : ℕ) → channel < OUTPUT_CHANNELS → page ≢ page_of_channel channel) → EntriesStand content w out → EntriesStand (with_bytes content page at bytes) w out
beside_rings content w out page at bytes apart waiting =
    same_pages content (with_bytes content page at bytes) w out
    (λ channel offset below. ap (λ (f : ℕ → ℕ). f offset) (other_page content page at (page_of_channel channel) bytes (λ e. apart channel below (sym e)))) waiting
