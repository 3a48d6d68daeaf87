-- What the device accepts.
use Rattle.std.proofs.Common.{arith, ◌≡◌, ◌≢◌, ◌⊎◌, ℕ, ◌+◌, ◌-◌, ◌*◌, ◌<◌, ◌≤◌, ◌==◌, ◌∙◌, ap, sym, refl, subst, Some, None, List, [], ◌∷◌, ◌++◌, slice_index, slice_index_or, slice_set, length, ⊎_elim, true, false, append_assoc, length-append, get_or-set_other}
use Rattle.std.proofs.lemmas.List.{get_or-set_same}
use Rattle.std.proofs.Math.Seq.{get_or-append_seam}
use Rattle.std.proofs.lemmas.Bool.Decides.{nat_tests}
use Rattle.sls_base.specs.declared.limits.TheConstants.{FRAME_WORDS}
use Rattle.pmem_model.specs.Words.{Word}
use Rattle.pmem_model.specs.Memory.{Memory, word_at}
use Rattle.pmem_model.specs.Events.{Clean}
use Rattle.sls_kernel.specs.Plain.{State, World, accept, offered, accepted_count, is_offered, next_entry, with_entry}
use Rattle.sls_kernel.specs.Words.{IsRing, IsEntry, Tells, area_of, area_place, frame_place, part_words, record_word}
use Rattle.sls_kernel.specs.Areas.{PartsAre}
use Rattle.sls_kernel.specs.Shows.{Shows, WordsShow, AtStage, AreState, HasCounts, IsPrefixOf, LeadsTo, put_count}
use Rattle.sls_kernel.specs.Side.{IsServing, mode_of}
use Rattle.arrayvec.specs.ArrayVec.{ArrayVec}
use Rattle.sls_base.specs.declared.entry.Entry.{Entry}
use Rattle.sls_kernel.specs.declared.machine.Machine.{Machine}
use Rattle.sls_kernel.specs.declared.stage.Stage.{Stage}
use Rattle.sls_kernel.specs.declared.stage.Stage.TheVariants.{Format, Recover, Up, Checkpoint}
use Rattle.sls_kernel.proofs.Durable.{entry_along}
use Rattle.sls_kernel.proofs.WriteBacks.{running_on}

-- a machine that serves has its saved area durable
pub serving_area : (stage : Stage) (f : ℕ → Word) (v : ℕ) (now saved : ℕ → ℕ → ℕ) → IsServing (mode_of stage) → WordsShow stage f v now saved → PartsAre (λ part. Clean) f (area_place (area_of v)) saved
serving_area (Format step) f v now saved h known = absurd h
serving_area (Recover page) f v now saved h known = absurd h
serving_area Up f v now saved h known = known.saved_area
serving_area (Checkpoint step) f v now saved h known = known.saved_area

pub area_is : (v : ℕ) (u : Word) (area version : ℕ) → area ≡ area_of version → version ≡ u.durable → u.durable ≡ v → area ≡ area_of v
area_is v u area version e is durable = e ∙ ap area_of (is ∙ durable)

-- the durable count of a channel's entries
count_word : (s : State) (channel : ℕ) → channel < 4 → record_word s.thread (put_count s) (17 + channel) ≡ put_count s channel
count_word s channel lt = let e : 17 + channel - 17 ≡ channel = omega arith in let f = ap (put_count s) e in grind (arith, nat_tests, f)

pub count_read : (v area frame channel : ℕ) (f : ℕ → Word) (saved : ℕ → ℕ → ℕ) (accepted : ℕ → ℕ) (s : State) → area ≡ area_of v → frame ≡ 16 + 8 * area + 5 → channel < 4 → PartsAre (λ part. Clean) f (area_place (area_of v)) saved → AreState saved accepted s
    → (f (frame_place frame + (17 + channel))).durable ≡ length (s.out channel)
count_read v area frame channel f saved accepted s area_at frame_at lt known is =
    let at : frame_place frame + (17 + channel) ≡ area_place (area_of v) 5 (17 + channel) = ap (λ (x : ℕ). frame_place x + (17 + channel)) (frame_at ∙ ap (λ (x : ℕ). 16 + 8 * x + 5) area_at) in
    ap (λ (x : ℕ). (f x).durable) at ∙ ((known 5 (17 + channel) (omega arith) (omega arith)).1 ∙ (is.thread_record (17 + channel) (omega arith) ∙ count_word s channel lt))

page_fits : (page i : ℕ) → page < 5 → i < FRAME_WORDS → i < part_words page
page_fits page i p lt = grind (arith)

-- the next entry stands in the saved area
pub entry_read : (v area frame channel number : ℕ) (f : ℕ → Word) (saved : ℕ → ℕ → ℕ) (accepted : ℕ → ℕ) (s : State) → area ≡ area_of v → frame ≡ 16 + 8 * area + channel → channel < 4 → PartsAre (λ part. Clean) f (area_place (area_of v)) saved → AreState saved accepted s
    → accepted channel ≤ number → number < length (s.out channel) → IsEntry (λ i. (f (frame_place frame + i)).durable) number (slice_index_or (s.out channel) number [])
entry_read v area frame channel number f saved accepted s area_at frame_at lt known is low high =
    let at : frame ≡ 16 + 8 * area_of v + channel = frame_at ∙ ap (λ (x : ℕ). 16 + 8 * x + channel) area_at in
    entry_along (saved channel) (λ i. (f (frame_place frame + i)).durable) number (slice_index_or (s.out channel) number [])
    (λ i inside. ap (λ (x : ℕ). (f (frame_place x + i)).durable) at ∙ (known channel i (omega arith) (page_fits channel i (omega arith) inside)).1)
    ((is.holds.rings channel lt).entries number low high)

-- nothing is offered
pub none_offered : (w : World) (channel : ℕ) → length (w.saved.out channel) ≤ accepted_count w channel → ((offered w channel) ≡ None) × ((accept w channel) ≡ w)
none_offered w channel h =
    let test : is_offered w channel ≡ false = grind (arith, nat_tests) in
    (rw test refl, rw test refl)

pub one_offered : (w : World) (channel : ℕ) → accepted_count w channel < length (w.saved.out channel)
    → ((offered w channel) ≡ Some (record { number = accepted_count w channel; bytes = record { items = next_entry w channel } })) × ((accept w channel) ≡ record w { released = with_entry w.released channel (next_entry w channel) })
one_offered w channel h =
    let test : is_offered w channel ≡ true = grind (arith, nat_tests) in
    (rw test refl, rw test refl)

same_or_not : (a b : ℕ) → (a ≡ b) ⊎ (a ≢ b)
same_or_not a b = grind arith

-- One more entry is accepted.
abbrev pub took : World → ℕ → World
took w channel = record w { released = with_entry w.released channel (next_entry w channel) }

pub more_here : (w : World) (channel : ℕ) → accepted_count (took w channel) channel ≡ accepted_count w channel + 1
more_here w channel =
    let test : (channel == channel) ≡ true = grind (arith, nat_tests) in
    rw test (length-append (w.released channel) (next_entry w channel ∷ []))

pub more_other : (w : World) (channel c : ℕ) → c ≢ channel → accepted_count (took w channel) c ≡ accepted_count w c
more_other w channel c other =
    let test : (c == channel) ≡ false = grind (arith, nat_tests) in
    rw test refl

-- the device has the next entry too
tells_more : (accepted : List ℕ) (w : World) (channel : ℕ) → length accepted ≡ 4 → channel < 4 → Tells accepted (accepted_count w) → Tells (slice_set accepted channel (slice_index accepted channel + 1)) (accepted_count (took w channel))
tells_more accepted w channel size lt tells = λ c below. ⊎_elim
    (λ (same : c ≡ channel). subst (λ (x : ℕ). slice_index (slice_set accepted channel (slice_index accepted channel + 1)) x ≡ accepted_count (took w channel) x) (sym same)
    (get_or-set_same accepted channel (slice_index accepted channel + 1) 0 (omega arith) ∙ (ap (λ (x : ℕ). x + 1) (tells channel lt) ∙ sym (more_here w channel))))
    (λ (other : c ≢ channel). get_or-set_other accepted channel c (slice_index accepted channel + 1) 0 other ∙ (tells c below ∙ sym (more_other w channel c other)))
    (same_or_not c channel)

later_count : (w : World) (channel c : ℕ) → accepted_count w c ≤ accepted_count (took w channel) c
later_count w channel c = ⊎_elim
    (λ (same : c ≡ channel). subst (λ (x : ℕ). accepted_count w x ≤ accepted_count (took w channel) x) (sym same) (let e = more_here w channel in omega arith))
    (λ (other : c ≢ channel). let e = more_other w channel c other in omega arith)
    (same_or_not c channel)

-- what a device that had accepted fewer is told holds for it now
ring_later : (words : ℕ → ℕ) (a b : ℕ) (out : List (List ℕ)) → a ≤ b → IsRing words a out → IsRing words b out
ring_later words a b out le is = record { entries = λ number low high. is.entries number (omega arith) high; room = omega (arith, is.room); number = is.number }

state_later : (words : ℕ → ℕ → ℕ) (a b : ℕ → ℕ) (s : State) → ((c : ℕ) → a c ≤ b c) → AreState words a s → AreState words b s
state_later words a b s le is = record {
  holds = record {
    page = is.holds.page;
    rings = λ channel lt. ring_later (words channel) (a channel) (b channel) (s.out channel) (le channel) (is.holds.rings channel lt);
    thread = is.holds.thread;
  };
  thread_record = is.thread_record;
}

-- one more entry is still a prefix
prefix_more : (xs out : List (List ℕ)) → IsPrefixOf xs out → length xs < length out → IsPrefixOf (xs ++ slice_index_or out (length xs) [] ∷ []) out
prefix_more xs out ([], e) more = absurd (let n = ap length e in let m = length-append xs [] in omega arith)
prefix_more xs out (x ∷ rest, e) more =
    let here : slice_index_or out (length xs) [] ≡ x = subst (λ (l : List (List ℕ)). slice_index_or l (length xs) [] ≡ x) e (get_or-append_seam xs x rest []) in
    (rest, append_assoc xs (slice_index_or out (length xs) [] ∷ []) rest ∙ (ap (λ (y : List ℕ). xs ++ y ∷ rest) here ∙ e))

released_more : (w : World) (channel : ℕ) → accepted_count w channel < length (w.saved.out channel) → ((c : ℕ) → IsPrefixOf (w.released c) (w.saved.out c)) → (c : ℕ) → IsPrefixOf ((took w channel).released c) (w.saved.out c)
released_more w channel more are c = ⊎_elim
    (λ (same : c ≡ channel). let test : (c == channel) ≡ true = grind (arith, nat_tests) in
    rw test (subst (λ (x : ℕ). IsPrefixOf (w.released x ++ next_entry w channel ∷ []) (w.saved.out x)) (sym same) (prefix_more (w.released channel) (w.saved.out channel) (are channel) more)))
    (λ (other : c ≢ channel). let test : (c == channel) ≡ false = grind (arith, nat_tests) in rw test (are c))
    (same_or_not c channel)

stage_took : (stage : Stage) (m n : Machine) (w : World) (channel : ℕ) (now saved : ℕ → ℕ → ℕ) → IsServing (mode_of stage) → n.thread ≡ m.thread → n.put ≡ m.put → n.next ≡ m.next → AtStage stage m w now saved → AtStage stage n (took w channel) now saved
stage_took (Format step) m n w channel now saved h thread put next at = absurd h
stage_took (Recover page) m n w channel now saved h thread put next at = absurd h
stage_took Up m n w channel now saved h thread put next at = running_on m n w.now thread put at
stage_took (Checkpoint step) m n w channel now saved h thread put next at = (running_on m n w.now thread put at.0, subst (λ (x : ℕ). LeadsTo step w.version x) (sym next) at.1)

pub shows_took : (m n : Machine) (w : World) (channel : ℕ) → channel < 4 → IsServing (mode_of m.stage) → length m.accepted ≡ 4 → n.nvm ≡ m.nvm → n.stage ≡ m.stage → n.thread ≡ m.thread → n.put ≡ m.put → n.next ≡ m.next
    → n.accepted ≡ slice_set m.accepted channel (slice_index m.accepted channel + 1) → accepted_count w channel < length (w.saved.out channel) → Shows m w → Shows n (took w channel)
shows_took m n w channel lt serving size nvm stage thread put next accepted more s = record {
  now_words = s.now_words;
  saved_words = s.saved_words;
  now_is = state_later s.now_words (accepted_count w) (accepted_count (took w channel)) w.now (later_count w channel) s.now_is;
  saved_is = state_later s.saved_words (accepted_count w) (accepted_count (took w channel)) w.saved (later_count w channel) s.saved_is;
  words = subst (λ (mem : Memory). WordsShow n.stage (word_at mem) w.version s.now_words s.saved_words) (sym nvm) (subst (λ (t : Stage). WordsShow t (word_at m.nvm) w.version s.now_words s.saved_words) (sym stage) s.words);
  counted = record {
    count = subst (λ (a : List ℕ). Tells a (accepted_count (took w channel))) (sym accepted) (tells_more m.accepted w channel size lt s.counted.count);
    released = released_more w channel more s.counted.released;
    saved = s.counted.saved;
    version = s.counted.version;
  };
  counts = subst (λ (mem : Memory). HasCounts mem (took w channel)) (sym nvm) (record { commits = s.counts.commits; cuts = s.counts.cuts });
  stage = subst (λ (t : Stage). AtStage t n (took w channel) s.now_words s.saved_words) (sym stage) (stage_took m.stage m n w channel s.now_words s.saved_words serving thread put next s.stage);
}

abbrev pub entry_of : ℕ → ArrayVec ℕ → Entry
entry_of number bytes = record { number = number; bytes = bytes }

pub same_entry : {a b : ℕ} {xs : ArrayVec ℕ} {ys : List ℕ} → a ≡ b → xs.items ≡ ys → Some (entry_of a xs) ≡ Some (entry_of b (record { items = ys }))
same_entry {a} {b} {xs} {ys} p q = ap Some (subst (λ (n : ℕ). entry_of a xs ≡ entry_of n (record { items = ys })) p (ap (λ (l : List ℕ). entry_of a (record { items = l })) q))

pub shows_accepted : (m n : Machine) (w : World) (channel : ℕ) → channel < 4 → IsServing (mode_of m.stage) → length m.accepted ≡ 4 → n.nvm ≡ m.nvm → n.stage ≡ m.stage → n.thread ≡ m.thread → n.put ≡ m.put → n.next ≡ m.next
    → n.accepted ≡ slice_set m.accepted channel (slice_index m.accepted channel + 1) → accepted_count w channel < length (w.saved.out channel) → Shows m w → Shows n (accept w channel)
shows_accepted m n w channel lt serving size nvm stage thread put next accepted more s =
    subst (λ (x : World). Shows n x) (sym (one_offered w channel more).1) (shows_took m n w channel lt serving size nvm stage thread put next accepted more s)
