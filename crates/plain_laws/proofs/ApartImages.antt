-- Pages of objects: the state that an image begins with has them apart.
use Rattle.std.specs.Prelude.{◌≡◌, ◌≢◌, ℕ, zero, suc, ◌+◌, ◌<◌, ◌≤◌, List, [], ◌∷◌, ◌++◌, length, map, sum_by, AllPairs, Contains, Some, None, slice_get}
use Rattle.std.specs.List.{range_with_len}
use Rattle.std.proofs.Common.{refl, ap, sym, ◌∙◌, subst, arith, append_assoc, append-nil}
use Rattle.std.proofs.lemmas.List.{length-append, get_or_append_left}
use Rattle.std.proofs.lemmas.List.Elements.{Contains-append_left, Contains-append_right}
use Rattle.std.proofs.lemmas.List.Sums.{sum_by-cons}
use Rattle.std.proofs.lemmas.List.FromFn.{length-range_with_len, get_or-range_with_len}
use Rattle.sls_base.specs.declared.limits.TheConstants.{OBJECTS, PAGES}
use Rattle.sls_base.specs.declared.fixed.TheConstants.{FIRST_PROGRAM_OBJECT, FIRST_PROGRAM_PAGE}
use Rattle.sls_base.specs.declared.image.Image.{Image}
use Rattle.sls_base.specs.declared.image.Program.{Program}
use Rattle.sls_base.specs.declared.image.RegionSpec.{RegionSpec}
use Rattle.plain_state.specs.declared.label.Label.{Label}
use Rattle.plain_model.specs.Objects.{Object, Page, page_numbers}
use Rattle.plain_model.specs.Play.{play}
use Rattle.plain_model.specs.Initial.{program_memories, program_thread, program_objects, programs_objects, program_size, program_pages, pages_taken, memory_of, page_of_content, image_objects, initial, first_world, IsAccepted}
use Rattle.plain_laws.specs.Plays.{Both}
use Rattle.plain_laws.specs.Sound.{AreApart}
use Rattle.plain_laws.proofs.Free.{range_rises}
use Rattle.plain_laws.proofs.Apart.{AreGood, good_apart, in_none, none_twice}
use Rattle.plain_laws.proofs.ApartLabels.{played_good}
use Rattle.plain_laws.proofs.InRangeLabels.{image_count}

-- The page numbers of objects, in order.
abbrev pub all_numbers : List Object → List ℕ
all_numbers [] = []
all_numbers (o ∷ os) = page_numbers (Some o) ++ all_numbers os

pub numbers_append : (os more : List Object) → all_numbers (os ++ more) ≡ all_numbers os ++ all_numbers more
numbers_append [] more = refl
numbers_append (o ∷ os) more =
    ap (λ (l : List ℕ). page_numbers (Some o) ++ l) (numbers_append os more) ∙ sym (append_assoc (page_numbers (Some o)) (all_numbers os) (all_numbers more))

-- Where these are all different, pages are apart.

abbrev pub AreDifferent : List ℕ → Type 0
AreDifferent xs = AllPairs (λ p q. p ≢ q) xs

pub different_left : (xs ys : List ℕ) → AreDifferent (xs ++ ys) → AreDifferent xs
different_left xs ys h i j d l m =
    let e = length-append xs ys in
    rw (← get_or_append_left xs ys d i (omega arith), ← get_or_append_left xs ys d j m) (h i j d l (omega arith))

pub different_right : (xs ys : List ℕ) → AreDifferent (xs ++ ys) → AreDifferent ys
different_right [] ys h = h
different_right (x ∷ xs) ys h = different_right xs ys (λ i j d l m. h (suc i) (suc j) d (omega arith) (omega arith))

pub not_head : (x : ℕ) (xs : List ℕ) → AreDifferent (x ∷ xs) → Contains xs x → ⊥
not_head x xs h c = (let l = c.1 in h 0 (suc c.0) x (omega arith) (omega arith) (sym c.2))

pub not_both : (xs ys : List ℕ) (x : ℕ) → AreDifferent (xs ++ ys) → Contains xs x → Contains ys x → ⊥
not_both [] ys x h c d = in_none x c
not_both (y ∷ xs) ys x h (zero, l, e) d = not_head y (xs ++ ys) h (Contains-append_right xs ys y (subst (Contains ys) (sym e) d))
not_both (y ∷ xs) ys x h (suc k, l, e) d = not_both xs ys x (λ i j d l m. h (suc i) (suc j) d (omega arith) (omega arith)) (k, omega arith, e) d

pub among_all : (os : List Object) (i page : ℕ) → Contains (page_numbers (slice_get os i)) page → Contains (all_numbers os) page
among_all [] i page c = absurd (in_none page c)
among_all (o ∷ os) zero page c = Contains-append_left (page_numbers (Some o)) (all_numbers os) page c
among_all (o ∷ os) (suc i) page c = Contains-append_right (page_numbers (Some o)) (all_numbers os) page (among_all os i page c)

pub once_each : (os : List Object) (i : ℕ) → AreDifferent (all_numbers os) → AreDifferent (page_numbers (slice_get os i))
once_each [] i h = none_twice
once_each (o ∷ os) zero h = different_left (page_numbers (Some o)) (all_numbers os) h
once_each (o ∷ os) (suc i) h = once_each os i (different_right (page_numbers (Some o)) (all_numbers os) h)

pub one_only : (os : List Object) (i j page : ℕ) → AreDifferent (all_numbers os) → Contains (page_numbers (slice_get os i)) page → Contains (page_numbers (slice_get os j)) page → i ≡ j
one_only [] i j page h c d = absurd (in_none page c)
one_only (o ∷ os) zero zero page h c d = refl
one_only (o ∷ os) zero (suc j) page h c d = absurd (not_both (page_numbers (Some o)) (all_numbers os) page h c (among_all os j page d))
one_only (o ∷ os) (suc i) zero page h c d = absurd (not_both (page_numbers (Some o)) (all_numbers os) page h d (among_all os i page c))
one_only (o ∷ os) (suc i) (suc j) page h c d = ap suc (one_only os i j page (different_right (page_numbers (Some o)) (all_numbers os) h) c d)

pub nothing_past : (os : List Object) (i : ℕ) → length os ≤ i → slice_get os i ≡ None
nothing_past [] i l = refl
nothing_past (o ∷ os) zero l = absurd (omega arith)
nothing_past (o ∷ os) (suc i) l = nothing_past os i (omega arith)

-- Ranges.

pub range_different : (a n : ℕ) → AreDifferent (range_with_len a n)
range_different a n i j d l m same = (let r = range_rises a n i j d l m in omega arith)

pub range_below : (n page : ℕ) → Contains (range_with_len 0 n) page → page < n
range_below n page c =
    let l = c.1 in
    let e = length-range_with_len 0 n in
    let f = sym (get_or-range_with_len 0 n c.0 page (omega arith)) ∙ c.2 in
    omega arith

pub range_append : (a n m : ℕ) → range_with_len a n ++ range_with_len (a + n) m ≡ range_with_len a (n + m)
range_append a zero m = (let e : a + 0 ≡ a = omega arith in let f : 0 + m ≡ m = omega arith in ap (λ (b : ℕ). range_with_len b m) e ∙ ap (range_with_len a) (sym f))
range_append a (suc n) m =
    let e : a + suc n ≡ a + 1 + n = omega arith in
    let f : suc n + m ≡ suc (n + m) = omega arith in
    ap (λ (b : ℕ). a ∷ range_with_len (a + 1) n ++ range_with_len b m) e ∙ ap (λ (l : List ℕ). a ∷ l) (range_append (a + 1) n m) ∙ ap (range_with_len a) (sym f)

pub good_list : (os : List Object) (n : ℕ) → all_numbers os ≡ range_with_len 0 n → n ≤ PAGES → length os ≤ OBJECTS → AreGood (slice_get os)
good_list os n is pages objects =
    let different : AreDifferent (all_numbers os) = subst AreDifferent (sym is) (range_different 0 n) in
    record {
      in_range = λ i page c. (let l = range_below n page (subst (λ (xs : List ℕ). Contains xs page) is (among_all os i page c)) in omega arith);
      once = λ i. once_each os i different;
      apart = λ i j page c d. one_only os i j page different c d;
      numbers = λ i out. ap page_numbers (nothing_past os i (omega arith));
    }

-- Objects of an image.

pub content_numbers : (content : List ℕ) (k a n : ℕ) → map (λ (page : Page). page.number) (map (page_of_content content k) (range_with_len a n)) ≡ range_with_len (k + a) n
content_numbers content k a zero = refl
content_numbers content k a (suc n) =
    let e : k + (a + 1) ≡ k + a + 1 = omega arith in
    ap (λ (l : List ℕ). (k + a) ∷ l) (content_numbers content k (a + 1) n ∙ ap (λ (b : ℕ). range_with_len b n) e)

pub memory_numbers : (spec : RegionSpec) (k : ℕ) → page_numbers (Some (memory_of spec k)) ≡ range_with_len k spec.pages
memory_numbers spec k = (let e : k + 0 ≡ k = omega arith in content_numbers spec.content.items k 0 spec.pages ∙ ap (λ (a : ℕ). range_with_len a spec.pages) e)

pub memories_numbers : (specs : List RegionSpec) (k : ℕ) → all_numbers (program_memories specs k) ≡ range_with_len k (sum_by pages_taken specs)
memories_numbers [] k = refl
memories_numbers (spec ∷ specs) k =
    ap (λ (l : List ℕ). l ++ all_numbers (program_memories specs (k + pages_taken spec))) (memory_numbers spec k)
    ∙ ap (λ (l : List ℕ). range_with_len k spec.pages ++ l) (memories_numbers specs (k + pages_taken spec))
    ∙ range_append k (pages_taken spec) (sum_by pages_taken specs)
    ∙ ap (range_with_len k) (sym (sum_by-cons pages_taken spec specs))

pub threads_numbers : (p : Program) (n : ℕ) (js : List ℕ) → all_numbers (map (program_thread p n) js) ≡ []
threads_numbers p n [] = refl
threads_numbers p n (j ∷ js) = threads_numbers p n js

pub program_numbers : (p : Program) (n k : ℕ) → all_numbers (program_objects p n k) ≡ range_with_len k (program_pages p)
program_numbers p n k =
    let memories = program_memories p.regions.items k in
    let threads = map (program_thread p n) (range_with_len 0 p.threads) in
    numbers_append memories threads
    ∙ ap (λ (l : List ℕ). all_numbers memories ++ l) (threads_numbers p n (range_with_len 0 p.threads))
    ∙ append-nil (all_numbers memories)
    ∙ memories_numbers p.regions.items k

pub programs_numbers : (ps : List Program) (n k : ℕ) → all_numbers (programs_objects ps n k) ≡ range_with_len k (sum_by program_pages ps)
programs_numbers [] n k = refl
programs_numbers (p ∷ ps) n k =
    let others = programs_objects ps (n + program_size p) (k + program_pages p) in
    numbers_append (program_objects p n k) others
    ∙ ap (λ (l : List ℕ). l ++ all_numbers others) (program_numbers p n k)
    ∙ ap (λ (l : List ℕ). range_with_len k (program_pages p) ++ l) (programs_numbers ps (n + program_size p) (k + program_pages p))
    ∙ range_append k (program_pages p) (sum_by program_pages ps)
    ∙ ap (range_with_len k) (sym (sum_by-cons program_pages p ps))

pub image_numbers : (ps : List Program) → all_numbers (image_objects ps) ≡ range_with_len 0 (FIRST_PROGRAM_PAGE + sum_by program_pages ps)
unfolding image_objects
image_numbers ps =
    ap (λ (l : List ℕ). range_with_len 0 FIRST_PROGRAM_PAGE ++ l) (programs_numbers ps FIRST_PROGRAM_OBJECT FIRST_PROGRAM_PAGE)
    ∙ range_append 0 FIRST_PROGRAM_PAGE (sum_by program_pages ps)

pub first_good : (image : Image) (cores : ℕ) → IsAccepted image → AreGood (initial image cores).objects
first_good image cores h =
    let ps = image.programs.items in
    let count = image_count ps in
    good_list (image_objects ps) (FIRST_PROGRAM_PAGE + sum_by program_pages ps) (image_numbers ps) h.pages (let l = h.objects in omega arith)

pub first_apart : (image : Image) (cores : ℕ) → IsAccepted image → AreApart (initial image cores)
first_apart image cores h = good_apart (initial image cores) (first_good image cores h)

-- so has each state that a machine comes to
pub always_apart : (image : Image) (cores : ℕ) (labels : List Label) → IsAccepted image → Both AreApart (play (first_world image cores) labels)
always_apart image cores labels h =
    let first = first_good image cores h in
    let good = played_good (first_world image cores) labels (first, first) in
    (good_apart (play (first_world image cores) labels).now good.0, good_apart (play (first_world image cores) labels).saved good.1)
