-- Lists of numbers, and worlds of the slow form.
use Rattle.std.specs.Prelude.{◌≡◌, ℕ, zero, suc, nat_lt, ◌+◌, ◌<◌, ◌==◌, ◌||◌, Bool, true, false, List, [], ◌∷◌, ◌++◌, length, map, take, filter, find, slice_index_or, slice_get, if◌then◌else◌, Option, Some, None, option_map}
use Rattle.std.specs.List.{list_any, range_with_len}
use Rattle.std.proofs.Common.{refl, ap, sym, arith, ◌∙◌, add-one}
use Rattle.plain_state.proofs.SlowMemory.{range_more}
use Rattle.std.proofs.lemmas.List.{map-append}
use Rattle.std.proofs.lemmas.List.Elements.{filter-append}
use Rattle.std.proofs.lemmas.Bool.Decides.{nat_tests}
use Rattle.std.proofs.Math.Bool.{or_assoc}
use Rattle.std.proofs.lemmas.Bool.{eqb-true}
use Rattle.std.proofs.lemmas.List.Folds.{list_any-append, list_any_more}
use Rattle.plain_state.specs.declared.effect.ByteStore.{ByteStore}
use Rattle.plain_state.specs.declared.slow_effect.Change.{Change as SlowChange}
use Rattle.plain_state.specs.declared.effect.Output.{Output}
use Rattle.plain_state.specs.declared.label.Reply.TheVariants.{Took}
use Rattle.plain_state.specs.declared.label.Label.TheVariants.{Accept}
use Rattle.plain_model.specs.Play.{accept, reply, with_released}
use Rattle.plain_state.specs.Slow.{change_of, entries_of}
use Rattle.plain_state.specs.Effects.{Change}
use Rattle.plain_state.specs.States.{State}
use Rattle.plain_state.specs.Worlds.{World, accepted_count}
use Rattle.plain_model.specs.SlowWorld.{is_in}
use mathlib.Core.Path.{fun_ext}

or_false : (a : Bool) → (a || false) ≡ a
or_false true = refl
or_false false = refl

-- a number at the end
pub in_pushed : (numbers after : List ℕ) (number n : ℕ) → after ≡ numbers ++ number ∷ [] → is_in after n ≡ (is_in numbers n || (number == n))
in_pushed numbers after number n e =
    ap (λ (l : List ℕ). is_in l n) e ∙ list_any-append (λ (k : ℕ). k == n) numbers (number ∷ []) ∙ ap (λ b. is_in numbers n || b) (or_false (number == n))

in_there_at : (numbers : List ℕ) (number n : ℕ) (b : Bool) → (number == n) ≡ b → is_in numbers number ≡ true → is_in numbers n ≡ (is_in numbers n || b)
in_there_at numbers number n true same there =
    let here : is_in numbers n ≡ true = ap (is_in numbers) (sym (eqb-true number n same)) ∙ there in
    rw here refl
in_there_at numbers number n false same there = sym (or_false (is_in numbers n))

-- a number that is there already
pub in_there : (numbers : List ℕ) (number n : ℕ) → is_in numbers number ≡ true → is_in numbers n ≡ (is_in numbers n || (number == n))
in_there numbers number n there = in_there_at numbers number n (number == n) refl there

-- one step of a loop that adds numbers
pub more_in : {X : Type 0} (p : X → Bool) (xs : List X) (i : ℕ) (x : X) (first before after : Bool) → i < length xs → x ≡ slice_index_or xs i x →
    before ≡ (first || list_any p (take i xs)) → after ≡ (before || p x) → after ≡ (first || list_any p (take (i + 1) xs))
more_in {X = X} p xs i x first before after below here was now =
    now ∙ ap (λ b. b || p x) was ∙ or_assoc first (list_any p (take i xs)) (p x)
    ∙ ap (λ b. first || b) (ap (λ (y : X). list_any p (take i xs) || p y) here ∙ sym (list_any_more p xs i x below))

-- changes of an object, of either form
pub any_changed : (n : ℕ) (changes : List SlowChange) → list_any (λ (change : SlowChange). change.id == n) changes ≡ list_any (λ (change : Change). change.id == n) (map change_of changes)
any_changed n [] = refl
any_changed n (x ∷ xs) = ap (λ b. (x.id == n) || b) (any_changed n xs)

-- the same, where the item is read at its place
pub more_in_at : {X : Type 0} (p : X → Bool) (xs : List X) (i : ℕ) (d : X) (first before after : Bool) → i < length xs →
    before ≡ (first || list_any p (take i xs)) → after ≡ (before || p (slice_index_or xs i d)) → after ≡ (first || list_any p (take (i + 1) xs))
more_in_at p xs i d first before after below was now =
    now ∙ ap (λ b. b || p (slice_index_or xs i d)) was ∙ or_assoc first (list_any p (take i xs)) (p (slice_index_or xs i d))
    ∙ ap (λ b. first || b) (sym (list_any_more p xs i d below))

abbrev pub no_store : ByteStore
no_store = record { place = record { memory = 0; page = 0; offset = 0 }; value = 0 }

eqb_sym : (m n : ℕ) → (m == n) ≡ (n == m)
eqb_sym m n = grind (arith, nat_tests)

-- a list after numbers were added to it, part after part

pub two_in : (old before first after p q : Bool) → before ≡ old → first ≡ (before || p) → after ≡ (first || q) → after ≡ (old || (p || q))
two_in old before first after p q e f g = g ∙ ap (λ b. b || q) (f ∙ ap (λ b. b || p) e) ∙ or_assoc old p q

pub five_in : (old before first second third fourth after p q r : Bool) (s t i : ℕ) → before ≡ old → first ≡ (before || (s == i)) → second ≡ (first || (t == i)) → third ≡ (second || p) → fourth ≡ (third || q) → after ≡ (fourth || r) →
    after ≡ (old || ((i == s) || ((i == t) || (p || (q || r)))))
five_in old before first second third fourth after p q r s t i e f g h j k =
    two_in old before first after (s == i) ((t == i) || (p || (q || r))) e f
    (two_in first first second after (t == i) (p || (q || r)) refl g (two_in second second third after p (q || r) refl h (two_in third third fourth after q r refl j k)))
    ∙ ap (λ b. old || (b || ((t == i) || (p || (q || r))))) (eqb_sym s i)
    ∙ ap (λ b. old || ((i == s) || (b || (p || (q || r))))) (eqb_sym t i)

pub any_added : {X : Type 0} (p : X → Bool) (before : Bool) {xs ys : List X} → xs ≡ ys → (before || list_any p xs) ≡ (before || list_any p ys)
any_added {X = X} p before e = ap (λ (l : List X). before || list_any p l) e

-- a world with another running state, and other numbers since the last commit or cut
pub world_same : (w : World) (now now' : State) (stored stored' changed changed' : ℕ → Bool) → now ≡ now' → ((page : ℕ) → stored page ≡ stored' page) → ((i : ℕ) → changed i ≡ changed' i) →
    record w { now = now; stored = stored; changed = changed } ≡ record w { now = now'; stored = stored'; changed = changed' }
world_same w now now' stored stored' changed changed' a b d =
    ap (λ (s : State). record w { now = s; stored = stored; changed = changed }) a
    ∙ ap (λ (f : ℕ → Bool). record w { now = now'; stored = f; changed = changed }) (fun_ext b)
    ∙ ap (λ (f : ℕ → Bool). record w { now = now'; stored = stored'; changed = f }) (fun_ext d)

-- Numbers that are free.

first_of : {X : Type 0} (p : X → Bool) (x : X) (xs : List X) (b : Bool) → p x ≡ b → slice_get (filter p xs) 0 ≡ find p xs → slice_get (filter p (x ∷ xs)) 0 ≡ find p (x ∷ xs)
first_of p x xs true e h = rw e refl
first_of p x xs false e h = rw e h

-- the first that is kept
pub first_kept : {X : Type 0} (p : X → Bool) (xs : List X) → slice_get (filter p xs) 0 ≡ find p xs
first_kept p [] = refl
first_kept p (x ∷ xs) = first_of p x xs (p x) refl (first_kept p xs)

pub option_same : {X : Type 0} (o : Option X) → o ≡ option_map (λ x. x) o
option_same None = refl
option_same (Some x) = refl

zero_plus : (n : ℕ) → 0 + n ≡ n
zero_plus n = omega arith

kept_last : (p : ℕ → Bool) (x : ℕ) (b : Bool) → p x ≡ b → filter p (x ∷ []) ≡ (if b then x ∷ [] else [])
kept_last p x true e = rw e refl
kept_last p x false e = rw e refl

nothing_more : (xs : List ℕ) → xs ++ [] ≡ xs
nothing_more [] = refl
nothing_more (x ∷ xs) = ap (λ l. x ∷ l) (nothing_more xs)

nothing_more_of : (xs : List (List ℕ)) → xs ++ [] ≡ xs
nothing_more_of [] = refl
nothing_more_of (x ∷ xs) = ap (λ l. x ∷ l) (nothing_more_of xs)

-- a number more is kept or not
pub number_kept : (p : ℕ → Bool) (n : ℕ) (before after : List ℕ) → p n ≡ true → before ≡ filter p (range_with_len 0 n) → after ≡ before ++ n ∷ [] → after ≡ filter p (range_with_len 0 (n + 1))
number_kept p n before after kept was now =
    now ∙ ap (λ l. l ++ n ∷ []) was
    ∙ sym (ap (λ (k : ℕ). filter p (range_with_len 0 k)) (add-one n) ∙ ap (filter p) (range_more 0 n) ∙ filter-append p (range_with_len 0 n) ((0 + n) ∷ [])
    ∙ ap (λ (k : ℕ). filter p (range_with_len 0 n) ++ filter p (k ∷ [])) (zero_plus n) ∙ ap (λ l. filter p (range_with_len 0 n) ++ l) (kept_last p n true kept))

pub number_left : (p : ℕ → Bool) (n : ℕ) (before : List ℕ) → p n ≡ false → before ≡ filter p (range_with_len 0 n) → before ≡ filter p (range_with_len 0 (n + 1))
number_left p n before left was =
    was ∙ sym (ap (λ (k : ℕ). filter p (range_with_len 0 k)) (add-one n) ∙ ap (filter p) (range_more 0 n) ∙ filter-append p (range_with_len 0 n) ((0 + n) ∷ [])
    ∙ ap (λ (k : ℕ). filter p (range_with_len 0 n) ++ filter p (k ∷ [])) (zero_plus n) ∙ ap (λ l. filter p (range_with_len 0 n) ++ l) (kept_last p n false left) ∙ nothing_more (filter p (range_with_len 0 n)))

-- An item of a list.

pub got_map : {X Y : Type 0} (f : X → Y) (xs : List X) (n : ℕ) → option_map f (slice_get xs n) ≡ slice_get (map f xs) n
got_map f [] n = refl
got_map f (x ∷ xs) zero = refl
got_map f (x ∷ xs) (suc n) = got_map f xs n

none_some : {X : Type 0} {x : X} → None ≡ Some x → ⊥
none_some e = cc

some_same : {X : Type 0} {x y : X} → Some x ≡ Some y → x ≡ y
some_same e = cc

first_less : (m : ℕ) → nat_lt 0 (suc m) ≡ true
first_less m = grind (arith, nat_tests)

less : (n m : ℕ) → nat_lt n m ≡ true → nat_lt (suc n) (suc m) ≡ true
less n m e = grind (arith, nat_tests)

-- there is one at a number, and it is read there
pub got_some : {X : Type 0} (xs : List X) (n : ℕ) (x d : X) → slice_get xs n ≡ Some x → (nat_lt n (length xs) ≡ true) × (slice_index_or xs n d ≡ x)
got_some [] n x d e = absurd (none_some e)
got_some (y ∷ ys) zero x d e = (first_less (length ys), some_same e)
got_some (y ∷ ys) (suc n) x d e = (less n (length ys) (got_some ys n x d e).0, (got_some ys n x d e).1)

-- The device accepts an entry.

accepted_at : (outputs after : List Output) (output : Output) (c : ℕ) (b : Bool) → (output.channel == c) ≡ b → after ≡ outputs ++ output ∷ [] →
    entries_of after c ≡ (if b then entries_of outputs c ++ output.bytes.items ∷ [] else entries_of outputs c)
accepted_at outputs after output c true e now =
    ap (λ (l : List Output). entries_of l c) now
    ∙ ap (map (λ (o : Output). o.bytes.items)) (filter-append (λ (o : Output). o.channel == c) outputs (output ∷ []))
    ∙ map-append (λ (o : Output). o.bytes.items) (filter (λ (o : Output). o.channel == c) outputs) (filter (λ (o : Output). o.channel == c) (output ∷ []))
    ∙ rw e refl
accepted_at outputs after output c false e now =
    ap (λ (l : List Output). entries_of l c) now
    ∙ ap (map (λ (o : Output). o.bytes.items)) (filter-append (λ (o : Output). o.channel == c) outputs (output ∷ []))
    ∙ map-append (λ (o : Output). o.bytes.items) (filter (λ (o : Output). o.channel == c) outputs) (filter (λ (o : Output). o.channel == c) (output ∷ []))
    ∙ rw e (nothing_more_of (entries_of outputs c))

pub one_released : (outputs after : List Output) (output : Output) (channel : ℕ) (bytes : List ℕ) → output.channel ≡ channel → output.bytes.items ≡ bytes → after ≡ outputs ++ output ∷ [] →
    entries_of after ≡ with_released (entries_of outputs) channel bytes
one_released outputs after output channel bytes same content now = fun_ext (λ c.
    accepted_at outputs after output c (output.channel == c) refl now
    ∙ ap (λ (k : ℕ). if k == c then entries_of outputs c ++ output.bytes.items ∷ [] else entries_of outputs c) same
    ∙ ap (λ (l : List ℕ). if channel == c then entries_of outputs c ++ l ∷ [] else entries_of outputs c) content
    ∙ ap (λ b. if b then entries_of outputs c ++ bytes ∷ [] else entries_of outputs c) (eqb_sym channel c))

-- an entry is offered, and it is the one that was found
pub accept_some : (w : World) (channel : ℕ) (bytes : List ℕ) (released : ℕ → List (List ℕ)) → slice_get (w.saved.out channel) (length (w.released channel)) ≡ Some bytes →
    released ≡ with_released w.released channel bytes → record w { released = released } ≡ accept w channel
accept_some w channel bytes released found now =
    let got = got_some (w.saved.out channel) (length (w.released channel)) bytes [] found in
    rw got.0 (ap (λ (r : ℕ → List (List ℕ)). record w { released = r }) (now ∙ ap (with_released w.released channel) (sym got.1)))

pub reply_some : (w : World) (channel number : ℕ) (bytes : List ℕ) → slice_get (w.saved.out channel) (length (w.released channel)) ≡ Some bytes → number ≡ accepted_count w channel →
    Took (record { number = number; bytes = record { items = bytes } }) ≡ reply w (Accept channel)
reply_some w channel number bytes found e =
    let got = got_some (w.saved.out channel) (length (w.released channel)) bytes [] found in
    rw got.0 (ap (λ (n : ℕ). Took (record { number = n; bytes = record { items = bytes } })) e ∙ ap (λ (l : List ℕ). Took (record { number = accepted_count w channel; bytes = record { items = l } })) (sym got.1))
