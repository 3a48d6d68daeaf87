-- What objects name is there: what a change of the objects does to that.
use Rattle.std.specs.Prelude.{◌≡◌, ◌≢◌, ℕ, ◌≤◌, ◌==◌, Bool, true, false, if◌then◌else◌, List, [], ◌∷◌, length, Option, Some, None, slice_set, slice_index_or}
use Rattle.std.proofs.Common.{refl, sym, ◌∙◌, arith}
use Rattle.std.proofs.lemmas.List.{length-set}
use Rattle.std.proofs.lemmas.List.Elements.{All-weaker}
use Rattle.sls_base.specs.declared.thread.Thread.{Thread as ThreadRecord}
use Rattle.plain_state.specs.declared.objects.Capability.{Capability}
use Rattle.plain_state.specs.declared.objects.Region.{Region}
use Rattle.plain_state.specs.declared.objects.Kind.TheVariants.{GroupKind, SpaceKind, MemoryKind, ConnectionKind}
use Rattle.plain_state.specs.declared.effect.ByteStore.{ByteStore}
use Rattle.plain_state.specs.declared.effect.Place.{Place}
use Rattle.plain_state.specs.declared.effect.Goes.{Goes}
use Rattle.plain_model.specs.Objects.{Object, Group, Thread, Space, Memory, Connection, Notification, pages_of, is_kind, is_thread}
use Rattle.plain_model.specs.States.{State, thread_of, thread_at, with_object}
use Rattle.plain_model.specs.Memory.{memory_with, page_with, no_page, with_store, with_stores}
use Rattle.plain_model.specs.Effects.{Effect, Change}
use Rattle.plain_model.specs.Ticks.{Chosen, thread_after, with_changes, state_with}
use Rattle.plain_laws.specs.Sound.{NamesObject, NamesPages, NamesWhatIs, NameWhatIs}
use Rattle.plain_laws.proofs.PlacedObjects.{with_objects, of_each}

-- What is there stays there, and keeps its kind and its pages.
pub record Lasts (old new : Option Object) : Type 0 where
  pub there : old ≢ None → new ≢ None
  pub group : is_kind GroupKind old ≡ true → is_kind GroupKind new ≡ true
  pub space : is_kind SpaceKind old ≡ true → is_kind SpaceKind new ≡ true
  pub memory : is_kind MemoryKind old ≡ true → is_kind MemoryKind new ≡ true
  pub connection : is_kind ConnectionKind old ≡ true → is_kind ConnectionKind new ≡ true
  pub thread : is_thread old ≡ true → is_thread new ≡ true
  pub pages : length (pages_of old) ≤ length (pages_of new)

pub lasts_itself : (o : Option Object) → Lasts o o
lasts_itself o = record { there = λ h. h; group = λ h. h; space = λ h. h; memory = λ h. h; connection = λ h. h; thread = λ h. h; pages = omega arith }

pub lasts_on : (a b c : Option Object) → Lasts a b → Lasts b c → Lasts a c
lasts_on a b c f g = record {
  there = λ h. g.there (f.there h);
  group = λ h. g.group (f.group h);
  space = λ h. g.space (f.space h);
  memory = λ h. g.memory (f.memory h);
  connection = λ h. g.connection (f.connection h);
  thread = λ h. g.thread (f.thread h);
  pages = (let a = f.pages in let b = g.pages in omega arith);
}

-- an object of the same kind
pub lasts_alike : (o : Option Object) (new : Object) → is_kind GroupKind o ≡ is_kind GroupKind (Some new) → is_kind SpaceKind o ≡ is_kind SpaceKind (Some new) → is_kind MemoryKind o ≡ is_kind MemoryKind (Some new)
    → is_kind ConnectionKind o ≡ is_kind ConnectionKind (Some new) → is_thread o ≡ is_thread (Some new) → length (pages_of o) ≤ length (pages_of (Some new)) → Lasts o (Some new)
lasts_alike o new g s m c t l = record {
  there = λ h none. absurd (cc);
  group = λ h. sym g ∙ h;
  space = λ h. sym s ∙ h;
  memory = λ h. sym m ∙ h;
  connection = λ h. sym c ∙ h;
  thread = λ h. sym t ∙ h;
  pages = l;
}

pub lasts_new : (o : Option Object) (new : Object) → o ≡ None → Lasts o (Some new)
lasts_new None new e = record { there = λ h none. h refl; group = λ h. absurd (cc); space = λ h. absurd (cc); memory = λ h. absurd (cc); connection = λ h. absurd (cc); thread = λ h. absurd (cc); pages = omega arith }
lasts_new (Some o) new e = absurd (cc)

pub lasts_group : (o : Option Object) (slots : List (Option Capability)) → is_kind GroupKind o ≡ true → Lasts o (Some (Group slots))
lasts_group (Some (Group old)) slots e = lasts_alike (Some (Group old)) (Group slots) refl refl refl refl refl (omega arith)
lasts_group o slots e = absurd (cc)

pub lasts_space : (o : Option Object) (regions : List Region) → is_kind SpaceKind o ≡ true → Lasts o (Some (Space regions))
lasts_space (Some (Space old)) regions e = lasts_alike (Some (Space old)) (Space regions) refl refl refl refl refl (omega arith)
lasts_space o regions e = absurd (cc)

pub lasts_thread : (o : Option Object) (thread : ThreadRecord) → is_thread o ≡ true → Lasts o (Some (Thread thread))
lasts_thread (Some (Thread old)) thread e = lasts_alike (Some (Thread old)) (Thread thread) refl refl refl refl refl (omega arith)
lasts_thread o thread e = absurd (cc)

pub lasts_connection : (o : Option Object) (server : ℕ) (client : Option ℕ) (clients : List ℕ) → is_kind ConnectionKind o ≡ true → Lasts o (Some (Connection server client clients))
lasts_connection (Some (Connection a b d)) server client clients e = lasts_alike (Some (Connection a b d)) (Connection server client clients) refl refl refl refl refl (omega arith)
lasts_connection o server client clients e = absurd (cc)

pub lasts_notification : (o : Option Object) (count old : ℕ) (waiters olds : List ℕ) → o ≡ Some (Notification old olds) → Lasts o (Some (Notification count waiters))
lasts_notification o count old waiters olds e =
    rw e (lasts_alike (Some (Notification old olds)) (Notification count waiters) refl refl refl refl refl (omega arith))

-- What is named stays there.

abbrev pub AllLast : State → State → Type 0
AllLast s t = (i : ℕ) → Lasts (s.objects i) (t.objects i)

pub object_kept : (s t : State) → AllLast s t → (slot : Option Capability) → NamesObject s slot → NamesObject t slot
object_kept s t l None h = tt
object_kept s t l (Some cap) h = (l cap.object).there h

pub pages_kept : (s t : State) → AllLast s t → (region : Region) → NamesPages s region → NamesPages t region
pages_kept s t l region h = ((l region.memory).memory h.0, (let a = h.1 in let b = (l region.memory).pages in omega arith))

pub names_kept : (s t : State) → AllLast s t → (o : Option Object) → NamesWhatIs s o → NamesWhatIs t o
names_kept s t l (Some (Group slots)) h = All-weaker (NamesObject s) (NamesObject t) (object_kept s t l) slots h
names_kept s t l (Some (Thread thread)) h = ((l thread.group).group h.0, (l thread.space).space h.1)
names_kept s t l (Some (Space regions)) h = All-weaker (NamesPages s) (NamesPages t) (pages_kept s t l) regions h
names_kept s t l (Some (Connection server client clients)) h = (l server).thread h
names_kept s t l o h = tt

-- A state after another, where what is named is there.
pub record Follows (s t : State) : Type 0 where
  pub last : AllLast s t
  pub names : NameWhatIs t

pub follows_itself : (s : State) → NameWhatIs s → Follows s s
follows_itself s h = record { last = λ i. lasts_itself (s.objects i); names = h }

pub follows_on : (s t u : State) → Follows s t → Follows t u → Follows s u
follows_on s t u f g = record { last = λ i. lasts_on (s.objects i) (t.objects i) (u.objects i) (f.last i) (g.last i); names = g.names }

pub follows_from : (s t : State) → AllLast s t → ((i : ℕ) → NamesWhatIs s (t.objects i)) → Follows s t
follows_from s t l h = record { last = l; names = λ i. names_kept s t l (t.objects i) (h i) }

-- one object changes, or is made
pub follows_one : (s : State) (id : ℕ) (object : Object) → Lasts (s.objects id) (Some object) → NamesWhatIs s (Some object) → NameWhatIs s → Follows s (with_objects s (with_object s.objects id object))
follows_one s id object l new h =
    follows_from s (with_objects s (with_object s.objects id object))
    (of_each (λ i o. Lasts (s.objects i) o) s.objects id object l (λ i ne. lasts_itself (s.objects i)))
    (of_each (λ i o. NamesWhatIs s o) s.objects id object new (λ i ne. h i))

-- Stores.

pub stored_lasts : (o : Option Object) (place : Place) (value : ℕ) → Lasts o (memory_with o place value)
stored_lasts (Some (Memory pages)) place value =
    let after = slice_set pages place.page (page_with (slice_index_or pages place.page no_page) place.offset value) in
    let e : length after ≡ length pages = length-set pages place.page (page_with (slice_index_or pages place.page no_page) place.offset value) in
    lasts_alike (Some (Memory pages)) (Memory after) refl refl refl refl refl (omega arith)
stored_lasts o place value = lasts_itself o

pub stored_names : (s : State) (o : Option Object) (place : Place) (value : ℕ) → NamesWhatIs s o → NamesWhatIs s (memory_with o place value)
stored_names s (Some (Memory pages)) place value h = tt
stored_names s o place value h = h

pub store_lasts : (o : Option Object) (store : ByteStore) (b : Bool) → Lasts o (if b then memory_with o store.place store.value else o)
store_lasts o store true = stored_lasts o store.place store.value
store_lasts o store false = lasts_itself o

pub store_names : (s : State) (o : Option Object) (store : ByteStore) (b : Bool) → NamesWhatIs s o → NamesWhatIs s (if b then memory_with o store.place store.value else o)
store_names s o store true h = stored_names s o store.place store.value h
store_names s o store false h = h

pub follows_store : (s : State) (store : ByteStore) → NameWhatIs s → Follows s (with_objects s (with_store s.objects store))
follows_store s store h =
    follows_from s (with_objects s (with_store s.objects store))
    (λ i. store_lasts (s.objects i) store (i == store.place.memory))
    (λ i. store_names s (s.objects i) store (i == store.place.memory) (h i))

pub follows_stores : (stores : List ByteStore) (s : State) → NameWhatIs s → Follows s (with_objects s (with_stores s.objects stores))
follows_stores [] s h = follows_itself s h
follows_stores (store ∷ stores) s h =
    let first = follows_store s store h in
    follows_on s (with_objects s (with_store s.objects store)) (with_objects s (with_stores s.objects (store ∷ stores))) first
    (follows_stores stores (with_objects s (with_store s.objects store)) first.names)

-- Changes.

-- a change may be made in each state that follows
abbrev pub IsFit : State → Change → Type 0
IsFit s change = (t : State) → Follows s t → Lasts (t.objects change.id) (Some change.object) × NamesWhatIs t (Some change.object)

abbrev pub AreFit : State → List Change → Type 0
AreFit s [] = Unit {0}
AreFit s (change ∷ changes) = IsFit s change × AreFit s changes

pub follows_changes : (changes : List Change) (s t : State) → Follows s t → AreFit s changes → Follows s (with_objects t (with_changes t.objects changes))
follows_changes [] s t f fit = f
follows_changes (change ∷ changes) s t f fit =
    let here = fit.0 t f in
    let u = with_objects t (with_object t.objects change.id change.object) in
    follows_changes changes s u (follows_on s t u f (follows_one t change.id change.object here.0 here.1 f.names)) fit.1

-- a thread stays one
pub fit_thread : (s : State) (id : ℕ) (thread : ThreadRecord) → is_thread (s.objects id) ≡ true → NamesWhatIs s (Some (Thread thread)) → IsFit s (record { id = id; object = Thread thread })
fit_thread s id thread is names t f = (lasts_thread (t.objects id) thread ((f.last id).thread is), names_kept s t f.last (Some (Thread thread)) names)

-- the group and the space of a thread are there
pub thread_names : (s : State) (o : Option Object) → is_thread o ≡ true → NamesWhatIs s o → NamesWhatIs s (Some (Thread (thread_of o)))
thread_names s (Some (Thread thread)) e h = h
thread_names s o e h = absurd (cc)

-- An effect, but for the thread.
abbrev pub Sound : State → Effect → Type 0
Sound s e = Follows s (with_objects s (with_changes (with_stores s.objects e.stores) e.changes))

pub sound_stores : (s : State) (e : Effect) → e.changes ≡ [] → NameWhatIs s → Sound s e
sound_stores s e none h = rw none (follows_stores e.stores s h)

pub sound_changes : (s : State) (e : Effect) → e.stores ≡ [] → AreFit s e.changes → NameWhatIs s → Sound s e
sound_changes s e none fit h = rw none (follows_changes e.changes s s (follows_itself s h) fit)

-- and the thread
pub sound_tick : (s : State) (core : ℕ) (c : Chosen) (goes : Goes) (e : Effect) → is_thread (s.objects c.occupant.thread) ≡ true → NameWhatIs s → Sound s e → NameWhatIs (state_with s core c goes e)
sound_tick s core c goes e is h sound =
    let me = c.occupant.thread in
    let t = with_objects s (with_changes (with_stores s.objects e.stores) e.changes) in
    let after = thread_after core (thread_at s me) goes e in
    let old = thread_names s (s.objects me) is (h me) in
    let fit = fit_thread s me after is old t sound in
    let u = with_objects t (with_object t.objects me (Thread after)) in
    (follows_on t u (state_with s core c goes e) (follows_one t me (Thread after) fit.0 fit.1 sound.names)
    (follows_from u (state_with s core c goes e) (λ i. lasts_itself (u.objects i)) (follows_one t me (Thread after) fit.0 fit.1 sound.names).names)).names
