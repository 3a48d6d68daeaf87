-- The objects of a sound state are in the ranges of records.
use Rattle.std.proofs.Common.{◌≡◌, ℕ, zero, suc, ◌+◌, ◌<◌, ◌≤◌, true, false, List, [], ◌∷◌, length, map, take, get_or, Option, Some, None, refl, ap, sym, ◌∙◌, subst, arith, inl, inr, lit≤}
use Rattle.std.specs.Prelude.{slice_get, slice_index_or, option_map, IfSome}
use Rattle.std.specs.Option.{option_and_then}
use Rattle.std.specs.List.{All, AllPairs, Contains}
use Rattle.std.proofs.lemmas.Bool.{false≢true, cases_lt, eq-eqb}
use Rattle.std.proofs.lemmas.List.{length-map, get_or-take}
use Rattle.std.proofs.lemmas.List.Elements.{Contains-get_or}
use Rattle.std.proofs.lemmas.Option.{slice_get_within, get_or_from_slice_get, none-some}
use Rattle.std.proofs.Math.ListN.{get_or-map}
use Rattle.sls_base.specs.declared.limits.TheConstants.{OBJECTS, CORES, MEMORY_PAGES}
use Rattle.sls_base.specs.declared.fixed.TheConstants.{SCHEDULER, FIRST_OUTPUT_RING, INPUT_RING}
use Rattle.sls_base.specs.declared.thread.ThreadState.{ThreadState}
use Rattle.sls_base.specs.declared.thread.ThreadState.TheVariants.{Ready, Running, Waiting, Calling, Served, Serving, Stopped}
use Rattle.sls_base.specs.declared.thread.Thread.{Thread}
use Rattle.cap_group.specs.declared.cap.Cap.{Cap}
use Rattle.cap_group.specs.declared.group.Group.{Group}
use Rattle.cap_group.specs.Cap.{IsCap}
use Rattle.mem_space.specs.declared.region.Region.{Region}
use Rattle.mem_space.specs.declared.memory.MemPage.{MemPage}
use Rattle.mem_space.specs.declared.memory.Memory.{Memory}
use Rattle.mem_space.specs.declared.space.Space.{Space}
use Rattle.mem_space.specs.Region.{IsRegion}
use Rattle.plain_state.specs.declared.objects.Kind.{Kind}
use Rattle.plain_state.specs.declared.objects.Kind.TheVariants.{GroupKind, SpaceKind, MemoryKind}
use Rattle.plain_model.specs.Objects as plain
use Rattle.plain_model.specs.Objects.{Object, is_kind, is_thread, pages_of, page_numbers}
use Rattle.plain_model.specs.States.{State}
use Rattle.plain_laws.specs.Places.{state_of, waiters_of, clients_of, served_of, running_on, threads_in, times}
use Rattle.plain_laws.specs.Sound.{IsSlot, IsMapped, IsBefore, HasForm, NamesObject, NamesPages, NamesWhatIs}
use Rattle.plain_laws.specs.Laws.{AreInRange}
use Rattle.plain_laws.specs.Fixed.{is_single, HasFixedObjects}
use Rattle.plain_laws.specs.Bounds.{IsStateOf}
use Rattle.kobj_table.specs.declared.slot.Cores.{Cores}
use Rattle.kobj_table.specs.Slots.{capability_of, region_of, page_of, occupant_of}
use Rattle.kobj_codec.specs.Objects.{IsList, IsGroupRec, IsState, IsThread, IsSpaceRec, IsPage, IsMemory, IsConnection, IsNotification, IsOccupant, IsScheduler}
use Rattle.object_records.specs.Records.{listed}
use Rattle.object_records.specs.Ranges.{IsSoundState, IsCores}
use Rattle.object_records.proofs.Lists.{list_of_once}

-- Numbers of what is there.

pub there_below : (s : State) (id : ℕ) → AreInRange s → (s.objects id ≡ None → ⊥) → id < OBJECTS
there_below s id range there = elim (cases_lt id OBJECTS) [ inl l ↦ l | inr l ↦ absurd (there (range id l)) ]

kind_there : (kind : Kind) (o : Option Object) → is_kind kind None ≡ false → is_kind kind o ≡ true → o ≡ None → ⊥
kind_there kind o lacks is none = false≢true (sym lacks ∙ (ap (is_kind kind) (sym none) ∙ is))

thread_there : (o : Option Object) → is_thread o ≡ true → o ≡ None → ⊥
thread_there o is none = false≢true (ap is_thread (sym none) ∙ is)

state_there : (o : Option Object) (state : ThreadState) → state_of o ≡ Some state → o ≡ None → ⊥
state_there o state is none = none-some state (ap state_of (sym none) ∙ is)

-- who stands in a place is a thread that is there
stands_below : (s : State) (place : ThreadState) (id : ℕ) → IsSoundState s → 1 ≤ times id (threads_in s place) → id < OBJECTS
stands_below s place id sound stands = there_below s id sound.in_range (state_there (s.objects id) place (sound.placed.does place id stands))

pub place_ranged : (s : State) (place : ThreadState) → IsSoundState s → IsList (threads_in s place)
place_ranged s place sound = list_of_once (threads_in s place) (λ id. sound.placed.once place id) (λ id stands. stands_below s place id sound stands)

-- Members of lists that stand for others.

at_map : {X Y : Type 0} (P : Y → Type 0) (f : X → Y) (xs : List X) (k : ℕ) (x : X) → slice_get xs k ≡ Some x → All P (map f xs) → P (f x)
at_map P f xs k x at all =
    let inside = slice_get_within xs k x at in
    subst P (get_or-map f xs k x ∙ ap f (get_or_from_slice_get xs k x x at)) (all k (f x) (omega (arith, length-map xs f)))

each_from_map : {X Y : Type 0} (P : Y → Type 0) (f : X → Y) (xs : List X) → All P (map f xs) → All (λ x. P (f x)) xs
each_from_map P f xs all = λ k d inside. subst P (get_or-map f xs k d) (all k (f d) (omega (arith, length-map xs f)))

pairs_from_map : {X Y : Type 0} (R : Y → Y → Type 0) (f : X → Y) (xs : List X) → AllPairs R (map f xs) → AllPairs (λ a b. R (f a) (f b)) xs
pairs_from_map {X} {Y} R f xs all = λ i j d lt inside.
    subst (λ (b : Y). R (f (get_or xs i d)) b) (get_or-map f xs j d)
    (subst (λ (a : Y). R a (get_or (map f xs) j (f d))) (get_or-map f xs i d) (all i j (f d) lt (omega (arith, length-map xs f))))

contains_map : {X Y : Type 0} (f : X → Y) (xs : List X) (k : ℕ) (d : X) → k < length xs → Contains (map f xs) (f (get_or xs k d))
contains_map {X} {Y} f xs k d inside =
    subst (Contains (map f xs)) (get_or-map f xs k d) (Contains-get_or (map f xs) k (f d) (omega (arith, length-map xs f)))

-- Groups.

cap_ranged : (s : State) (slots : List (Option Cap)) (k : ℕ) (held : Option (Option Cap)) → slice_get slots k ≡ held → AreInRange s →
    All IsSlot (map (option_map capability_of) slots) → All (NamesObject s) (map (option_map capability_of) slots) → IfSome (option_and_then (λ (h : Option Cap). h) held) IsCap
cap_ranged s slots k None at range forms names = tt
cap_ranged s slots k (Some None) at range forms names = tt
cap_ranged s slots k (Some (Some cap)) at range forms names = record {
  object = there_below s cap.object range (at_map (NamesObject s) (option_map capability_of) slots k (Some cap) at names);
  rights = at_map IsSlot (option_map capability_of) slots k (Some cap) at forms;
}

pub group_ranged : (s : State) (i : ℕ) (g : Group) → IsSoundState s → s.objects i ≡ Some (plain.Group (map (option_map capability_of) g.slots)) → IsGroupRec g
group_ranged s i g sound e =
    let form = subst HasForm e (sound.forms i) in
    let names = subst (NamesWhatIs s) e (sound.names i) in
    record {
      size = sym (length-map g.slots (option_map capability_of)) ∙ form.0;
      slots = λ k. cap_ranged s g.slots k (slice_get g.slots k) refl sound.in_range form.1 names;
    }

-- Threads.

-- a place where somebody stands is there
place_there : (o : Option Object) (threads_of : Option Object → List ℕ) (id : ℕ) → threads_of None ≡ [] → 1 ≤ times id (threads_of o) → o ≡ None → ⊥
place_there o threads_of id empty stands none =
    let nobody : 1 ≤ times id [] = subst (λ ids. 1 ≤ times id ids) (ap threads_of none ∙ empty) stands in
    absurd (omega (arith, nobody))

state_ranged : (s : State) (id : ℕ) (state : ThreadState) → IsSoundState s → length s.cores ≤ CORES → state_of (s.objects id) ≡ Some state → IsStateOf s state → IsState state
state_ranged s id Ready sound few e is = tt
state_ranged s id (Running core) sound few e is = omega (arith, is, few)
state_ranged s id (Waiting note) sound few e is =
    there_below s note sound.in_range (place_there (s.objects note) waiters_of id refl (sound.present.stands id (Waiting note) e refl))
state_ranged s id (Calling connection) sound few e is =
    there_below s connection sound.in_range (place_there (s.objects connection) clients_of id refl (sound.present.stands id (Calling connection) e refl))
state_ranged s id (Served connection) sound few e is =
    there_below s connection sound.in_range (place_there (s.objects connection) served_of id refl (sound.present.stands id (Served connection) e refl))
state_ranged s id (Serving connection) sound few e is =
    there_below s connection sound.in_range (λ none. none-some _ (sym none ∙ sound.present.serves id connection e))
state_ranged s id (Stopped cause) sound few e is = is

pub thread_ranged : (s : State) (i : ℕ) (t : Thread) → IsSoundState s → length s.cores ≤ CORES → s.objects i ≡ Some (plain.Thread t) → IsThread t
thread_ranged s i t sound few e =
    let names = subst (NamesWhatIs s) e (sound.names i) in
    let fits = sound.threads i t e in
    record {
      group = there_below s t.group sound.in_range (kind_there GroupKind (s.objects t.group) refl names.0);
      space = there_below s t.space sound.in_range (kind_there SpaceKind (s.objects t.space) refl names.1);
      state = state_ranged s i t.state sound few (ap state_of e) fits.state;
      pc = fits.aligned;
      pc_fits = fits.pc;
      registers = fits.count;
      first = fits.zero;
      fit = fits.each;
    }

-- Spaces.

pages_room : (o : Option Object) → HasForm o → length (pages_of o) ≤ MEMORY_PAGES
pages_room None form = lit≤ tt
pages_room (Some (plain.Group slots)) form = lit≤ tt
pages_room (Some (plain.Thread thread)) form = lit≤ tt
pages_room (Some (plain.Space regions)) form = lit≤ tt
pages_room (Some (plain.Memory pages)) form = form.1
pages_room (Some (plain.Connection server client clients)) form = lit≤ tt
pages_room (Some (plain.Notification count waiters)) form = lit≤ tt
pages_room (Some (plain.OutputRing channel)) form = lit≤ tt
pages_room (Some plain.InputRing) form = lit≤ tt
pages_room (Some plain.Scheduler) form = lit≤ tt

region_ranged : (s : State) (r : Region) → IsSoundState s → IsMapped (region_of r) → NamesPages s (region_of r) → IsRegion r
region_ranged s r sound mapped names =
    let room = pages_room (s.objects r.memory) (sound.forms r.memory) in
    record {
      some_page = mapped.some_page;
      within_addresses = mapped.end;
      within_memory = omega (arith, room, names.1);
      known_memory = there_below s r.memory sound.in_range (kind_there MemoryKind (s.objects r.memory) refl names.0);
      some_right = mapped.some_right;
      known_rights = mapped.rights;
    }

pub space_ranged : (s : State) (i : ℕ) (space : Space) → IsSoundState s → s.objects i ≡ Some (plain.Space (map region_of space.regions.items)) → IsSpaceRec space
space_ranged s i space sound e =
    let form = subst HasForm e (sound.forms i) in
    let names = subst (NamesWhatIs s) e (sound.names i) in
    let items = space.regions.items in
    let mapped = each_from_map IsMapped region_of items form.1 in
    let named = each_from_map (NamesPages s) region_of items names in
    let before = pairs_from_map IsBefore region_of items form.2 in
    record {
      most = omega (arith, form.0, length-map items region_of);
      space = record {
        regions = λ k d inside. region_ranged s (get_or items k d) sound (mapped k d inside) (named k d inside);
        rising = λ a b d lt inside. (let one = mapped a d (omega (arith, lt, inside)) in let ends = before a b d lt inside in omega (arith, one.some_page, ends));
        apart = λ a b d lt inside page here there. (let ends = before a b d lt inside in absurd (omega (arith, here.1, there.0, ends)));
      };
    }

-- Memory objects.

page_ranged : (s : State) (i : ℕ) (content : ℕ → ℕ → ℕ) (pages : List MemPage) → IsSoundState s → s.objects i ≡ Some (plain.Memory (map (page_of content) pages)) → All IsPage pages
page_ranged s i content pages sound e = λ k d inside.
    let p = get_or pages k d in
    let stands : Contains (map (page_of content) pages) (page_of content p) = contains_map (page_of content) pages k d inside in
    let at : get_or (map (page_of content) pages) k (page_of content d) ≡ page_of content p = get_or-map (page_of content) pages k d in
    let numbered = contains_map (λ (page : plain.Page). page.number) (map (page_of content) pages) k (page_of content d) (omega (arith, inside, length-map pages (page_of content))) in
    let here : Contains (page_numbers (Some (plain.Memory (map (page_of content) pages)))) p.page = subst (λ (page : plain.Page). Contains (map (λ (q : plain.Page). q.number) (map (page_of content) pages)) page.number) at numbered in
    sound.apart.in_range i p.page (subst (λ (o : Option Object). Contains (page_numbers o) p.page) (sym e) here)

pub memory_ranged : (s : State) (i : ℕ) (content : ℕ → ℕ → ℕ) (m : Memory) → IsSoundState s → s.objects i ≡ Some (plain.Memory (map (page_of content) m.pages.items)) → IsMemory m
memory_ranged s i content m sound e =
    let form = subst HasForm e (sound.forms i) in
    let count = length-map m.pages.items (page_of content) in
    record {
      some = omega (arith, form.0, count);
      most = omega (arith, form.1, count);
      pages = page_ranged s i content m.pages.items sound e;
    }

-- Connections and notifications.

client_ranged : (s : State) (i server : ℕ) (client : Option ℕ) (clients : List ℕ) → IsSoundState s → s.objects i ≡ Some (plain.Connection server client clients) → IfSome client (λ id. id < OBJECTS)
client_ranged s i server None clients sound e = tt
client_ranged s i server (Some client) clients sound e =
    let one : 1 ≤ times client (client ∷ []) = rw (eq-eqb client client refl) (lit≤ tt) in
    stands_below s (Served i) client sound (subst (λ (o : Option Object). 1 ≤ times client (served_of o)) (sym e) one)

pub connection_ranged : (s : State) (i server : ℕ) (client : Option ℕ) (clients : List ℕ) → IsSoundState s → s.objects i ≡ Some (plain.Connection server client clients) →
    IsConnection (record { server = server; client = client; clients = listed clients })
connection_ranged s i server client clients sound e =
    let names = subst (NamesWhatIs s) e (sound.names i) in
    record {
      server = there_below s server sound.in_range (thread_there (s.objects server) names);
      client = client_ranged s i server client clients sound e;
      clients = subst (λ (o : Option Object). IsList (clients_of o)) e (place_ranged s (Calling i) sound);
    }

pub notification_ranged : (s : State) (i count : ℕ) (waiters : List ℕ) → IsSoundState s → s.objects i ≡ Some (plain.Notification count waiters) →
    IsNotification (record { count = count; waiters = listed waiters })
notification_ranged s i count waiters sound e =
    let form = subst HasForm e (sound.forms i) in
    record {
      count = form.0;
      waiters = subst (λ (o : Option Object). IsList (waiters_of o)) e (place_ranged s (Waiting i) sound);
    }

-- The scheduler.

occupant_ranged : (s : State) (c : Cores) (core : ℕ) (now : Option (ℕ × ℕ)) → IsSoundState s → IsCores c → s.cores ≡ take c.cores (map (option_map occupant_of) c.running) →
    slice_index_or c.running core None ≡ now → IfSome now IsOccupant
occupant_ranged s c core None sound cores e at = tt
occupant_ranged s c core (Some o) sound cores e at =
    elim (cases_lt core c.cores) [
      | inl lt ↦
          let runs : slice_index_or s.cores core None ≡ Some (occupant_of o) =
          ap (λ l. slice_index_or l core None) e ∙ (get_or-take c.cores (map (option_map occupant_of) c.running) core None lt
          ∙ (get_or-map (option_map occupant_of) c.running core None ∙ ap (option_map occupant_of) at)) in
          let one : 1 ≤ times o.0 (o.0 ∷ []) = rw (eq-eqb o.0 o.0 refl) (lit≤ tt) in
          let slice = sound.present.slices core (occupant_of o) runs in
          (stands_below s (Running core) o.0 sound (subst (λ x. 1 ≤ times o.0 (running_on x)) (sym runs) one), slice.0, slice.1)
      | inr past ↦ absurd (none-some o (sym (cores.past core past) ∙ at))
    ]

pub scheduler_ranged : (s : State) (c : Cores) (queue : List ℕ) → IsSoundState s → IsCores c → s.cores ≡ take c.cores (map (option_map occupant_of) c.running) → s.queue ≡ queue →
    IsScheduler (record { cores = c.cores; running = c.running; queue = listed queue })
scheduler_ranged s c queue sound cores runs waits = record {
  some = cores.some;
  most = cores.most;
  size = cores.size;
  occupants = λ core. occupant_ranged s c core (slice_index_or c.running core None) sound cores runs refl;
  past = cores.past;
  queue = subst IsList waits (place_ranged s Ready sound);
}

-- The scheduler stands at its number alone.
pub scheduler_alone : (s : State) (i : ℕ) → HasFixedObjects s → s.objects i ≡ Some plain.Scheduler → i ≡ SCHEDULER
scheduler_alone s zero fixed e = absurd (false≢true (ap (is_kind GroupKind) (sym e) ∙ fixed.root))
scheduler_alone s (suc zero) fixed e = refl
scheduler_alone s (suc (suc i)) fixed e =
    elim (cases_lt i 4) [
      | inl lt ↦
          let same : FIRST_OUTPUT_RING + i ≡ suc (suc i) = omega arith in
          let ring : s.objects (suc (suc i)) ≡ Some (plain.OutputRing i) = subst (λ k. s.objects k ≡ Some (plain.OutputRing i)) same (fixed.outputs i lt) in
          let never : Some plain.Scheduler ≡ Some (plain.OutputRing i) = sym e ∙ ring in absurd (cc)
      | inr past ↦ elim (cases_lt 4 i) [
        | inl lt ↦ absurd (false≢true (sym (fixed.above (suc (suc i)) (omega arith)) ∙ ap is_single e))
        | inr le ↦
            let same : INPUT_RING ≡ suc (suc i) = omega arith in
            let ring : s.objects (suc (suc i)) ≡ Some plain.InputRing = subst (λ k. s.objects k ≡ Some plain.InputRing) same fixed.input in
            let never : Some plain.Scheduler ≡ Some plain.InputRing = sym e ∙ ring in absurd (cc)
      ]
    ]
