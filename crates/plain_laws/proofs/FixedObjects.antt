-- The objects that are always there: what keeps them.
use Rattle.std.specs.Prelude.{◌≡◌, ℕ, ◌+◌, ◌<◌, Bool, true, false, if◌then◌else◌, List, Option, Some, None, option_map}
use Rattle.std.proofs.Common.{refl, ap, ◌∙◌, arith}
use Rattle.sls_base.specs.declared.fixed.TheConstants.{ROOT_GROUP, SCHEDULER, FIRST_OUTPUT_RING, INPUT_RING, FIRST_PROGRAM_OBJECT}
use Rattle.sls_base.specs.declared.thread.Thread.{Thread as ThreadRecord}
use Rattle.sls_base.specs.declared.thread.ThreadState.{ThreadState}
use Rattle.plain_state.specs.declared.effect.Place.{Place}
use Rattle.plain_state.specs.declared.objects.Capability.{Capability}
use Rattle.plain_state.specs.declared.objects.Region.{Region}
use Rattle.plain_state.specs.declared.objects.Kind.TheVariants.{GroupKind, SpaceKind}
use Rattle.plain_model.specs.Objects.{Object, Group, Thread, Space, Memory, Connection, Notification, is_kind, page_numbers}
use Rattle.plain_model.specs.States.{State}
use Rattle.plain_model.specs.Memory.{memory_with}
use Rattle.plain_model.specs.Sweep.{is_reached, swept, settled}
use Rattle.plain_laws.specs.Laws.{IsLeast}
use Rattle.plain_laws.specs.Places.{state_of}
use Rattle.plain_laws.specs.Fixed.{is_single, HasFixedObjects}
use Rattle.plain_laws.proofs.Reaches.{reached_least}

-- A ring or a scheduler stays as it is, another object becomes none of these, and a group stays one.
pub record Stays (old new : Option Object) : Type 0 where
  pub single : is_single old ≡ true → new ≡ old
  pub other : is_single old ≡ false → is_single new ≡ false
  pub group : is_kind GroupKind old ≡ true → is_kind GroupKind new ≡ true

pub stays_itself : (o : Option Object) → Stays o o
stays_itself o = record { single = λ e. refl; other = λ e. e; group = λ e. e }

pub stays_on : (a b c : Option Object) → Stays a b → Stays b c → Stays a c
stays_on a b c f g = record {
  single = λ e. (let same = f.single e in g.single (ap is_single same ∙ e) ∙ same);
  other = λ e. g.other (f.other e);
  group = λ e. g.group (f.group e);
}

pub stays_other : (o : Option Object) (new : Object) → is_single o ≡ false → is_single (Some new) ≡ false → (is_kind GroupKind o ≡ true → is_kind GroupKind (Some new) ≡ true) → Stays o (Some new)
stays_other o new was is group = record { single = λ e. absurd (cc); other = λ e. is; group = group }

-- where nothing was
pub stays_new : (o : Option Object) (new : Object) → o ≡ None → is_single (Some new) ≡ false → Stays o (Some new)
stays_new o new none e = stays_other o new (ap is_single none) e (λ group. (let never : false ≡ true = rw none at group in absurd (cc)))

-- objects that keep their kinds

pub stays_group : (o : Option Object) (slots : List (Option Capability)) → is_kind GroupKind o ≡ true → Stays o (Some (Group slots))
stays_group (Some (Group old)) slots e = stays_other (Some (Group old)) (Group slots) refl refl (λ group. refl)
stays_group o slots e = absurd (cc)

pub stays_space : (o : Option Object) (regions : List Region) → is_kind SpaceKind o ≡ true → Stays o (Some (Space regions))
stays_space (Some (Space old)) regions e = stays_other (Some (Space old)) (Space regions) refl refl (λ group. absurd (cc))
stays_space o regions e = absurd (cc)

pub stays_thread : (o : Option Object) (thread : ThreadRecord) (state : ThreadState) → state_of o ≡ Some state → Stays o (Some (Thread thread))
stays_thread (Some (Thread old)) thread state e = stays_other (Some (Thread old)) (Thread thread) refl refl (λ group. absurd (cc))
stays_thread o thread state e = absurd (cc)

pub stays_notification : (o : Option Object) (count old : ℕ) (waiters olds : List ℕ) → o ≡ Some (Notification old olds) → Stays o (Some (Notification count waiters))
stays_notification o count old waiters olds e =
    rw e (stays_other (Some (Notification old olds)) (Notification count waiters) refl refl (λ group. absurd (cc)))

-- a connection, with the server, the client and the clients that it had
pub record WasConnection (o : Option Object) : Type 0 where
  pub server : ℕ
  pub client : Option ℕ
  pub clients : List ℕ
  pub is : o ≡ Some (Connection server client clients)

pub stays_connection : (o : Option Object) (server : ℕ) (client : Option ℕ) (clients : List ℕ) → WasConnection o → Stays o (Some (Connection server client clients))
stays_connection o server client clients was =
    rw was.is (stays_other (Some (Connection was.server was.client was.clients)) (Connection server client clients) refl refl (λ group. absurd (cc)))

-- a byte is stored
pub stays_stored : (o : Option Object) (place : Place) (value : ℕ) → Stays o (memory_with o place value)
stays_stored (Some (Memory pages)) place value = stays_other (Some (Memory pages)) (Memory _) refl refl (λ group. absurd (cc))
stays_stored o place value = stays_itself o

-- The objects of a state, after those of another.

pub fixed_from : (s t : State) → ((i : ℕ) → i < FIRST_PROGRAM_OBJECT → Stays (s.objects i) (t.objects i))
    → ((i : ℕ) → is_single (s.objects i) ≡ false → is_single (t.objects i) ≡ false) → HasFixedObjects s → HasFixedObjects t
fixed_from s t stays others h = record {
  root = (stays ROOT_GROUP (omega arith)).group h.root;
  scheduler = (stays SCHEDULER (omega arith)).single (ap is_single h.scheduler) ∙ h.scheduler;
  outputs = λ channel l. (stays (FIRST_OUTPUT_RING + channel) (omega arith)).single (ap is_single (h.outputs channel l)) ∙ h.outputs channel l;
  pages = λ channel l. ap page_numbers ((stays (FIRST_OUTPUT_RING + channel) (omega arith)).single (ap is_single (h.outputs channel l))) ∙ h.pages channel l;
  input = (stays INPUT_RING (omega arith)).single (ap is_single h.input) ∙ h.input;
  above = λ i l. others i (h.above i l);
}

pub fixed_where_all_stay : (s t : State) → ((i : ℕ) → Stays (s.objects i) (t.objects i)) → HasFixedObjects s → HasFixedObjects t
fixed_where_all_stay s t stays h = fixed_from s t (λ i l. stays i) (λ i. (stays i).other) h

-- The sweep.

settled_stays : (s : State) (o : Option Object) → Stays o (option_map (settled s) o)
settled_stays s (Some (Thread thread)) = stays_other (Some (Thread thread)) (Thread _) refl refl (λ group. absurd (cc))
settled_stays s (Some (Connection server client clients)) = stays_other (Some (Connection server client clients)) (Connection _ _ _) refl refl (λ group. absurd (cc))
settled_stays s (Some (Notification count waiters)) = stays_other (Some (Notification count waiters)) (Notification _ _) refl refl (λ group. absurd (cc))
settled_stays s o = stays_itself o

swept_stays : (s : State) (i : ℕ) → is_reached s i ≡ true → Stays (s.objects i) ((swept s).objects i)
swept_stays s i e = rw e (settled_stays s (s.objects i))

swept_other : (s : State) (i : ℕ) (b : Bool) → is_single (s.objects i) ≡ false → is_single (if b then option_map (settled s) (s.objects i) else None) ≡ false
swept_other s i true e = (settled_stays s (s.objects i)).other e
swept_other s i false e = refl

pub swept_fixed : (s : State) → HasFixedObjects s → HasFixedObjects (swept s)
swept_fixed s h =
    let least : IsLeast s = reached_least s in
    fixed_from s (swept s) (λ i l. swept_stays s i (least.fixed i l)) (λ i e. swept_other s i (is_reached s i) e) h
