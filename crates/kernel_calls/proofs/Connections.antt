-- What calls over connections do.
use Rattle.std.specs.Prelude.{◌⊎◌, ◌≡◌, ◌≢◌, ℕ, ◌<◌, ◌==◌, if◌then◌else◌, true, false, not, List, [], ◌∷◌, ◌++◌, Option, Some, None}
use Rattle.std.proofs.Common.{refl, ap, sym, ◌∙◌, arith, ne_eqb, inl, inr}
use Rattle.std.proofs.lemmas.Bool.{eqb-true, eqb-false, eq-eqb, false≢true, cases_lt}
use Rattle.sls_base.specs.declared.fixed.TheConstants.{SCHEDULER}
use Rattle.sls_base.specs.declared.limits.TheConstants.{OBJECTS}
use Rattle.sls_base.specs.declared.thread.Thread.{Thread as ThreadRecord}
use Rattle.sls_base.specs.declared.thread.ThreadState.{ThreadState}
use Rattle.sls_base.specs.declared.thread.ThreadState.TheVariants.{Ready, Running, Waiting, Calling, Served, Serving, Stopped}
use Rattle.link_lists.specs.Lists.{list_at}
use Rattle.ipc_note.specs.declared.lists.TheConstants.{RUN_QUEUE}
use Rattle.ipc_note.specs.declared.connection.Connection.{Connection as Conn}
use Rattle.ipc_note.specs.Clients.{client_beside}
use Rattle.plain_state.specs.Objects.{Object, Thread, Connection}
use Rattle.plain_state.specs.States.{State, thread_at, with_object}
use Rattle.plain_state.specs.Effects.{waits}
use Rattle.plain_state.specs.Calls.{arg, id_named, named}
use Rattle.plain_state.specs.CallRefusals.{is_server}
use Rattle.plain_state.specs.CallEffects.{change, ready_with, handed, is_serving, call_effect, serve_effect, serve_next}
use Rattle.plain_laws.specs.Laws.{AreInRange}
use Rattle.plain_laws.specs.Places.{IsPlaced, state_of as does}
use Rattle.kobj_table.specs.declared.objects.Objects.{Objects}
use Rattle.kobj_table.specs.declared.slot.Slot.{Slot}
use Rattle.kobj_table.specs.Slots.{object_of, is_scheduler}
use Rattle.kobj_table.specs.Objects.{Rest, slot_at, object_at, state_of, Puts}
use Rattle.kernel_calls.proofs.Unrefused.{not_false}
use Rattle.kernel_calls.proofs.Objects.{given, put_gives}
use Rattle.kernel_calls.proofs.Places.{counts, does_nothing}
use Rattle.kernel_calls.proofs.Queues.{IsItsSlot, with_links, not_the_queue}

pub serving_is : (state : ThreadState) (id : ℕ) → is_serving state id ≡ true → state ≡ Serving id
serving_is (Serving connection) id e = ap (λ (n : ℕ). Serving n) (eqb-true connection id e)
serving_is Ready id e = absurd (cc)
serving_is (Running core) id e = absurd (cc)
serving_is (Waiting note) id e = absurd (cc)
serving_is (Calling connection) id e = absurd (cc)
serving_is (Served connection) id e = absurd (cc)
serving_is (Stopped cause) id e = absurd (cc)

pub not_serving : (state : ThreadState) (id : ℕ) → is_serving state id ≡ false → state ≢ Serving id
not_serving state id e same = let t : is_serving state id ≡ true = rw same (eq-eqb id id refl) in false≢true (sym e ∙ t)

pub not_server : (me server : ℕ) (client : Option ℕ) (clients : List ℕ) → is_server me (Some (Connection server client clients)) ≡ false → server ≢ me
not_server me server client clients e = eqb-false server me e

-- a server that waits for clients serves the caller at once
pub call_wakes : (s : State) (thread : ThreadRecord) (me id server : ℕ) (client : Option ℕ) (clients : List ℕ) → id_named s thread 0 ≡ id →
    s.objects id ≡ Some (Connection server client clients) → is_serving (thread_at s server).state id ≡ true →
    call_effect s me thread (id_named s thread 0) (named s thread 0)
    ≡ record (waits thread (Served id)) {
      changes = change id (Connection server (Some me) clients) ∷ ready_with s server (handed (thread_at s server).x (arg thread 1) (arg thread 2)) ∷ [];
      wakes = server ∷ [];
    }
call_wakes s thread me id server client clients id_is there serving =
    ap (λ (n : ℕ). call_effect s me thread n (s.objects n)) id_is ∙ ap (λ (o : Option Object). call_effect s me thread id o) there ∙ rw serving refl

-- else the caller joins the clients
pub call_joins : (s : State) (thread : ThreadRecord) (me id server : ℕ) (client : Option ℕ) (clients : List ℕ) → id_named s thread 0 ≡ id →
    s.objects id ≡ Some (Connection server client clients) → is_serving (thread_at s server).state id ≡ false →
    call_effect s me thread (id_named s thread 0) (named s thread 0)
    ≡ record (waits thread (Calling id)) { changes = change id (Connection server client (clients ++ me ∷ [])) ∷ [] }
call_joins s thread me id server client clients id_is there busy =
    ap (λ (n : ℕ). call_effect s me thread n (s.objects n)) id_is ∙ ap (λ (o : Option Object). call_effect s me thread id o) there ∙ rw busy refl

pub serve_is : (s : State) (thread : ThreadRecord) (id server : ℕ) (served served' : Option ℕ) (clients clients' : List ℕ) → id_named s thread 0 ≡ id →
    s.objects id ≡ Some (Connection server served clients) → served ≡ served' → clients ≡ clients' →
    serve_effect s thread (id_named s thread 0) (named s thread 0) ≡ serve_next s thread id server served' clients'
serve_is s thread id server served served' clients clients' id_is there served_is clients_is =
    ap (λ (n : ℕ). serve_effect s thread n (s.objects n)) id_is ∙ ap (λ (o : Option Object). serve_effect s thread id o) there
    ∙ ap (λ (c : Option ℕ). serve_next s thread id server c clients) served_is ∙ ap (λ (l : List ℕ). serve_next s thread id server served' l) clients_is

pub is_its_server : (me server : ℕ) (client : Option ℕ) (clients : List ℕ) → not (is_server me (Some (Connection server client clients))) ≡ false → server ≡ me
is_its_server me server client clients e = eqb-true server me (not_false (server == me) e)

pub cases_option : (x : Option ℕ) → (x ≡ None) ⊎ ((y : ℕ) × (x ≡ Some y))
cases_option None = inl refl
cases_option (Some y) = inr (y, refl)

pub beside_is : (served : Option ℕ) (client me : ℕ) → served ≡ Some client → client ≢ me → client_beside served me ≡ client ∷ []
beside_is served client me is other = ap (λ (x : Option ℕ). client_beside x me) is ∙ rw (ne_eqb client me other) refl

-- the client that is served does so
pub is_served : (o : Objects) (rest : Rest) (id client : ℕ) (c : Conn) → IsPlaced (state_of o rest) → slot_at o id ≡ Slot.Connection c → c.client ≡ Some client →
    does (object_at rest.content o client) ≡ Some (Served id)
unfolding state_of
is_served o rest id client c placed is served = placed.does (Served id) client (rw is (rw served (counts (client ∷ []) client (0, omega arith, refl))))

-- who is there has a number that objects have
pub in_range : (o : Objects) (rest : Rest) (id : ℕ) (state : ThreadState) → AreInRange (state_of o rest) → does (object_at rest.content o id) ≡ Some state → id < OBJECTS
unfolding state_of
in_range o rest id state range e =
    elim (cases_lt id OBJECTS) [
      | inl below ↦ below
      | inr past ↦ absurd (does_nothing (object_at rest.content o id) state (range id past) e)
    ]

-- a thread goes back to its number, and then the connection is put in its place
pub put_served : IsItsSlot → (o m n : Objects) (links : List (List ℕ)) (content : ℕ → ℕ → ℕ) (id client : ℕ) (thread : ThreadRecord) (slot : Slot) (object : Object) →
    Puts (with_links o links) m client (Slot.Thread thread) → Puts m n id slot → object_of content slot (list_at links id) ≡ Some object →
    ((i : ℕ) → i ≢ id → i ≢ RUN_QUEUE → list_at links i ≡ list_at o.links i) → is_scheduler (slot_at o SCHEDULER) ≡ true →
    (i : ℕ) → object_at content n i ≡ with_object (with_object (object_at content o) client (Thread thread)) id object i
put_served law o m n links content id client thread slot object p q is lists scheduler =
    given (with_object (object_at content o) client (Thread thread)) (object_at content n) id object (rw q.there (rw q.links (rw p.links is)))
    (λ i other. step i other ∙ put_gives content (with_links o links) m client (Slot.Thread thread) (Thread thread) p refl i ∙ below i other)
  where
    step : (i : ℕ) → i ≢ id → object_at content n i ≡ object_at content m i
    step i other = rw (q.others i other) (rw q.links refl)

    below : (i : ℕ) → i ≢ id → with_object (object_at content (with_links o links)) client (Thread thread) i ≡ with_object (object_at content o) client (Thread thread) i
    below i other = ap (λ (x : Option Object). if i == client then Some (Thread thread) else x)
        (law o (with_links o links) content i refl (λ has. lists i other (not_the_queue o i scheduler has)))
