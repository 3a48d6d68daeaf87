use Rattle.std.proofs.Common.{◌≡◌, ◌≢◌, ◌∙◌, sym, ap, refl, false, true, ℕ, List, [], ◌∷◌, ◌++◌, drop, inl, inr, arith}
use Rattle.std.specs.Prelude.{Some, None, Option, Contains, not, slice_get, unwrap_or}
use Rattle.std.proofs.lemmas.Bool.{false≢true}
use Rattle.sls_base.specs.declared.fixed.TheConstants.{SCHEDULER}
use Rattle.sls_base.specs.declared.thread.Thread.{Thread as ThreadRecord}
use Rattle.sls_base.specs.declared.thread.ThreadState.TheVariants.{Ready, Served, Serving}
use Rattle.link_lists.specs.Lists.{list_at}
use Rattle.ipc_note.specs.declared.lists.TheConstants.{RUN_QUEUE}
use Rattle.ipc_note.specs.Threads.{with_state, with_values}
use Rattle.ipc_note.specs.Clients.{client_beside}
use Rattle.kobj_table.specs.declared.objects.Objects.{Objects}
use Rattle.kobj_table.specs.declared.slot.Slot.{Slot}
use Rattle.kobj_table.specs.Slots.{has_list}
use Rattle.kobj_table.specs.Objects.{slot_at, object_at, state_of, Puts, HasNoStrays}
use Rattle.plain_state.specs.declared.calls.Call.TheVariants.{Serve}
use Rattle.plain_state.specs.declared.calls.Refusal.TheVariants.{Taken}
use Rattle.plain_state.specs.declared.effect.Goes.TheVariants.{On, Asleep}
use Rattle.plain_state.specs.declared.objects.Kind.TheVariants.{ConnectionKind}
use Rattle.plain_state.specs.Objects.{Thread, Connection, is_kind}
use Rattle.plain_state.specs.States.{thread_at}
use Rattle.plain_state.specs.CallRefusals.{is_server}
use Rattle.plain_state.specs.CallEffects.{effect_of_call}
use Rattle.call_readings.specs.Kernel.{world_of}
use Rattle.kernel_calls.specs.Callers.{goes_in}
use Rattle.kernel_calls.proofs.Unrefused.{met_by}
use Rattle.kernel_calls.proofs.Objects.{put_gives, both_given, same_given}
use Rattle.kernel_calls.proofs.Frames.{changed, not_scheduler}
use Rattle.kernel_calls.proofs.Places.{listed, free_unlisted, asleep_unlisted, cases_list, at_first}
use Rattle.kernel_calls.proofs.Queues.{relisted, strays_moved, with_links, given_back}
use Rattle.kernel_calls.proofs.Threads.{apart, is_thread_slot, caller_waits, caller_handed, not_back}
use Rattle.kernel_calls.proofs.Connections.{serve_is, is_its_server, cases_option, beside_is, is_served, in_range, put_served}
use Rattle.object_records.specs.Untold.{KeepsUntold}
use Rattle.kernel_calls.proofs.Kept.{KeepsRings, rings_put, rings_lent}
use Rattle.kernel_calls.proofs.Untold.{all_kept, keeps_same, lent_next, put_next, slots_next}
use Rattle.kernel_calls.proofs.runtime.Runtime.serve.Goals as goal

pub returns-in_default-clause-does : goal.returns-in_default-clause-does
unfolding world_of state_of
returns-in_default-clause-does c w rest h e a =
    let o = c.args.self.now.objects in
    let met = met_by c.unrefused_call_meets_all.ensures.needs (world_of o rest w) c.args.me c.args.thread.now Serve e in
    absurd (let none = c.in_default.ensures.none rest.content in let kind : is_kind ConnectionKind (object_at rest.content o c.id_named-id.result) ≡ true = rw (c.id_named-id.ensures rest) met.0.kind in cc)

pub serve-requires-clause-client : goal.serve-requires-clause-client
serve-requires-clause-client c = λ client is.
    let held = c.requires.held in
    in_range c.args.self.now.objects held.rest client (Served c.id_named-id.result) held.sound.range
    (is_served c.args.self.now.objects held.rest c.id_named-id.result client c.in-Some.connection held.sound.placed c.in-Some.ensures.some is)

pub serve-requires-clause-client_free : goal.serve-requires-clause-client_free
serve-requires-clause-client_free c = λ client is.
    let held = c.requires.held in
    let o = c.args.self.now.objects in
    free_unlisted o held.rest held.sound.placed held.strays client
    (asleep_unlisted (object_at held.rest.content o) client (Served c.id_named-id.result)
    (is_served o held.rest c.id_named-id.result client c.in-Some.connection held.sound.placed c.in-Some.ensures.some is) (λ none. none))

pub give_back-requires : goal.give_back-requires
give_back-requires c =
    elim (cases_option c.in-Some.connection.client) [
      | inl none ↦ rw none tt
      | inr some ↦ rw some.1 (in_range c.args.self.now.objects c.requires.held.rest some.0 (Served c.id_named-id.result) c.requires.held.sound.range
          (is_served c.args.self.now.objects c.requires.held.rest c.id_named-id.result some.0 c.in-Some.connection c.requires.held.sound.placed c.in-Some.ensures.some some.1))
    ]

tail_same : (a b : ℕ) (xs ys : List ℕ) → a ∷ xs ≡ b ∷ ys → xs ≡ ys
tail_same a b xs ys e = cc

not_served : (thread : ThreadRecord) (id : ℕ) → goes_in thread.state ≡ On → thread.state ≢ Served id
not_served thread id awake same = let f : Asleep (Served id) ≡ On = sym (ap goes_in same) ∙ awake in cc

slot_state : (o : Objects) (a b id : ℕ) (s t : ThreadRecord) → a ≡ b → slot_at o a ≡ Slot.Thread s → slot_at o b ≡ Slot.Thread t → s.state ≡ t.state
slot_state o a b id s t same x y = let e : Slot.Thread s ≡ Slot.Thread t = sym x ∙ ap (λ (i : ℕ). slot_at o i) same ∙ y in let f : s ≡ t = cc in ap (λ (r : ThreadRecord). r.state) f

pub returns-clause-does : goal.returns-clause-does
unfolding world_of state_of effect_of_call
returns-clause-does c w rest h e a =
    let o = c.args.self.now.objects in
    let held = c.requires.held in
    let id = c.id_named-id.result in
    let me = c.args.me in
    let thread = c.args.thread.now in
    let slot_is = c.in-Some.ensures.some in
    let server = c.in-Some.connection.server in
    let served = c.in-Some.connection.client in
    let clients = list_at o.links id in
    let law = c.lists_alone.ensures.object in
    let links = c.serve.new.links in
    let puts = c.put.ensures.puts in
    let mine : not (is_server me (object_at rest.content o id)) ≡ false = rw (c.id_named-id.ensures rest) (c.unrefused_call_meets_all.ensures.besides (world_of o rest w) me thread Serve Taken (λ same. cc) e) in
    let is_me : server ≡ me = is_its_server me server served clients (rw slot_is at mine) in
    let queue = not_scheduler o id held.scheduler (rw slot_is refl) in
    let id_is = sym (c.id_named-id.ensures rest) in
    let there : object_at rest.content o id ≡ Some (Connection server served clients) = rw slot_is refl in
    let conn_is = c.serve.ensures.client is_me in
    let lists = c.serve.ensures.others in
    elim (cases_option served) [
      | inl none ↦
          (let m_is : c.give_back.new.objects ≡ with_links o links = rw none at c.give_back.ensures.none in
          let puts' : Puts (with_links o links) c.put.new.self id (Slot.Connection c.serve.new.conn) = rw m_is at puts in
          let no_wake : list_at links RUN_QUEUE ≡ list_at o.links RUN_QUEUE ++ [] = rw none at (c.serve.ensures.queue is_me) in
          elim (cases_list clients) [
            | inl empty ↦
                (let none' : c.first-first.result ≡ None = c.first-first.ensures.first ∙ ap (λ (l : List ℕ). slice_get l 0) empty in
                let n_is : c.give_back-2.new.objects ≡ c.put.new.self = rw none' at c.give_back-2.ensures.none in
                let left : list_at links id ≡ [] = c.serve.ensures.left is_me ∙ ap (λ (l : List ℕ). drop 1 l) empty in
                let conn : c.serve.new.conn ≡ record { server = server; client = None } = conn_is ∙ ap (λ (l : List ℕ). record { server = server; client = slice_get l 0 }) empty in
                let given = relisted law o c.put.new.self links rest.content id (Slot.Connection c.serve.new.conn) (Connection server served clients) puts' (rw (conn, left, none, empty) refl) lists held.scheduler in
                rw n_is (changed _ (serve_is (state_of o rest) thread id server served None clients [] id_is there none empty)
                (record {
                  objects = λ i. given i ∙ same_given (object_at rest.content o) id (Connection server served clients) i there;
                  told = tt;
                  queue = rw puts'.links no_wake;
                  scheduler = puts'.others SCHEDULER queue;
                })
                refl (caller_waits thread _ (Serving id) _ [] c.of_caller.ensures (c.serve.ensures.serving is_me empty) refl) h (record { stores = refl; output = refl; takes = refl })))
            | inr waiting ↦
                (let next = waiting.0 in
                let is = waiting.2 in
                let first_is : c.first-first.result ≡ Some next = c.first-first.ensures.first ∙ ap (λ (l : List ℕ). slice_get l 0) is in
                let some : clients ≡ [] → ⊥ = λ empty. (let f : next ∷ waiting.1 ≡ [] = sym is ∙ empty in cc) in
                let back = rw first_is at c.give_back-2.ensures.some in
                let left : list_at links id ≡ waiting.1 = c.serve.ensures.left is_me ∙ ap (λ (l : List ℕ). drop 1 l) is in
                let conn : c.serve.new.conn ≡ record { server = server; client = Some next } = conn_is ∙ ap (λ (l : List ℕ). record { server = server; client = slice_get l 0 }) is in
                let l = listed o held.rest held.sound.placed held.strays id next (rw is (0, omega arith, refl)) in
                let slot = is_thread_slot held.rest.content (slot_at o next) (list_at o.links next) l.0 l.1 in
                let next_is : c.thread_or_zeros-next.result ≡ thread_at (state_of o rest) next = c.thread_or_zeros-next.ensures rest ∙ ap (λ (n : ℕ). thread_at (state_of o rest) n) (c.unwrap_or-2.ensures ∙ ap (λ (x : Option ℕ). unwrap_or x me) first_is) in
                let given = relisted law o c.put.new.self links rest.content id (Slot.Connection c.serve.new.conn) (Connection server (Some next) waiting.1) puts' (rw (conn, left) refl) lists held.scheduler in
                let next_given = put_gives rest.content c.put.new.self c.give_back-2.new.objects next (Slot.Thread c.serve.new.next) (Thread (with_state (thread_at (state_of o rest) next) (Served id))) back (rw (c.serve.ensures.served is_me some, next_is) refl) in
                changed _ (serve_is (state_of o rest) thread id server served None clients (next ∷ waiting.1) id_is there none is)
                (record {
                  objects = both_given (object_at rest.content o) (object_at rest.content c.put.new.self) (object_at rest.content c.give_back-2.new.objects) id next _ _ given next_given;
                  told = (rw slot_is refl, (rw slot.1 refl, tt));
                  queue = rw (back.links, puts'.links) no_wake;
                  scheduler = back.others SCHEDULER (not_scheduler o next held.scheduler (rw slot.1 refl)) ∙ puts'.others SCHEDULER queue;
                })
                refl (caller_handed thread _ (thread_at (state_of o rest) next) _ [] c.of_caller.ensures (c.serve.ensures.answered is_me some ∙ ap (λ (t : ThreadRecord). with_values thread t) next_is) c.requires.caller.awake) h (record { stores = refl; output = refl; takes = refl }))
          ])
      | inr some_client ↦
          (let client = some_client.0 in
          let client_is = some_client.1 in
          let does_serve = is_served o held.rest id client c.in-Some.connection held.sound.placed slot_is client_is in
          let slot = is_thread_slot held.rest.content (slot_at o client) (list_at o.links client) (Served id) does_serve in
          let other : client ≢ me = λ same. not_served thread id c.requires.caller.awake (slot_state o me client id thread slot.0 (sym same) c.requires.caller.there slot.1 ∙ slot.2) in
          let beside = beside_is served client me client_is other in
          let wakes : list_at links RUN_QUEUE ≡ list_at o.links RUN_QUEUE ++ client ∷ [] = rw beside at (c.serve.ensures.queue is_me) in
          let lent : c.thread_or_zeros-client.result ≡ thread_at (state_of o rest) client = c.thread_or_zeros-client.ensures rest ∙ ap (λ (n : ℕ). thread_at (state_of o rest) n) (c.unwrap_or.ensures ∙ ap (λ (x : Option ℕ). unwrap_or x me) client_is) in
          let woken : c.serve.new.client ≡ with_state (with_values (thread_at (state_of o rest) client) thread) Ready =
          c.serve.ensures.woken is_me (λ none. (let f : client ∷ [] ≡ [] = sym beside ∙ none in cc)) ∙ ap (λ (t : ThreadRecord). with_state (with_values t thread) Ready) lent in
          let back : Puts (with_links o links) c.give_back.new.objects client (Slot.Thread c.serve.new.client) = rw client_is at c.give_back.ensures.some in
          let back' : Puts (with_links o links) c.give_back.new.objects client (Slot.Thread (with_state (with_values (thread_at (state_of o rest) client) thread) Ready)) = rw woken at back in
          let to_scheduler = puts.others SCHEDULER queue ∙ back.others SCHEDULER (not_scheduler o client held.scheduler (rw slot.1 refl)) in
          elim (cases_list clients) [
            | inl empty ↦
                (let none' : c.first-first.result ≡ None = c.first-first.ensures.first ∙ ap (λ (l : List ℕ). slice_get l 0) empty in
                let n_is : c.give_back-2.new.objects ≡ c.put.new.self = rw none' at c.give_back-2.ensures.none in
                let left : list_at links id ≡ [] = c.serve.ensures.left is_me ∙ ap (λ (l : List ℕ). drop 1 l) empty in
                let conn : c.serve.new.conn ≡ record { server = server; client = None } = conn_is ∙ ap (λ (l : List ℕ). record { server = server; client = slice_get l 0 }) empty in
                let given = put_served law o c.give_back.new.objects c.put.new.self links rest.content id client _ (Slot.Connection c.serve.new.conn) (Connection server None []) back' puts (rw (conn, left) refl) lists held.scheduler in
                rw n_is (changed _ (serve_is (state_of o rest) thread id server served (Some client) clients [] id_is there client_is empty)
                (record {
                  objects = given;
                  told = (rw slot.1 refl, (rw slot_is refl, tt));
                  queue = rw (puts.links, back.links) wakes;
                  scheduler = to_scheduler;
                })
                refl (caller_waits thread _ (Serving id) _ (client ∷ []) c.of_caller.ensures (c.serve.ensures.serving is_me empty) refl) h (record { stores = refl; output = refl; takes = refl })))
            | inr waiting ↦
                (let next = waiting.0 in
                let is = waiting.2 in
                let first_is : c.first-first.result ≡ Some next = c.first-first.ensures.first ∙ ap (λ (l : List ℕ). slice_get l 0) is in
                let some : clients ≡ [] → ⊥ = λ empty. (let f : next ∷ waiting.1 ≡ [] = sym is ∙ empty in cc) in
                let back2 = rw first_is at c.give_back-2.ensures.some in
                let left : list_at links id ≡ waiting.1 = c.serve.ensures.left is_me ∙ ap (λ (l : List ℕ). drop 1 l) is in
                let conn : c.serve.new.conn ≡ record { server = server; client = Some next } = conn_is ∙ ap (λ (l : List ℕ). record { server = server; client = slice_get l 0 }) is in
                let l = listed o held.rest held.sound.placed held.strays id next (rw is (0, omega arith, refl)) in
                let slot2 = is_thread_slot held.rest.content (slot_at o next) (list_at o.links next) l.0 l.1 in
                let next_is : c.thread_or_zeros-next.result ≡ thread_at (state_of o rest) next = c.thread_or_zeros-next.ensures rest ∙ ap (λ (n : ℕ). thread_at (state_of o rest) n) (c.unwrap_or-2.ensures ∙ ap (λ (x : Option ℕ). unwrap_or x me) first_is) in
                let given = put_served law o c.give_back.new.objects c.put.new.self links rest.content id client _ (Slot.Connection c.serve.new.conn) (Connection server (Some next) waiting.1) back' puts (rw (conn, left) refl) lists held.scheduler in
                let next_given = put_gives rest.content c.put.new.self c.give_back-2.new.objects next (Slot.Thread c.serve.new.next) (Thread (with_state (thread_at (state_of o rest) next) (Served id))) back2 (rw (c.serve.ensures.served is_me some, next_is) refl) in
                changed _ (serve_is (state_of o rest) thread id server served (Some client) clients (next ∷ waiting.1) id_is there client_is is)
                (record {
                  objects = both_given _ (object_at rest.content c.put.new.self) (object_at rest.content c.give_back-2.new.objects) id next _ _ given next_given;
                  told = (rw slot.1 refl, (rw slot_is refl, (rw slot2.1 refl, tt)));
                  queue = rw (back2.links, puts.links, back.links) wakes;
                  scheduler = back2.others SCHEDULER (not_scheduler o next held.scheduler (rw slot2.1 refl)) ∙ to_scheduler;
                })
                refl (caller_handed thread _ (thread_at (state_of o rest) next) _ (client ∷ []) c.of_caller.ensures (c.serve.ensures.answered is_me some ∙ ap (λ (t : ThreadRecord). with_values thread t) next_is) c.requires.caller.awake) h (record { stores = refl; output = refl; takes = refl }))
          ])
    ]

pub returns-clause-keeps : goal.returns-clause-keeps
unfolding world_of state_of
returns-clause-keeps c =
    let o = c.args.self.now.objects in
    let held = c.requires.held in
    let id = c.id_named-id.result in
    let me = c.args.me in
    let thread = c.args.thread.now in
    let slot_is = c.in-Some.ensures.some in
    let server = c.in-Some.connection.server in
    let served = c.in-Some.connection.client in
    let clients = list_at o.links id in
    let links = c.serve.new.links in
    let puts = c.put.ensures.puts in
    let has : has_list (slot_at o id) ≡ true = rw slot_is refl in
    let mine : not (is_server me (object_at held.rest.content o id)) ≡ false = rw (c.id_named-id.ensures held.rest) (c.unrefused_call_meets_all.ensures.besides (world_of o held.rest held.world) me thread Serve Taken (λ same. cc) c.requires.unrefused) in
    let is_me : server ≡ me = is_its_server me server served clients (rw slot_is at mine) in
    let moved : HasNoStrays (with_links o links) = strays_moved o links id has c.serve.ensures.others held.strays in
    let client_slot : (client : ℕ) → served ≡ Some client → has_list (slot_at o client) ≡ false =
    λ client is. (let slot = is_thread_slot held.rest.content (slot_at o client) (list_at o.links client) (Served id) (is_served o held.rest id client c.in-Some.connection held.sound.placed slot_is is) in rw slot.1 refl) in
    let lent = given_back (with_links o links) c.give_back.new.objects served c.serve.new.client moved client_slot c.give_back.ensures.some c.give_back.ensures.none c.give_back.ensures.strays in
    let strays = c.put.ensures.strays lent.0 (λ not_queue no_list. absurd (false≢true (sym no_list))) in
    let put_links = puts.links ∙ lent.1 in
    let first_given : KeepsUntold o c.give_back.new.objects = lent_next served c.serve.new.client (slots_next {o = o} {n = with_links o links} (all_kept o) refl) c.give_back.ensures.some c.give_back.ensures.none in
    let untold : KeepsUntold o c.give_back-2.new.objects = lent_next c.first-first.result c.serve.new.next (put_next first_given puts tt) c.give_back-2.ensures.some c.give_back-2.ensures.none in
    let rings : KeepsRings o c.give_back-2.new.objects =
    λ i ring is. rings_lent (with_links o links) c.give_back.new.objects served c.serve.new.client c.give_back.ensures.some c.give_back.ensures.none i ring (rings_put puts (λ other same. cc) i ring
    (rings_lent c.put.new.self c.give_back-2.new.objects c.first-first.result c.serve.new.next c.give_back-2.ensures.some c.give_back-2.ensures.none i ring is)) in
    let not_client : served ≡ Some me → ⊥ =
    λ is. (let slot = is_thread_slot held.rest.content (slot_at o me) (list_at o.links me) (Served id) (is_served o held.rest id me c.in-Some.connection held.sound.placed slot_is is) in
    not_served thread id c.requires.caller.awake (slot_state o me me id thread slot.0 refl c.requires.caller.there slot.1 ∙ slot.2)) in
    let stays : slot_at c.put.new.self me ≡ slot_at o me = puts.others me (apart o me id (rw c.requires.caller.there refl) (rw slot_is refl)) ∙ lent.2 me not_client in
    elim (cases_list clients) [
      | inl empty ↦
          (let none' : c.first-first.result ≡ None = c.first-first.ensures.first ∙ ap (λ (l : List ℕ). slice_get l 0) empty in
          let n_is : c.give_back-2.new.objects ≡ c.put.new.self = rw none' at c.give_back-2.ensures.none in
          record {
            caller = rw n_is stays;
            strays = rw n_is strays;
            free = λ left back. absurd (not_back thread _ (Serving id) left c.of_caller.ensures (c.serve.ensures.serving is_me empty) refl back);
            untold = untold;
            rings = rings;
          })
      | inr waiting ↦
          (let next = waiting.0 in
          let is = waiting.2 in
          let first_is : c.first-first.result ≡ Some next = c.first-first.ensures.first ∙ ap (λ (l : List ℕ). slice_get l 0) is in
          let l = listed o held.rest held.sound.placed held.strays id next (rw is (0, omega arith, refl)) in
          let slot = is_thread_slot held.rest.content (slot_at o next) (list_at o.links next) l.0 l.1 in
          let back = rw first_is at c.give_back-2.ensures.some in
          let none_at : next ≢ RUN_QUEUE → list_at c.put.new.self.links next ≡ [] = λ not_queue. rw put_links (moved next not_queue (rw slot.1 refl)) in
          let not_beside : Contains (client_beside served me) me → ⊥ =
          λ has. elim (cases_option served) [
            | inl none ↦ absurd (omega (arith, (rw none at has).1))
            | inr some ↦
                (let slot = is_thread_slot held.rest.content (slot_at o some.0) (list_at o.links some.0) (Served id) (is_served o held.rest id some.0 c.in-Some.connection held.sound.placed slot_is some.1) in
                let other : some.0 ≢ me = λ same. not_served thread id c.requires.caller.awake (slot_state o me some.0 id thread slot.0 (sym same) c.requires.caller.there slot.1 ∙ slot.2) in
                other (at_first some.0 me (rw (beside_is served some.0 me some.1 other) at has)))
          ] in
          let free = c.serve.ensures.free me c.requires.caller.free not_beside in
          record {
            caller = back.others me (λ same. c.requires.caller.free id (rw (is, same) (0, omega arith, refl))) ∙ stays;
            strays = (rw first_is at c.give_back-2.ensures.strays) strays (λ not_queue no_list. none_at not_queue);
            free = λ left at_back. rw (back.links, put_links) free;
            untold = untold;
            rings = rings;
          })
    ]

pub returns-in_default-clause-keeps : goal.returns-in_default-clause-keeps
returns-in_default-clause-keeps c = keeps_same c.args.self.now _ c.args.me _ refl c.requires.held.strays c.requires.caller.free
