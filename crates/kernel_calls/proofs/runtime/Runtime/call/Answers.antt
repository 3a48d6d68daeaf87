use Rattle.std.proofs.Common.{◌≡◌, ◌≢◌, ◌∙◌, sym, ap, refl, false, true, [], ◌∷◌, inl, inr}
use Rattle.std.specs.Prelude.{Some, ◌++◌}
use Rattle.std.proofs.lemmas.Bool.{cases_Bool, false≢true}
use Rattle.sls_base.specs.declared.fixed.TheConstants.{SCHEDULER}
use Rattle.sls_base.specs.declared.thread.ThreadState.{ThreadState}
use Rattle.sls_base.specs.declared.thread.ThreadState.TheVariants.{Ready, Calling, Served, Serving}
use Rattle.link_lists.specs.Lists.{list_at}
use Rattle.ipc_note.specs.declared.lists.TheConstants.{RUN_QUEUE}
use Rattle.ipc_note.specs.Threads.{with_state, with_values}
use Rattle.kobj_table.specs.declared.slot.Slot.{Slot}
use Rattle.kobj_table.specs.Slots.{has_list}
use Rattle.kobj_table.specs.Objects.{slot_at, object_at, state_of}
use Rattle.plain_state.specs.declared.calls.Call.TheVariants.{ConnCall}
use Rattle.plain_state.specs.declared.calls.Refusal.TheVariants.{Taken}
use Rattle.plain_state.specs.declared.objects.Kind.TheVariants.{ConnectionKind}
use Rattle.plain_state.specs.Objects.{Thread, Connection, is_kind, is_thread}
use Rattle.plain_state.specs.CallRefusals.{is_server}
use Rattle.plain_state.specs.CallEffects.{effect_of_call, is_serving}
use Rattle.call_readings.specs.Kernel.{world_of}
use Rattle.kernel_calls.proofs.Unrefused.{met_by}
use Rattle.kernel_calls.proofs.Objects.{put_gives, both_given, same_given}
use Rattle.kernel_calls.proofs.Frames.{changed, no_more, not_scheduler}
use Rattle.kernel_calls.proofs.Places.{free_unlisted, asleep_unlisted}
use Rattle.kernel_calls.proofs.Queues.{relisted, strays_moved}
use Rattle.kernel_calls.proofs.Threads.{apart, caller_waits, not_back}
use Rattle.kernel_calls.proofs.Connections.{serving_is, not_serving, not_server, call_wakes, call_joins}
use Rattle.object_records.specs.Untold.{KeepsUntold}
use Rattle.kernel_calls.proofs.Kept.{KeepsRings, rings_put}
use Rattle.kernel_calls.proofs.Untold.{keeps_same, put_kept, put_next}
use Rattle.kernel_calls.proofs.runtime.Runtime.call.Goals as goal

pub returns-in_default-clause-does : goal.returns-in_default-clause-does
unfolding world_of state_of
returns-in_default-clause-does c w rest h e a =
    let o = c.args.self.now.objects in
    let met = met_by c.unrefused_call_meets_all.ensures.needs (world_of o rest w) c.args.me c.args.thread.now ConnCall e in
    absurd (let none = c.in_default.ensures.none rest.content in let kind : is_kind ConnectionKind (object_at rest.content o c.id_named-id.result) ≡ true = rw (c.id_named-id.ensures rest) met.0.kind in cc)

pub returns-in_default-thread-clause-does : goal.returns-in_default-thread-clause-does
unfolding state_of
returns-in_default-thread-clause-does c w rest h e a =
    let o = c.args.self.now.objects in
    let content = c.requires.held.rest.content in
    let server = c.in-Some.connection.server in
    let named : is_thread (object_at content o server) ≡ true = rw c.in-Some.ensures.some at (c.requires.held.sound.names c.id_named-id.result) in
    absurd (false≢true (sym (c.in_default-thread.ensures.none content) ∙ named))

pub call-requires-clause-server_free : goal.call-requires-clause-server_free
unfolding state_of
call-requires-clause-server_free c serving =
    let o = c.args.self.now.objects in
    let held = c.requires.held in
    let server = c.in-Some.connection.server in
    free_unlisted o held.rest held.sound.placed held.strays server
    (asleep_unlisted (object_at held.rest.content o) server (Serving c.id_named-id.result) (rw c.in-Some-thread.ensures.some (ap (λ (x : ThreadState). Some x) serving)) (λ none. none))

pub returns-clause-does : goal.returns-clause-does
unfolding world_of state_of effect_of_call
returns-clause-does c w rest h e a =
    let o = c.args.self.now.objects in
    let id = c.id_named-id.result in
    let thread = c.args.thread.now in
    let slot_is = c.in-Some.ensures.some in
    let server_is = c.in-Some-thread.ensures.some in
    let server = c.in-Some.connection.server in
    let client = c.in-Some.connection.client in
    let clients = list_at o.links id in
    let puts = c.put.ensures.puts in
    let puts' = c.set_thread.ensures.puts in
    let free : is_server c.args.me (object_at rest.content o id) ≡ false = rw (c.id_named-id.ensures rest) (c.unrefused_call_meets_all.ensures.besides (world_of o rest w) c.args.me thread ConnCall Taken (λ same. cc) e) in
    let other : server ≢ c.args.me = not_server c.args.me server client clients (rw slot_is at free) in
    let queue = not_scheduler o id c.requires.held.scheduler (rw slot_is refl) in
    let id_is = sym (c.id_named-id.ensures rest) in
    let scheduler = puts'.others SCHEDULER (not_scheduler o server c.requires.held.scheduler (rw server_is refl)) ∙ puts.others SCHEDULER queue in
    elim (cases_Bool (is_serving c.in-Some-thread.server.state id)) [
      | inl serving ↦
          (let is = serving_is c.in-Some-thread.server.state id serving in
          let queued = c.call.ensures.queued other is in
          let given = relisted c.lists_alone.ensures.object o c.put.new.self c.call.new.links rest.content id (Slot.Connection c.call.new.conn) (Connection server (Some c.args.me) clients) puts
          (rw (queued.others id (λ same. queue (sym same)), c.call.ensures.client other is) refl) (λ i apart not_queue. queued.others i not_queue) c.requires.held.scheduler in
          let server_given = put_gives rest.content c.put.new.self c.set_thread.new.self server (Slot.Thread c.call.new.server) (Thread (with_state (with_values c.in-Some-thread.server thread) Ready)) puts' (rw (c.call.ensures.woken other is) refl) in
          changed _ (call_wakes (state_of o rest) thread c.args.me id server client clients id_is (rw slot_is refl) (rw server_is serving))
          (record {
            objects = λ i. rw server_is (both_given (object_at rest.content o) (object_at rest.content c.put.new.self) (object_at rest.content c.set_thread.new.self) id server _ _ given server_given i);
            told = (rw slot_is refl, (rw server_is refl, tt));
            queue = rw (puts'.links, puts.links) queued.last;
            scheduler = scheduler;
          })
          refl (caller_waits thread _ (Served id) _ (server ∷ []) c.of_caller.ensures (c.call.ensures.served other is) refl) h (record { stores = refl; output = refl; takes = refl }))
      | inr busy ↦
          (let not = not_serving c.in-Some-thread.server.state id busy in
          let joined = c.call.ensures.joined other not in
          let kept = c.call.ensures.busy other not in
          let given = relisted c.lists_alone.ensures.object o c.put.new.self c.call.new.links rest.content id (Slot.Connection c.call.new.conn) (Connection server client (clients ++ c.args.me ∷ [])) puts
          (rw (joined.last, kept.0) refl) (λ i apart not_queue. joined.others i apart) c.requires.held.scheduler in
          let server_apart : server ≢ id = λ same. (let t : slot_at o id ≡ Slot.Thread c.in-Some-thread.server = rw (sym same) server_is in let f = slot_is in cc) in
          let there : slot_at c.put.new.self server ≡ Slot.Thread c.in-Some-thread.server = puts.others server server_apart ∙ server_is in
          let same = put_gives rest.content c.put.new.self c.set_thread.new.self server (Slot.Thread c.call.new.server) (Thread c.in-Some-thread.server) puts' (rw kept.1 refl) in
          changed _ (call_joins (state_of o rest) thread c.args.me id server client clients id_is (rw slot_is refl) (rw server_is busy))
          (record {
            objects = λ i. same i ∙ same_given (object_at rest.content c.put.new.self) server (Thread c.in-Some-thread.server) i (rw there refl) ∙ given i;
            told = (rw slot_is refl, tt);
            queue = rw (puts'.links, puts.links) (joined.others RUN_QUEUE queue ∙ sym (no_more (list_at o.links RUN_QUEUE)));
            scheduler = scheduler;
          })
          refl (caller_waits thread _ (Calling id) _ [] c.of_caller.ensures (c.call.ensures.waits other not) refl) h (record { stores = refl; output = refl; takes = refl }))
    ]

pub returns-clause-keeps : goal.returns-clause-keeps
unfolding world_of state_of
returns-clause-keeps c =
    let o = c.args.self.now.objects in
    let id = c.id_named-id.result in
    let thread = c.args.thread.now in
    let held = c.requires.held in
    let slot_is = c.in-Some.ensures.some in
    let server_is = c.in-Some-thread.ensures.some in
    let server = c.in-Some.connection.server in
    let puts = c.put.ensures.puts in
    let has : has_list (slot_at o id) ≡ true = rw slot_is refl in
    let free : is_server c.args.me (object_at held.rest.content o id) ≡ false = rw (c.id_named-id.ensures held.rest) (c.unrefused_call_meets_all.ensures.besides (world_of o held.rest held.world) c.args.me thread ConnCall Taken (λ same. cc) c.requires.unrefused) in
    let other : server ≢ c.args.me = not_server c.args.me server c.in-Some.connection.client (list_at o.links id) (rw slot_is at free) in
    let server_apart : server ≢ id = λ same. (let t : slot_at o id ≡ Slot.Thread c.in-Some-thread.server = rw (sym same) server_is in let f = slot_is in cc) in
    let there : slot_at c.put.new.self server ≡ Slot.Thread c.in-Some-thread.server = puts.others server server_apart ∙ server_is in
    let untold : KeepsUntold o c.set_thread.new.self = put_next (put_kept puts refl tt) c.set_thread.ensures.puts tt in
    let rings : KeepsRings o c.set_thread.new.self =
    λ i ring is. rings_put puts (λ other same. cc) i ring (rings_put c.set_thread.ensures.puts (λ other same. cc) i ring is) in
    elim (cases_Bool (is_serving c.in-Some-thread.server.state id)) [
      | inl serving ↦
          (let is = serving_is c.in-Some-thread.server.state id serving in
          let queued = c.call.ensures.queued other is in
          let strays = c.put.ensures.strays (strays_moved o c.call.new.links id has (λ i not_id not_queue. queued.others i not_queue) held.strays) (λ not_queue no_list. absurd (false≢true (sym no_list))) in
          record {
            caller = c.set_thread.ensures.puts.others c.args.me (λ same. other (sym same)) ∙ puts.others c.args.me (apart o c.args.me id (rw c.requires.caller.there refl) (rw slot_is refl));
            strays = c.set_thread.ensures.strays strays (λ not_queue no_list. strays server not_queue (rw there refl));
            free = λ left back. absurd (not_back thread _ (Served id) left c.of_caller.ensures (c.call.ensures.served other is) refl back);
            untold = untold;
            rings = rings;
          })
      | inr busy ↦
          (let not = not_serving c.in-Some-thread.server.state id busy in
          let joined = c.call.ensures.joined other not in
          let strays = c.put.ensures.strays (strays_moved o c.call.new.links id has (λ i not_id not_queue. joined.others i not_id) held.strays) (λ not_queue no_list. absurd (false≢true (sym no_list))) in
          record {
            caller = c.set_thread.ensures.puts.others c.args.me (λ same. other (sym same)) ∙ puts.others c.args.me (apart o c.args.me id (rw c.requires.caller.there refl) (rw slot_is refl));
            strays = c.set_thread.ensures.strays strays (λ not_queue no_list. strays server not_queue (rw there refl));
            free = λ left back. absurd (not_back thread _ (Calling id) left c.of_caller.ensures (c.call.ensures.waits other not) refl back);
            untold = untold;
            rings = rings;
          })
    ]

pub returns-in_default-clause-keeps : goal.returns-in_default-clause-keeps
returns-in_default-clause-keeps c = keeps_same c.args.self.now _ c.args.me _ refl c.requires.held.strays c.requires.caller.free

pub returns-in_default-thread-clause-keeps : goal.returns-in_default-thread-clause-keeps
returns-in_default-thread-clause-keeps c = keeps_same c.args.self.now _ c.args.me _ refl c.requires.held.strays c.requires.caller.free
