use Rattle.std.proofs.Common.{◌≡◌, ◌∙◌, ◌≤◌, ℕ, [], None, length, ap, refl, subst, arith, rules}
use Rattle.std.specs.Prelude.{min, slice_index_or}
use Rattle.sls_base.specs.declared.rights.TheConstants.{WRITE}
use Rattle.plain_state.specs.declared.calls.Call.{Call}
use Rattle.plain_model.specs.Calls.{arg, named}
use Rattle.plain_model.specs.CallRefusals.{refusal_of}
use Rattle.plain_model.specs.CallEffects.{channel_of, effect_of_call}
use Rattle.plain_model.specs.Instructions.{seen_by}
use Rattle.plain_model.proofs.SlowRefusals.{put_size}
use Rattle.plain_state.proofs.SlowPlaces.{get_places}
use Rattle.kobj_table.specs.Objects.{object_at, state_of}
use Rattle.call_readings.specs.Kernel.{world_of}
use Rattle.call_readings.proofs.Inputs.{first_length}
use Rattle.call_readings.proofs.reach.reach_of_call.Goals as goal

pub returns-in-Put : goal.returns-in-Put
unfolding world_of state_of effect_of_call
returns-in-Put c w rest attached unrefused =
    let world = world_of c.args.objects.now rest w in
    let thread = c.args.thread.now in
    let few : arg thread 2 ≤ 56 = put_size world c.args.me thread (subst (λ (call : Call). refusal_of world c.args.me thread call ≡ None) c.in-Put.is unrefused) in
    let channel : c.channel_of.result ≡ channel_of (named (state_of c.args.objects.now rest) thread 0) =
    c.channel_of.ensures rest.content ∙ ap (λ (id : ℕ). channel_of (object_at rest.content c.args.objects.now id)) (c.id_named.ensures rest) in
    rw (c.in-Put.is, c.arg-at.ensures, c.arg-count.ensures, channel) (omega (arith, few), record { loads = refl; stores = refl; channel = refl })

pub returns-in-Get : goal.returns-in-Get
unfolding world_of state_of effect_of_call
returns-in-Get c w rest attached unrefused =
    let thread = c.args.thread.now in
    let s = state_of c.args.objects.now rest in
    let input = slice_index_or rest.inputs 0 [] in
    let first : c.unwrap_or.result ≡ length input = search (rules, attached.input, first_length rest.inputs) in
    let count : c.min-count.result ≡ min (length input) c.arg-count.result = search (rules, first) in
    rw c.in-Get.is (
      omega arith,
      record {
        loads = refl;
        stores = get_places (seen_by s thread) WRITE (arg thread 1) c.arg-at.result (arg thread 2) c.arg-count.result c.min-count.result input input
            c.arg-at.ensures c.arg-count.ensures refl count;
        channel = refl;
      },
    )
