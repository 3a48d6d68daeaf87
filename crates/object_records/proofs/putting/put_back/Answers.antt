use Rattle.std.proofs.Common.{◌≡◌, ◌≢◌, ℕ, ◌<◌, List, [], ◌∷◌, ◌++◌, length, take, get_or, ap, sym, ◌∙◌, subst, arith}
use Rattle.std.proofs.lemmas.List.{take_more}
use Rattle.link_lists.specs.Lists.{list_at, IsFree}
use Rattle.object_records.specs.Records.{threads_of}
use Rattle.object_records.proofs.putting.put_back.Goals as goal

pub loop-thread-init : goal.loop-thread-init
loop-thread-init c =
    let puts = c.put.ensures.puts in
    record {
      here = ap (λ (l : List (List ℕ)). list_at l c.args.id) puts.links ∙ c.requires.empty;
      others = λ i other. ap (λ (l : List (List ℕ)). list_at l i) puts.links;
      slot = puts.there ∙ c.slot_of.ensures;
      slots = puts.others;
      free = λ j from inside. subst (λ (l : List (List ℕ)). IsFree l (get_or (threads_of c.args.obj.now) j 0)) (sym puts.links) (c.requires.free j 0 inside);
    }

pub push_back-requires : goal.push_back-requires
push_back-requires c =
    let ids = threads_of c.args.obj.now in
    let k = c.loop-thread.thread-index in
    let same : c.threads_of-thread-items.result.now ≡ ids = c.threads_of-thread-items.ensures in
    let inside : k < length ids = omega (arith, ap length same, c.loop-thread-test.true) in
    let at : get_or c.threads_of-thread-items.result.now k 0 ≡ get_or ids k 0 = ap (λ (l : List ℕ). get_or l k 0) same in
    let below = c.requires.list.below k 0 inside in
    (omega arith, (c.requires.id, (omega (arith, at, below), subst (IsFree c.loop-thread.objects.links) (sym at) (c.loop-thread.invariant.free k (omega arith) inside))))

pub loop-thread-preserved : goal.loop-thread-preserved
loop-thread-preserved c =
    let ids = threads_of c.args.obj.now in
    let k = c.loop-thread.thread-index in
    let same : c.threads_of-thread-items.result.now ≡ ids = c.threads_of-thread-items.ensures in
    let inside : k < length ids = omega (arith, ap length same, c.loop-thread-test.true) in
    let node = get_or c.threads_of-thread-items.result.now k 0 in
    let at : node ≡ get_or ids k 0 = ap (λ (l : List ℕ). get_or l k 0) same in
    let pushed = c.push_back.ensures in
    record {
      here = pushed.pushed ∙ (ap (λ (l : List ℕ). l ++ node ∷ []) c.loop-thread.invariant.here
          ∙ (ap (λ (id : ℕ). take k ids ++ id ∷ []) at ∙ sym (take_more ids k 0 inside)));
      others = λ i other. pushed.others i other ∙ c.loop-thread.invariant.others i other;
      slot = c.loop-thread.invariant.slot;
      slots = c.loop-thread.invariant.slots;
      free = λ j from within i there.
          (let apart : get_or ids j 0 ≢ node = λ e. c.requires.list.distinct k j 0 (omega arith) within (sym (e ∙ at)) in
          c.loop-thread.invariant.free j (omega arith) within i ((pushed.kept i (get_or ids j 0) apart).0 there));
    }
