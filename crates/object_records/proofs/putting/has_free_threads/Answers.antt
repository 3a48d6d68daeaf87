use Rattle.std.proofs.Common.{◌≡◌, ◌∙◌, ◌<◌, ℕ, List, ap, arith, get_or, inl, inr, length, refl, subst, sym, true≢false}
use Rattle.std.specs.List.{Contains}
use Rattle.std.proofs.lemmas.Bool.{cases_eq}
use Rattle.std.proofs.lemmas.List.Elements.{All-from_get_or}
use Rattle.link_lists.specs.Lists.{IsFree, list_at}
use Rattle.object_records.specs.Records.{threads_of}
use Rattle.object_records.proofs.putting.has_free_threads.Goals as goal

pub returns-then-is_linked : goal.returns-then-is_linked
returns-then-is_linked c =
    let ids = threads_of c.args.obj.now in
    let k = c.loop-thread.thread-index in
    let same : c.threads_of-thread-items.result.now ≡ ids = c.threads_of-thread-items.ensures in
    let inside : k < length ids = omega (arith, ap length same, c.loop-thread-test.true) in
    let at : get_or c.threads_of-thread-items.result.now k 0 ≡ get_or ids k 0 = ap (λ (l : List ℕ). get_or l k 0) same in
    let linked = c.is_linked.ensures.linked.0 c.if-is_linked.true in (
      λ yes. absurd (true≢false (sym yes)),
      λ free. absurd (free k 0 inside linked.0 (subst (λ (n : ℕ). Contains (list_at c.args.objects.now.links linked.0) n) at linked.1)),
    )

pub loop-thread-preserved : goal.loop-thread-preserved
loop-thread-preserved c = λ j below.
    let ids = threads_of c.args.obj.now in
    let k = c.loop-thread.thread-index in
    let same : c.threads_of-thread-items.result.now ≡ ids = c.threads_of-thread-items.ensures in
    let at : get_or c.threads_of-thread-items.result.now k 0 ≡ get_or ids k 0 = ap (λ (l : List ℕ). get_or l k 0) same in
    let here : IsFree c.args.objects.now.links (get_or ids k 0) =
    subst (λ (n : ℕ). IsFree c.args.objects.now.links n) at (c.is_linked.ensures.free.0 c.if-is_linked.false) in
    elim (cases_eq j k) [
      | inl now ↦ subst (λ (n : ℕ). IsFree c.args.objects.now.links (get_or ids n 0)) (sym now) here
      | inr other ↦ c.loop-thread.invariant j (omega (arith, below, other))
    ]

pub returns : goal.returns
returns c =
    let ids = threads_of c.args.obj.now in
    let same : c.threads_of-thread-items.result.now ≡ ids = c.threads_of-thread-items.ensures in
    let past = c.loop-thread-test.false in (
      λ yes. All-from_get_or (IsFree c.args.objects.now.links) ids 0
          (λ i inside. c.loop-thread.invariant i (omega (arith, ap length same, past, inside))),
      λ all. refl,
    )
