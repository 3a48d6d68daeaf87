use Rattle.std.proofs.Common.{◌≡◌, ℕ, ◌+◌, List, [], ◌∷◌, ◌++◌, length, take, Some, ap, sym, ◌∙◌, subst, arith}
use Rattle.std.specs.Prelude.{slice_get}
use Rattle.std.proofs.lemmas.List.{take_more, take_all}
use Rattle.std.proofs.lemmas.Option.{slice_get_within, get_or_from_slice_get}
use Rattle.link_lists.specs.Lists.{list_at}
use Rattle.kobj_codec.specs.Objects.{IsList}
use Rattle.object_records.proofs.Lists.{list_of_links, none_behind}
use Rattle.object_records.proofs.taking.list_of.Goals as goal

pub push-requires : goal.push-requires
push-requires c =
    let threads = list_at c.args.objects.now.links c.args.list in
    let listed = list_of_links c.args.objects.now.links c.args.list c.first-next.ensures.once in
    let inside = slice_get_within threads (length c.loop-next.threads.items) c.in-Some.thread (sym c.loop-next.invariant.ahead ∙ c.in-Some.is) in
    (omega arith, omega (arith, inside, listed.most))

pub next-next-requires : goal.next-next-requires
next-next-requires c =
    let threads = list_at c.args.objects.now.links c.args.list in
    let k = length c.loop-next.threads.items in
    let listed = list_of_links c.args.objects.now.links c.args.list c.first-next.ensures.once in
    let here : slice_get threads k ≡ Some c.in-Some.thread = sym c.loop-next.invariant.ahead ∙ c.in-Some.is in
    let inside = slice_get_within threads k c.in-Some.thread here in
    let same = get_or_from_slice_get threads k c.in-Some.thread c.in-Some.thread here in
    let below = listed.below k c.in-Some.thread inside in
    omega (arith, same, below)

pub loop-next-smaller : goal.loop-next-smaller
loop-next-smaller c =
    let threads = list_at c.args.objects.now.links c.args.list in
    let inside = slice_get_within threads (length c.loop-next.threads.items) c.in-Some.thread (sym c.loop-next.invariant.ahead ∙ c.in-Some.is) in
    omega (arith, inside, c.push.ensures.len)

pub loop-next-preserved : goal.loop-next-preserved
loop-next-preserved c =
    let threads = list_at c.args.objects.now.links c.args.list in
    let k = length c.loop-next.threads.items in
    let thread = c.in-Some.thread in
    let here : slice_get threads k ≡ Some thread = sym c.loop-next.invariant.ahead ∙ c.in-Some.is in
    let inside = slice_get_within threads k thread here in
    let same = get_or_from_slice_get threads k thread thread here in
    let longer : length c.push.new.self.items ≡ k + 1 = c.push.ensures.len in
    record {
      read = c.push.ensures.items ∙ (ap (λ (l : List ℕ). l ++ thread ∷ []) c.loop-next.invariant.read
          ∙ (sym (take_more threads k thread inside ∙ ap (λ (id : ℕ). take k threads ++ id ∷ []) same) ∙ ap (λ (n : ℕ). take n threads) (sym longer)));
      ahead = c.next-next.ensures.next c.args.list k here ∙ ap (λ (n : ℕ). slice_get threads n) (sym longer);
    }

all_read : goal.returns-clause-threads
all_read c =
    let threads = list_at c.args.objects.now.links c.args.list in
    let k = length c.loop-next.threads.items in
    c.loop-next.invariant.read ∙ take_all k threads (none_behind threads k (sym c.loop-next.invariant.ahead ∙ c.in_default.is))

pub returns-clause-threads : goal.returns-clause-threads
returns-clause-threads c = all_read c

pub returns-clause-list : goal.returns-clause-list
returns-clause-list c = subst IsList (sym (all_read c)) (list_of_links c.args.objects.now.links c.args.list c.first-next.ensures.once)
