use Rattle.std.proofs.Common.{◌≡◌, ◌∙◌, ℕ, List, ap, rules}
use Rattle.std.specs.Prelude.{◌==◌, ◌||◌}
use Rattle.std.specs.List.{list_any}
use Rattle.mem_space.specs.declared.memory.MemPage.{MemPage}
use Rattle.call_readings.specs.NumberSets.{is_in, uses_page}
use Rattle.call_readings.proofs.Recounts.{pages_alike, and_true}
use Rattle.call_readings.proofs.numbers.NumbersInUse.take_slot.Goals as goal

pub returns-in-Memory : goal.returns-in-Memory
returns-in-Memory c =
    let pages = c.in-Memory.memory.pages.items in
    record {
      objects = λ content threads other. rw c.in-Memory.is
          (ap (λ (words : List ℕ). is_in words other) c.take_pages.ensures.objects ∙ c.take_object.ensures.objects other
          ∙ ap (λ b. is_in c.args.self.now.objects other || b) (and_true (other == c.args.id)));
      pages = λ content threads page inside.
          let more : uses_page c.take_pages.new.self page ≡ (uses_page c.take_object.new.self page || list_any (λ (p : MemPage). p.page == page) pages) = search rules in
          let old : uses_page c.take_object.new.self page ≡ uses_page c.args.self.now page = ap (λ (words : List ℕ). is_in words page) c.take_object.ensures.pages in
          rw c.in-Memory.is (more ∙ ap (λ b. b || list_any (λ (p : MemPage). p.page == page) pages) old
          ∙ ap (λ b. uses_page c.args.self.now page || b) (pages_alike content page pages));
      no_page = λ page past. c.take_pages.ensures.no_page page past ∙ ap (λ (words : List ℕ). is_in words page) c.take_object.ensures.pages;
    }
