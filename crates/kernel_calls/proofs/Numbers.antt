-- The numbers in use, before and after a change.
use Rattle.std.specs.Prelude.{◌≡◌, ℕ, ◌==◌, ◌||◌, Bool, List, is_some}
use Rattle.std.specs.List.{list_any}
use Rattle.std.proofs.Common.{ap, sym, ◌∙◌}
use mathlib.Core.Path.{fun_ext}
use Rattle.plain_state.specs.Objects.{page_numbers, every_object}
use Rattle.plain_state.specs.Worlds.{World, has_page}
use Rattle.kobj_table.specs.declared.objects.Objects.{Objects}
use Rattle.kobj_table.specs.Objects.{Rest, state_of, object_at}
use Rattle.call_readings.specs.declared.numbers.NumbersInUse.{NumbersInUse}
use Rattle.call_readings.specs.Kernel.{world_of, IsCounted}
use Rattle.kernel_calls.proofs.Objects.{told}

-- whether one of the objects has a page
some_page : (ℕ → List ℕ) → ℕ → Bool
some_page numbers page = list_any (λ i. list_any (λ number. number == page) (numbers i)) every_object

pub counted_kept : (numbers : NumbersInUse) (o n : Objects) (rest : Rest) (w : World) → ((i : ℕ) → told (object_at rest.content n i) ≡ told (object_at rest.content o i)) →
    IsCounted numbers (world_of o rest w) → IsCounted numbers (world_of n rest w)
unfolding world_of state_of has_page some_page
counted_kept numbers o n rest w same h =
    let pages : (λ (i : ℕ). page_numbers (object_at rest.content n i)) ≡ (λ (i : ℕ). page_numbers (object_at rest.content o i)) =
    fun_ext (λ i. ap (λ (t : Bool × List ℕ). t.1) (same i)) in
    record {
      objects = λ i. h.objects i ∙ ap (λ (b : Bool). b || is_some (w.saved.objects i)) (sym (ap (λ (t : Bool × List ℕ). t.0) (same i)));
      pages = λ page. h.pages page ∙ ap (λ (f : ℕ → List ℕ). some_page f page || has_page w.saved page) (sym pages);
    }
