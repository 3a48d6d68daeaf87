use Rattle.std.proofs.Common.{ℕ, refl, rules, tests}
use Rattle.std.proofs.lemmas.Iterator.{YieldsList-from_range}
use Rattle.std.proofs.lemmas.Iterator.Search.{any_from_yields_List}
use Rattle.plain_model.specs.Objects.{every_object}
use Rattle.object_records.specs.Records.{record_at}
use Rattle.object_records.specs.Pages.{has_content_in, is_content}
use Rattle.object_records.proofs.contents.is_content.Goals as goal

pub returns : goal.returns
unfolding every_object is_content
returns c =
    any_from_yields_List (λ (i : ℕ). has_content_in (record_at c.args.objects.now i) c.args.page) _ _ c.any.result c.any.ensures.ran
    (YieldsList-from_range 0 128 128 (cc) refl) (λ x b q k. search (rules, tests))
