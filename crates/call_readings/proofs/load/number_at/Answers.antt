use Rattle.std.proofs.Common.{◌≡◌, ℕ, Some, rules}
use Rattle.std.specs.Prelude.{option_map}
use Rattle.plain_model.specs.Objects.{regions_of}
use Rattle.plain_model.specs.Memory.{page_at, place_of}
use Rattle.kobj_table.specs.Slots.{page_of}
use Rattle.kobj_table.specs.Objects.{object_at}
use Rattle.call_readings.proofs.Seen.{found_at, number_is, page_found}
use Rattle.call_readings.proofs.load.number_at.Goals as goal

pub number_on_page-requires-clause-home : goal.number_on_page-requires-clause-home
number_on_page-requires-clause-home c inside =
    let content : ℕ → ℕ → ℕ = λ page offset. 0 in
    let objects = object_at content c.args.objects.now in
    let regions = regions_of (objects c.args.space) in
    let page = c.in_ok-page.page in
    let some : Some (page_of content page) ≡ option_map (page_at objects) (place_of regions c.args.right c.args.at) = search rules in
    let is = found_at objects content regions c.args.right c.args.at page some in
    c.requires.home content page.page (page_found objects content regions c.args.right c.args.at page is) inside

pub returns : goal.returns
returns c content reads fits =
    let objects = object_at content c.args.objects.now in
    let regions = regions_of (objects c.args.space) in
    let page = c.in_ok-page.page in
    let some : Some (page_of content page) ≡ option_map (page_at objects) (place_of regions c.args.right c.args.at) = search rules in
    let is = found_at objects content regions c.args.right c.args.at page some in
    number_is objects content regions c.args.right c.args.at c.args.size page c.requires.size.0 fits is
    c.number_on_page.result (search (rules, c.number_on_page.ensures content reads))
