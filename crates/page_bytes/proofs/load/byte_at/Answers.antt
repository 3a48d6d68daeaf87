use Rattle.std.proofs.Common.{◌≡◌, ◌∙◌, ℕ, Some, None, ap, rules}
use Rattle.std.specs.Prelude.{option_map}
use Rattle.plain_model.specs.Objects.{regions_of}
use Rattle.plain_model.specs.Memory.{page_at, place_of}
use Rattle.kobj_table.specs.Slots.{page_of}
use Rattle.kobj_table.specs.Objects.{object_at}
use Rattle.page_bytes.proofs.Loads.{byte_seen, no_byte, page_number}
use Rattle.page_bytes.proofs.load.byte_at.Goals as goal

pub byte_on_page-requires-clause-home : goal.byte_on_page-requires-clause-home
byte_on_page-requires-clause-home c inside =
    let content : ℕ → ℕ → ℕ = λ page offset. 0 in
    let objects = object_at content c.args.objects.now in
    let regions = regions_of (objects c.args.space) in
    let page = c.in_ok-page.page in
    let some : Some (page_of content page) ≡ option_map (page_at objects) (place_of regions c.args.right c.args.at) = search rules in
    c.requires.home content page.page (page_number objects content c.args.at regions c.args.right page some) inside

pub returns : goal.returns
returns c content reads =
    let objects = object_at content c.args.objects.now in
    let regions = regions_of (objects c.args.space) in
    let page = c.in_ok-page.page in
    let some : Some (page_of content page) ≡ option_map (page_at objects) (place_of regions c.args.right c.args.at) = search rules in
    ap (λ (byte : ℕ). Some byte) (c.byte_on_page.ensures content reads) ∙ byte_seen objects content c.args.at regions c.args.right page some

pub returns-in_err-page : goal.returns-in_err-page
returns-in_err-page c content reads =
    let objects = object_at content c.args.objects.now in
    let regions = regions_of (objects c.args.space) in
    let none : None ≡ option_map (page_at objects) (place_of regions c.args.right c.args.at) = search rules in
    c.from_residual.ensures ∙ no_byte objects content c.args.at regions c.args.right none
