use Rattle.std.proofs.Common.{◌≡◌, ℕ, length, ap, ◌∙◌, arith}
use Rattle.plain_model.specs.Objects.{regions_of}
use Rattle.plain_model.specs.Memory.{bytes_of_number, place_in, places_of, stores_at, with_stores}
use Rattle.kobj_table.specs.Objects.{object_at, state_of}
use Rattle.page_bytes.proofs.Words.{length_of_number}
use Rattle.page_bytes.proofs.Seen.{in_range, stands_at}
use Rattle.page_bytes.proofs.laws.stores_at_addresses.Goals as goal

pub returns-clause-state : goal.returns-clause-state
returns-clause-state c objects rest space right at page bytes apart sees stored inside =
    let s = stands_at objects rest.content space right at page sees stored in
    c.stores_change_content.ensures objects rest (regions_of (object_at rest.content objects space)) s.region right at page bytes apart s.found inside s.stands

pub returns-clause-number : goal.returns-clause-number
returns-clause-number c objects rest space right at size value page apart sees stored inside =
    let bytes = bytes_of_number size value in
    let sized : length bytes ≡ size = length_of_number size value in
    let s = stands_at objects rest.content space right at page sees stored in
    let regions = regions_of (object_at rest.content objects space) in
    let state = c.stores_change_content.ensures objects rest regions s.region right at page bytes apart s.found (omega (arith, inside, sized)) s.stands in
    state ∙ ap (λ (count : ℕ). record (state_of objects rest) {
      objects = with_stores (state_of objects rest).objects (stores_at (places_of regions right at count) bytes);
    }) sized

pub returns-clause-range : goal.returns-clause-range
returns-clause-range c objects rest space right at page apart sees stored =
    let s = stands_at objects rest.content space right at page sees stored in
    in_range objects rest (place_in at s.region) page apart s.stands
