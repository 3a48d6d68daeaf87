use Rattle.std.proofs.Common.{◌≡◌, ℕ, ◌+◌, ◌%◌, List, Option, length, ap, sym, ◌∙◌, arith}
use Rattle.sls_base.specs.declared.limits.TheConstants.{PAGE_BYTES}
use Rattle.plain_state.specs.declared.effect.ByteStore.{ByteStore}
use Rattle.plain_state.specs.Objects.{Object}
use Rattle.plain_state.specs.States.{State}
use Rattle.plain_model.specs.Memory.{place_in, places_of, stores_at, with_stores}
use Rattle.kobj_table.specs.Objects.{object_at, state_of}
use Rattle.page_bytes.proofs.Contents.{bytes_stored, stores_on}
use Rattle.page_bytes.proofs.Stores.{on_page, run_of_stores}
use Rattle.page_bytes.proofs.laws.stores_change_content.Goals as goal

pub returns : goal.returns
unfolding state_of
returns c objects rest regions region right at page bytes apart found inside stands =
    let place = place_in at region in
    let none : at % PAGE_BYTES + 0 ≡ at % PAGE_BYTES = omega arith in
    let stores : stores_at (places_of regions right at (length bytes)) bytes ≡ stores_on place.memory place.page (at % PAGE_BYTES) bytes =
    ap (λ (places : List _). stores_at places bytes) (c.bytes_on_one_page.ensures.places regions region right at (length bytes) inside found)
    ∙ run_of_stores at region 0 bytes ∙ ap (λ (offset : ℕ). stores_on place.memory place.page offset bytes) none in
    let state : (ℕ → Option Object) → State = λ told. record (state_of objects rest) { objects = told } in
    ap state (bytes_stored objects rest.content place.memory place.page page.page (at % PAGE_BYTES) bytes (on_page objects rest apart place page stands)
    ∙ ap (λ (list : List ByteStore). with_stores (object_at rest.content objects) list) (sym stores))
