use Rattle.std.proofs.Common.{◌≡◌, ◌∙◌, ◌%◌, subst, ℕ, Some, rules, [], arith}
use Rattle.std.specs.Prelude.{None, option_map, find}
use Rattle.sls_base.specs.declared.rights.TheConstants.{WRITE}
use Rattle.sls_base.specs.declared.limits.TheConstants.{PAGE_BYTES}
use Rattle.rv_core.specs.Effect.{size_of}
use Rattle.plain_state.specs.Objects.{Page, regions_of}
use Rattle.plain_state.specs.Memory.{covers, is_covered, page_at, place_in, place_of, bytes_of_number}
use Rattle.kobj_table.specs.Slots.{page_of}
use Rattle.kobj_table.specs.Objects.{Rest, object_at, state_of}
use Rattle.call_readings.specs.Content.{Reads}
use Rattle.page_bytes.specs.Bytes.{with_bytes, SeesPage}
use Rattle.kernel_calls.proofs.Storing.{sizes, some_found, none_found, number_found, stored_if, kept_if, goes_if, stops_if, rings_kept}
use Rattle.kernel_calls.proofs.StoredPages.{none_stored, stored_on, burst_stored}
use Rattle.kernel_calls.proofs.store.store.Goals as goal

pub returns-in_default-clause-stored : goal.returns-in_default-clause-stored
unfolding state_of
returns-in_default-clause-stored c rest reads =
    let o = c.args.objects.now in
    let objects = object_at rest.content o in
    let regions = regions_of (objects c.args.thread.now.space) in
    let at = c.args.at in
    let size = sizes c.args.op at c.requires.op c.requires.aligned in
    let none : None ≡ option_map (page_at objects) (place_of regions WRITE at) = search rules in
    let uncovered = c.bytes_on_one_page.ensures.covered regions WRITE at (size_of c.args.op) size.0 size.1 ∙ none_found (page_at objects) (place_in at) (find (covers WRITE at) regions) none in
    kept_if o rest c.args.nvm.now _ _ c.args.thread.now (is_covered regions WRITE at (size_of c.args.op)) uncovered reads

pub returns-in_default-clause-tells : goal.returns-in_default-clause-tells
unfolding state_of
returns-in_default-clause-tells c rest =
    let o = c.args.objects.now in
    let objects = object_at rest.content o in
    let regions = regions_of (objects c.args.thread.now.space) in
    let at = c.args.at in
    let size = sizes c.args.op at c.requires.op c.requires.aligned in
    let none : None ≡ option_map (page_at objects) (place_of regions WRITE at) = search rules in
    let uncovered = c.bytes_on_one_page.ensures.covered regions WRITE at (size_of c.args.op) size.0 size.1 ∙ none_found (page_at objects) (place_in at) (find (covers WRITE at) regions) none in
    stops_if c.stops.result _ _ c.args.thread.now (is_covered regions WRITE at (size_of c.args.op)) uncovered c.stops.ensures

pub store_number-requires-clause-page : goal.store_number-requires-clause-page
store_number-requires-clause-page c =
    let sees : SeesPage c.args.objects.now c.args.thread.now.space WRITE c.args.at c.in-Some.page = λ content. search rules in
    let rest : Rest = record { content = λ page offset. 0; out = λ channel. []; inputs = [] } in
    c.stores_at_addresses.ensures.range c.args.objects.now rest c.args.thread.now.space WRITE c.args.at c.in-Some.page (c.requires.apart rest) sees (c.requires.page.stored c.in-Some.page sees)

pub store_number-requires-clause-home : goal.store_number-requires-clause-home
store_number-requires-clause-home c =
    let content : ℕ → ℕ → ℕ = λ page offset. 0 in
    let objects = object_at content c.args.objects.now in
    let regions = regions_of (objects c.args.thread.now.space) in
    let some : Some (page_of content c.in-Some.page) ≡ option_map (page_at objects) (place_of regions WRITE c.args.at) = search rules in
    c.requires.page.home content c.in-Some.page.page (number_found (λ (p : Page). p.number) (page_at objects) (place_of regions WRITE c.args.at) (page_of content c.in-Some.page) some) (store_number-requires-clause-page c)

pub returns-clause-stored : goal.returns-clause-stored
unfolding state_of
returns-clause-stored c rest reads =
    let o = c.args.objects.now in
    let objects = object_at rest.content o in
    let regions = regions_of (objects c.args.thread.now.space) in
    let at = c.args.at in
    let page = c.in-Some.page in
    let size = sizes c.args.op at c.requires.op c.requires.aligned in
    let some : Some (page_of rest.content page) ≡ option_map (page_at objects) (place_of regions WRITE at) = search rules in
    let covered = c.bytes_on_one_page.ensures.covered regions WRITE at (size_of c.args.op) size.0 size.1 ∙ some_found (page_at objects) (place_in at) (find (covers WRITE at) regions) (page_of rest.content page) some in
    let sees : SeesPage c.args.objects.now c.args.thread.now.space WRITE c.args.at c.in-Some.page = λ content. search rules in
    let after = subst (λ (n : ℕ). Reads (with_bytes rest.content page.page (at % PAGE_BYTES) (bytes_of_number n c.args.value)) c.store_number.new.nvm) c.access_size.ensures.size (c.store_number.ensures.content rest.content reads) in
    stored_if o rest c.store_number.new.nvm _ _ c.args.thread.now (is_covered regions WRITE at (size_of c.args.op)) covered _ after
    (c.stores_at_addresses.ensures.number o rest c.args.thread.now.space WRITE at (size_of c.args.op) c.args.value page (c.requires.apart rest) sees (c.requires.page.stored page sees) size.1)
    (rings_kept c.pages_of_rings_are_apart.ensures o rest c.args.thread.now.space WRITE at (at % PAGE_BYTES) page _ (c.requires.apart rest) c.requires.rings sees (c.requires.page.stored page sees))

pub returns-clause-tells : goal.returns-clause-tells
unfolding state_of
returns-clause-tells c rest =
    let o = c.args.objects.now in
    let objects = object_at rest.content o in
    let regions = regions_of (objects c.args.thread.now.space) in
    let at = c.args.at in
    let page = c.in-Some.page in
    let size = sizes c.args.op at c.requires.op c.requires.aligned in
    let some : Some (page_of rest.content page) ≡ option_map (page_at objects) (place_of regions WRITE at) = search rules in
    let covered = c.bytes_on_one_page.ensures.covered regions WRITE at (size_of c.args.op) size.0 size.1 ∙ some_found (page_at objects) (place_in at) (find (covers WRITE at) regions) (page_of rest.content page) some in
    goes_if c.goes_on.result _ _ c.args.thread.now (is_covered regions WRITE at (size_of c.args.op)) covered c.goes_on.ensures

pub returns-in_default-clause-words : goal.returns-in_default-clause-words
returns-in_default-clause-words c rest = none_stored _ c.args.nvm.now

pub returns-clause-words : goal.returns-clause-words
unfolding state_of
returns-clause-words c rest =
    let o = c.args.objects.now in
    let objects = object_at rest.content o in
    let regions = regions_of (objects c.args.thread.now.space) in
    let at = c.args.at in
    let page = c.in-Some.page in
    let size = sizes c.args.op at c.requires.op c.requires.aligned in
    let some : Some (page_of rest.content page) ≡ option_map (page_at objects) (place_of regions WRITE at) = search rules in
    let covered = c.bytes_on_one_page.ensures.covered regions WRITE at (size_of c.args.op) size.0 size.1 ∙ some_found (page_at objects) (place_in at) (find (covers WRITE at) regions) (page_of rest.content page) some in
    let sees : SeesPage o c.args.thread.now.space WRITE at page = λ content. search rules in
    let range = c.stores_at_addresses.ensures.range o rest c.args.thread.now.space WRITE at page (c.requires.apart rest) sees (c.requires.page.stored page sees) in
    burst_stored _ page.page _ 1 (stored_on (state_of o rest) c.args.thread.now c.args.op at c.args.value rest.content page size.0 covered some) range (omega arith) (omega arith) c.args.nvm.now c.store_number.new.nvm
    c.store_number.ensures.stores
