use Rattle.std.proofs.Common.{◌≡◌, ◌%◌, ℕ, Some, rules, []}
use Rattle.std.specs.Prelude.{None, option_map, find}
use Rattle.sls_base.specs.declared.limits.TheConstants.{PAGE_BYTES}
use Rattle.sls_base.specs.declared.rights.TheConstants.{WRITE}
use Rattle.plain_state.specs.Objects.{Page, regions_of}
use Rattle.plain_state.specs.Memory.{covers, page_at, place_in, place_of}
use Rattle.kobj_table.specs.Slots.{page_of}
use Rattle.kobj_table.specs.Objects.{Rest, object_at}
use Rattle.page_bytes.specs.Bytes.{with_bytes, SeesPage}
use Rattle.kernel_calls.proofs.Getting.{covered_found}
use Rattle.kernel_calls.proofs.Storing.{none_found, number_found, rings_kept}
use Rattle.kernel_calls.proofs.get.store_on_page.Goals as goal

-- There is a page.

pub returns-in_default-clause-stored : goal.returns-in_default-clause-stored
returns-in_default-clause-stored c rest reads =
    let objects = object_at rest.content c.args.objects.now in
    let regions = regions_of (objects c.args.space) in
    let at = c.args.at in
    let none : None ≡ option_map (page_at objects) (place_of regions WRITE at) = search rules in
    absurd (covered_found _ _ (c.bytes_on_one_page.ensures.covered regions WRITE at _ c.requires.some c.requires.within) (c.requires.covered rest.content)
    (none_found (page_at objects) (place_in at) (find (covers WRITE at) regions) none))

pub returns-in_default-clause-words : goal.returns-in_default-clause-words
returns-in_default-clause-words c =
    let content : ℕ → ℕ → ℕ = λ page offset. 0 in
    let objects = object_at content c.args.objects.now in
    let regions = regions_of (objects c.args.space) in
    let at = c.args.at in
    let none : None ≡ option_map (page_at objects) (place_of regions WRITE at) = search rules in
    absurd (covered_found _ _ (c.bytes_on_one_page.ensures.covered regions WRITE at _ c.requires.some c.requires.within) (c.requires.covered content)
    (none_found (page_at objects) (place_in at) (find (covers WRITE at) regions) none))

-- It is one that there is, and at home.

pub store_bytes-requires-clause-page : goal.store_bytes-requires-clause-page
store_bytes-requires-clause-page c =
    let sees : SeesPage c.args.objects.now c.args.space WRITE c.args.at c.in-Some.page = λ content. search rules in
    let rest : Rest = record { content = λ page offset. 0; out = λ channel. []; inputs = [] } in
    c.stores_at_addresses.ensures.range c.args.objects.now rest c.args.space WRITE c.args.at c.in-Some.page (c.requires.apart rest) sees (c.requires.page.stored c.in-Some.page sees)

pub store_bytes-requires-clause-home : goal.store_bytes-requires-clause-home
store_bytes-requires-clause-home c =
    let content : ℕ → ℕ → ℕ = λ page offset. 0 in
    let objects = object_at content c.args.objects.now in
    let regions = regions_of (objects c.args.space) in
    let some : Some (page_of content c.in-Some.page) ≡ option_map (page_at objects) (place_of regions WRITE c.args.at) = search rules in
    c.requires.page.home content c.in-Some.page.page (number_found (λ (p : Page). p.number) (page_at objects) (place_of regions WRITE c.args.at) (page_of content c.in-Some.page) some) (store_bytes-requires-clause-page c)

-- Its bytes are stored.

pub returns-clause-stored : goal.returns-clause-stored
returns-clause-stored c rest reads =
    let o = c.args.objects.now in
    let at = c.args.at in
    let page = c.in-Some.page in
    let bytes = c.args.bytes.now in
    let sees : SeesPage o c.args.space WRITE at page = λ content. search rules in
    let stored = c.requires.page.stored page sees in
    record {
      content = with_bytes rest.content page.page (at % PAGE_BYTES) bytes;
      reads = c.store_bytes.ensures.content rest.content reads;
      state = c.stores_at_addresses.ensures.state o rest c.args.space WRITE at page bytes (c.requires.apart rest) sees stored c.requires.within;
      rings = rings_kept c.pages_of_rings_are_apart.ensures o rest c.args.space WRITE at (at % PAGE_BYTES) page bytes (c.requires.apart rest) c.requires.rings sees stored;
    }

pub returns-clause-words : goal.returns-clause-words
returns-clause-words c =
    let page = c.in-Some.page in
    let sees : SeesPage c.args.objects.now c.args.space WRITE c.args.at page = λ content. search rules in
    record { page = page; seen = sees; stored = c.requires.page.stored page sees; words = c.store_bytes.ensures.stores }
