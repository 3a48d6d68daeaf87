use Rattle.std.proofs.Common.{◌≡◌, ◌≤◌, ◌+◌, ◌-◌, ◌%◌, ◌∙◌, ℕ, Bool, List, length, take, drop, ap, sym, subst, true, arith}
use Rattle.std.proofs.Math.Nat.{add-zero}
use Rattle.sls_base.specs.declared.limits.TheConstants.{PAGE_BYTES}
use Rattle.sls_base.specs.declared.rights.TheConstants.{WRITE}
use Rattle.pmem_model.specs.Memory.{Memory}
use Rattle.plain_state.specs.Objects.{regions_of}
use Rattle.plain_state.specs.Memory.{is_covered}
use Rattle.kobj_table.specs.Objects.{Rest, object_at}
use Rattle.page_bytes.specs.Bytes.{SeesPage}
use Rattle.kernel_calls.specs.Instructions.{ShowsStored}
use Rattle.kernel_calls.specs.Moves.{is_stored_on, stores_from, HasStored, StoresOn}
use Rattle.kernel_calls.proofs.Getting.{behind_length, covered_fewer, covered_parts, first_length, is_burst, joined, one_burst, parts_are, run_stores, still_shown, two_bursts}
use Rattle.kernel_calls.proofs.get.store_run.Goals as goal

-- Where the bytes stand on one page.

pub returns-then-bytes-room-clause-words : goal.returns-then-bytes-room-clause-words
returns-then-bytes-room-clause-words c rest =
    let o = c.args.objects.now in
    let space = c.args.space in
    let at = c.args.at in
    let bytes = c.args.bytes.now in
    let old = c.args.nvm.now in
    let new = c.store_on_page.new.nvm in
    let some = c.requires.some in
    let fits = c.if-bytes-room.true in
    let s = subst (λ (b : ℕ). StoresOn o space b (length bytes) old new) c.from-begin.ensures c.store_on_page.ensures.words in
    let seen : SeesPage o space WRITE (at + 0) s.page = subst (λ (a : ℕ). SeesPage o space WRITE a s.page) (sym (add-zero at)) s.seen in
    one_burst (is_stored_on (object_at rest.content o) (stores_from (object_at rest.content o) space at bytes)) o rest space at (length bytes) old new some (omega (arith, some, fits)) s
    (run_stores o rest space at bytes 0 s.page (omega (arith, some)) seen)
    (c.stores_at_addresses.ensures.range o rest space WRITE at s.page (c.requires.apart rest) s.seen s.stored)

-- Where they go on on the page behind.

pub store_on_page-requires-else-bytes-room-clause-covered : goal.store_on_page-requires-else-bytes-room-clause-covered
store_on_page-requires-else-bytes-room-clause-covered c content =
    let regions = regions_of (object_at content c.args.objects.now c.args.space) in
    let bytes = c.args.bytes.now in
    let room = PAGE_BYTES - c.args.at % PAGE_BYTES in
    let past = c.if-bytes-room.false in
    let size = first_length bytes room (omega (arith, past)) in
    subst (λ (b : ℕ). is_covered regions WRITE b (length (take room bytes)) ≡ true) (sym c.from-begin.ensures)
    (covered_fewer regions WRITE c.args.at (length (take room bytes)) (length bytes) (omega (arith, size, past)) (c.requires.covered content))

pub store_on_page-requires-else-bytes-room-clause-page : goal.store_on_page-requires-else-bytes-room-clause-page
store_on_page-requires-else-bytes-room-clause-page c =
    let some = c.requires.some in
    subst (λ (b : ℕ). ShowsStored c.args.objects.now c.args.nvm.now c.args.space b) (add-zero c.args.at ∙ sym c.from-begin.ensures) (c.requires.pages 0 (omega (arith, some)))

pub store_on_page-requires-else-bytes-room-2-clause-covered : goal.store_on_page-requires-else-bytes-room-2-clause-covered
store_on_page-requires-else-bytes-room-2-clause-covered c content =
    let regions = regions_of (object_at content c.args.objects.now c.args.space) in
    let bytes = c.args.bytes.now in
    let room = PAGE_BYTES - c.args.at % PAGE_BYTES in
    let past = c.if-bytes-room.false in
    let whole : length bytes ≡ room + (length bytes - room) = omega (arith, past) in
    let covered : is_covered regions WRITE c.args.at (room + (length bytes - room)) ≡ true = subst (λ (n : ℕ). is_covered regions WRITE c.args.at n ≡ true) whole (c.requires.covered content) in
    subst (λ (b : ℕ). is_covered regions WRITE (b + room) (length (take (length bytes - room) (drop room bytes))) ≡ true) (sym c.from-begin.ensures)
    (subst (λ (n : ℕ). is_covered regions WRITE (c.args.at + room) n ≡ true) (sym (behind_length bytes room)) (covered_parts regions WRITE c.args.at room (length bytes - room) covered).1)

pub store_on_page-requires-else-bytes-room-2-clause-page : goal.store_on_page-requires-else-bytes-room-2-clause-page
store_on_page-requires-else-bytes-room-2-clause-page c =
    let room = PAGE_BYTES - c.args.at % PAGE_BYTES in
    let past = c.if-bytes-room.false in
    let shows = subst (λ (b : ℕ). ShowsStored c.args.objects.now c.args.nvm.now c.args.space (b + room)) (sym c.from-begin.ensures) (c.requires.pages room (omega (arith, past))) in
    still_shown c.args.objects.now c.args.space (c.from-begin.result + room) c.args.nvm.now c.store_on_page-else-bytes-room.new.nvm c.store_on_page-else-bytes-room.ensures.words.words.homes shows

pub returns-else-bytes-room-clause-stored : goal.returns-else-bytes-room-clause-stored
returns-else-bytes-room-clause-stored c rest reads =
    let o = c.args.objects.now in
    let space = c.args.space in
    let at = c.args.at in
    let bytes = c.args.bytes.now in
    let room = PAGE_BYTES - at % PAGE_BYTES in
    let first = take room bytes in
    let behind = take (length bytes - room) (drop room bytes) in
    let between = c.store_on_page-else-bytes-room.new.nvm in
    let new = c.store_on_page-else-bytes-room-2.new.nvm in
    let past = c.if-bytes-room.false in
    let size : length first ≡ room = first_length bytes room (omega (arith, past)) in
    let covered = covered_fewer (regions_of (object_at rest.content o space)) WRITE at (length first) (length bytes) (omega (arith, size, past)) (c.requires.covered rest.content) in
    let one : HasStored o rest space at first between = subst (λ (b : ℕ). HasStored o rest space b first between) c.from-begin.ensures (c.store_on_page-else-bytes-room.ensures.stored rest reads) in
    let middle : Rest = record rest { content = one.content } in
    let two : HasStored o middle space (at + length first) behind new =
    subst (λ (n : ℕ). HasStored o middle space (at + n) behind new) (sym size)
    (subst (λ (b : ℕ). HasStored o middle space (b + room) behind new) c.from-begin.ensures (c.store_on_page-else-bytes-room-2.ensures.stored middle one.reads)) in
    subst (λ (l : List ℕ). HasStored o rest space at l new) (parts_are bytes room)
    (joined c.stores_in_parts.ensures.parts o rest space at first behind new covered one.content one.state one.rings two)

pub returns-else-bytes-room-clause-words : goal.returns-else-bytes-room-clause-words
returns-else-bytes-room-clause-words c rest =
    let o = c.args.objects.now in
    let space = c.args.space in
    let at = c.args.at in
    let bytes = c.args.bytes.now in
    let room = PAGE_BYTES - at % PAGE_BYTES in
    let first = take room bytes in
    let behind = take (length bytes - room) (drop room bytes) in
    let old = c.args.nvm.now in
    let between = c.store_on_page-else-bytes-room.new.nvm in
    let new = c.store_on_page-else-bytes-room-2.new.nvm in
    let some = c.requires.some in
    let most = c.requires.most in
    let past = c.if-bytes-room.false in
    let test : ℕ → Bool = is_stored_on (object_at rest.content o) (stores_from (object_at rest.content o) space at bytes) in
    let size : length first ≡ room = first_length bytes room (omega (arith, past)) in
    let size' : length behind ≡ length bytes - room = behind_length bytes room in
    let s = subst (λ (b : ℕ). StoresOn o space b (length first) old between) c.from-begin.ensures c.store_on_page-else-bytes-room.ensures.words in
    let t = subst (λ (b : ℕ). StoresOn o space (b + room) (length behind) between new) c.from-begin.ensures c.store_on_page-else-bytes-room-2.ensures.words in
    let seen : SeesPage o space WRITE (at + 0) s.page = subst (λ (a : ℕ). SeesPage o space WRITE a s.page) (sym (add-zero at)) s.seen in
    let some_first : 1 ≤ length first = omega (arith, size) in
    let fits_first : at % PAGE_BYTES + length first ≤ PAGE_BYTES = omega (arith, size) in
    let some_behind : 1 ≤ length behind = omega (arith, size', past) in
    let fits_behind : (at + room) % PAGE_BYTES + length behind ≤ PAGE_BYTES = omega (arith, size', most) in
    let range_first = c.stores_at_addresses.ensures.range o rest space WRITE at s.page (c.requires.apart rest) s.seen s.stored in
    let range_behind = c.stores_at_addresses.ensures.range o rest space WRITE (at + room) t.page (c.requires.apart rest) t.seen t.stored in
    let one = one_burst test o rest space at (length first) old between some_first fits_first s (run_stores o rest space at bytes 0 s.page (omega (arith, some)) seen) range_first in
    let two = one_burst test o rest space (at + room) (length behind) between new some_behind fits_behind t (run_stores o rest space at bytes room t.page (omega (arith, past)) t.seen) range_behind in
    two_bursts test old between new one two (ap (λ (m : Memory). m.ops) s.words.counts) (ap (λ (m : Memory). m.ops) t.words.counts)
    (is_burst o space at (length first) old between some_first fits_first s range_first)
    (is_burst o space (at + room) (length behind) between new some_behind fits_behind t range_behind)
