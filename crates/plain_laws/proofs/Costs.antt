-- What a checkpoint costs at most.
use Rattle.std.specs.Prelude.{◌≡◌, ◌+◌, ◌*◌, ◌≤◌, length}
use Rattle.std.proofs.Common.{arith}
use Rattle.std.proofs.lemmas.List.FromFn.{length-range_with_len}
use Rattle.sls_base.specs.declared.limits.TheConstants.{OBJECTS, PAGES}
use Rattle.plain_model.specs.Objects.{every_object, every_page}
use Rattle.plain_model.specs.Worlds.{World}
use Rattle.plain_model.specs.Cost.{cost, is_written, object_turns, page_turns}
use Rattle.plain_laws.proofs.Reaches.{count_bound, every_object_length}

pub every_page_length : length every_page ≡ PAGES
unfolding every_page
every_page_length = length-range_with_len 0 PAGES

pub cost_bound : (w : World) → cost w ≤ 8 * (PAGES + OBJECTS + OBJECTS + PAGES) + 64
cost_bound w =
    let a = count_bound w.stored every_page in
    let b = count_bound (is_written w) every_object in
    let d = count_bound (object_turns w) every_object in
    let f = count_bound (page_turns w) every_page in
    omega (arith, every_page_length, every_object_length)
