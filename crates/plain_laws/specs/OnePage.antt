-- Bytes that stand on one page.
use Rattle.std.specs.Prelude.{ℕ, ◌+◌}
use Rattle.plain_state.specs.declared.objects.Region.{Region}
use Rattle.plain_state.specs.declared.effect.Place.{Place}
use Rattle.plain_model.specs.Memory.{place_in}

-- where the byte stands that is so many behind the one at an address, on the same page of a region
abbrev pub place_beside : ℕ → Region → ℕ → Place
place_beside at region k =
    let first = place_in at region in record { memory = first.memory; page = first.page; offset = first.offset + k }
