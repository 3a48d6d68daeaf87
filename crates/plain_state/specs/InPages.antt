-- Places that are within their page.
use Rattle.std.specs.Prelude.{◌<◌}
use Rattle.sls_base.specs.declared.limits.TheConstants.{PAGE_BYTES}
use Rattle.plain_state.specs.declared.effect.Place.{Place}
use Rattle.plain_state.specs.declared.effect.ByteStore.{ByteStore}

abbrev pub IsInPage : Place → Type 0
IsInPage place = place.offset < PAGE_BYTES

abbrev pub StoresInPage : ByteStore → Type 0
StoresInPage store = store.place.offset < PAGE_BYTES
