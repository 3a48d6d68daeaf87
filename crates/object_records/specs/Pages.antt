-- The pages on which records have content.
use Rattle.std.specs.Prelude.{ℕ, ◌==◌, ◌&&◌, not, Bool, false, Option, Some, None}
use Rattle.std.specs.List.{list_any}
use Rattle.plain_model.specs.Objects.{every_object, page_numbers}
use Rattle.kobj_table.specs.Slots.{ring_of}
use Rattle.kobj_codec.specs.declared.obj.Obj.{Obj}
use Rattle.kobj_codec.specs.declared.obj.Obj.TheVariants as objs

-- a record has content on a page: it is one of a memory object, or that of an output ring, and isn't fresh
abbrev pub has_content : Obj → ℕ → Bool
has_content (objs.Memory memory) page = list_any (λ p. (p.page == page) && not p.fresh) memory.pages.items
has_content (objs.Ring ring) page =
    not ring.fresh && list_any (λ number. number == page) (page_numbers (Some (ring_of ring.channel)))
has_content obj page = false

abbrev pub has_content_in : Option Obj → ℕ → Bool
has_content_in None page = false
has_content_in (Some obj) page = has_content obj page

-- the record of some object has content on a page
unfoldable pub is_content : (ℕ → Option Obj) → ℕ → Bool
is_content records page = list_any (λ i. has_content_in (records i) page) every_object
