-- The pieces that formatting stores, one behind another.
use Rattle.std.specs.Prelude.{ℕ, ◌+◌, ◌-◌, ◌*◌, ◌<◌, ◌==◌, nat_lt, if◌then◌else◌}
use Rattle.sls_base.specs.declared.limits.TheConstants.{FRAME_WORDS, OBJECTS, PAGES}
use Rattle.sls_base.specs.declared.fixed.TheConstants.{FIRST_PROGRAM_PAGE}
use Rattle.pmem_layout.specs.declared.places.TheConstants.{CORES_AT, FRAME_LINES, OBJECT_TAGS_AT, PAGE_BASE_END, SLOTS, SLOT_LINES, SLOT_WORDS}
use Rattle.pmem_layout.specs.Places.{frame_at, object_slot_at, runtime_frame}
use Rattle.first_format.specs.declared.pieces.TheConstants.{FIRST_PAGE_PIECE, FIRST_RECORD_PIECE, HEAD_LINES, TAG_LINES}
use Rattle.first_format.specs.declared.pieces.Piece.{Piece}
use Rattle.first_format.specs.declared.pieces.Piece.TheVariants.{Head, Tags, Record, Page}

-- It is of an object or of a page that there is.
abbrev pub IsPiece : Piece → Type 0
IsPiece Head = Unit {0}
IsPiece Tags = Unit {0}
IsPiece (Record id) = id < OBJECTS
IsPiece (Page page) = page < PAGES

-- the pieces in order: the pages of the output rings, which are fresh, have none
abbrev pub piece_of : ℕ → Piece
piece_of n =
    if n == 0 then Head
    else if n == 1 then Tags
    else if nat_lt n FIRST_PAGE_PIECE then Record (n - FIRST_RECORD_PIECE)
    else Page (n - FIRST_PAGE_PIECE + FIRST_PROGRAM_PAGE)

-- where it begins, and how many words it has
abbrev pub place_of : Piece → ℕ
place_of Head = CORES_AT
place_of Tags = OBJECT_TAGS_AT
place_of (Record id) = object_slot_at id 0
place_of (Page page) = frame_at (runtime_frame page)

abbrev pub count_of : Piece → ℕ
count_of Head = PAGE_BASE_END - CORES_AT
count_of Tags = SLOTS * OBJECTS
count_of (Record id) = SLOT_WORDS
count_of (Page page) = FRAME_WORDS

-- how many lines it stands in
abbrev pub lines_of : Piece → ℕ
lines_of Head = HEAD_LINES
lines_of Tags = TAG_LINES
lines_of (Record id) = SLOT_LINES
lines_of (Page page) = FRAME_LINES
