-- Where pieces stand in the memory, as a burst and a flush ask.
use Rattle.std.proofs.Common.{◌+◌, ◌*◌, ◌<◌, ◌≤◌, arith}
use Rattle.sls_base.specs.declared.limits.TheConstants.{WORDS, FRAME_WORDS}
use Rattle.pmem_model.specs.Places.{bank_of, bank_size, offset_of}
use Rattle.pmem_model.specs.PlaceLaws.{all_home_kept, home_of, inside_at, inside_table}
use Rattle.pmem_layout.specs.Places.{line_at}
use Rattle.first_format.specs.declared.pieces.Piece.{Piece}
use Rattle.first_format.specs.declared.pieces.Piece.TheVariants.{Head, Tags, Record, Page}
use Rattle.first_format.specs.Pieces.{IsPiece, place_of, count_of, lines_of}

pub record HasRoom (piece : Piece) : Type 0 where
  pub range : place_of piece < WORDS
  pub some : 0 < count_of piece
  pub most : count_of piece ≤ FRAME_WORDS
  pub inside : offset_of (place_of piece) + count_of piece ≤ bank_size (bank_of (place_of piece))
  pub some_lines : 0 < lines_of piece
  pub lines_range : line_at (place_of piece) < WORDS
  pub lines : offset_of (line_at (place_of piece)) + 8 * lines_of piece ≤ bank_size (bank_of (line_at (place_of piece)))

pub room_of : (piece : Piece) → IsPiece piece → HasRoom piece
room_of Head h = record {
  range = omega arith;
  some = omega arith;
  most = omega arith;
  inside = inside_table 2 24 (omega arith) (omega arith);
  some_lines = omega arith;
  lines_range = omega arith;
  lines = inside_table 0 32 (omega arith) (omega arith);
}
room_of Tags h = record {
  range = omega arith;
  some = omega arith;
  most = omega arith;
  inside = inside_table 1216 256 (omega arith) (omega arith);
  some_lines = omega arith;
  lines_range = omega arith;
  lines = inside_table 1216 256 (omega arith) (omega arith);
}
room_of (Record id) h = record {
  range = omega arith;
  some = omega arith;
  most = omega arith;
  inside = inside_table (place_of (Record id)) 64 (omega arith) (omega arith);
  some_lines = omega arith;
  lines_range = omega arith;
  lines = inside_table (line_at (place_of (Record id))) 64 (omega arith) (omega arith);
}
room_of (Page page) h = record {
  range = omega arith;
  some = omega arith;
  most = omega arith;
  inside = inside_at (place_of (Page page)) (2 * page) 0 512 (omega arith) (omega arith) (omega arith);
  some_lines = omega arith;
  lines_range = omega arith;
  lines = inside_at (line_at (place_of (Page page))) (2 * page) 0 512 (omega arith) (omega arith) (omega arith);
}

pub ruleset homes = (home_of, all_home_kept)
