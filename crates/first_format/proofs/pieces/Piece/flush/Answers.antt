use Rattle.std.proofs.Common.{◌*◌, inr}
use Rattle.sls_base.specs.declared.fixed.TheConstants.{LEADER}
use Rattle.pmem_model.specs.Memory.{word_at}
use Rattle.pmem_model.specs.PlaceLaws.{home_of}
use Rattle.pmem_operations.specs.Operations.{IsInside}
use Rattle.first_format.proofs.Rooms.{room_of}
use Rattle.first_format.proofs.pieces.Piece.flush.Goals as goal

pub flush-requires-clause-inside : goal.flush-requires-clause-inside
flush-requires-clause-inside c = rw (c.line_at.ensures, c.place.ensures, c.lines.ensures) ((room_of c.args.self c.requires.piece).lines)

pub flush-requires-clause-home : goal.flush-requires-clause-home
flush-requires-clause-home c =
    rw (c.line_at.ensures, c.place.ensures) (home_of c.args.nvm.now _ c.requires.home ((room_of c.args.self c.requires.piece).lines_range))

pub returns-clause-operation : goal.returns-clause-operation
returns-clause-operation c =
    let room = room_of c.args.self c.requires.piece in
    let inside : IsInside c.line_at.result (8 * c.lines.result) = rw (c.line_at.ensures, c.place.ensures, c.lines.ensures) (room.lines_range, room.lines) in
    inr (c.operations.ensures.flush LEADER c.line_at.result c.lines.result (word_at c.args.nvm.now) (word_at c.flush.new.self) inside c.flush.ensures.words)
