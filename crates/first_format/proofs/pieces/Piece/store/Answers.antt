use Rattle.std.proofs.Common.{inr, slice_index, length, arith}
use Rattle.sls_base.specs.declared.fixed.TheConstants.{LEADER}
use Rattle.pmem_model.specs.Memory.{word_at}
use Rattle.pmem_model.specs.PlaceLaws.{home_of}
use Rattle.pmem_operations.specs.Operations.{IsInside}
use Rattle.first_format.proofs.Rooms.{room_of}
use Rattle.first_format.proofs.pieces.Piece.store.Goals as goal

pub burst-requires-clause-inside : goal.burst-requires-clause-inside
burst-requires-clause-inside c = rw (c.place.ensures, c.requires.size) ((room_of c.args.self c.requires.piece).inside)

pub burst-requires-clause-home : goal.burst-requires-clause-home
burst-requires-clause-home c =
    rw c.place.ensures (home_of c.args.nvm.now _ c.requires.home ((room_of c.args.self c.requires.piece).range))

pub returns-clause-operation : goal.returns-clause-operation
returns-clause-operation c =
    let room = room_of c.args.self c.requires.piece in
    let inside : IsInside c.place.result (length c.args.words.now) = rw (c.place.ensures, c.requires.size) (room.range, room.inside) in
    inr (c.operations.ensures.burst LEADER c.place.result (length c.args.words.now) (slice_index c.args.words.now) (word_at c.args.nvm.now) (word_at c.burst.new.self)
    (omega (arith, room.most)) inside c.burst.ensures.words)
