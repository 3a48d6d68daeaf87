use Rattle.std.proofs.Common.{ℕ, Option, take}
use Rattle.std.specs.Prelude.{All}
use Rattle.pmem_model.specs.Memory.{AllHome, word_at}
use Rattle.kobj_codec.specs.declared.obj.Obj.{Obj}
use Rattle.object_root.specs.Shows.{ObjectsShow}
use Rattle.object_root.specs.Turns.{Plays, Fits, AreAllIdle}
use Rattle.object_root.proofs.roots.Roots.play.Given as goal

abbrev pub invariant-loop-turn : goal.invariant-loop-turn
invariant-loop-turn l = AllHome l.nvm × AreAllIdle l.turns l.fn.self l.self
    × ((v : ℕ) (saved next : ℕ → Option Obj) → All (Fits next) l.turns
    → ObjectsShow l.fn.self (word_at l.fn.nvm) v saved next → ObjectsShow l.self (word_at l.nvm) v saved next)
    × Plays l.fn.self (word_at l.fn.nvm) (take l.turn-index l.turns) l.self (word_at l.nvm)
