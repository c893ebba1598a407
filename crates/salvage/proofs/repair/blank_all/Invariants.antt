use Rattle.std.proofs.Common.{◌≡◌, take}
use Rattle.salvage.specs.Writing.{blanks}
use Rattle.salvage.specs.Laws.Paste.{blanks_left}
use Rattle.salvage.proofs.repair.blank_all.Given as goal

abbrev pub invariant-loop-l : goal.invariant-loop-l
invariant-loop-l l = blanks_left l.list l.k l.l-index l.room ≡ blanks (take l.k l.list) l.fn.room
