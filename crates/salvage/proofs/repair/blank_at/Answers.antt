use Rattle.std.proofs.Common.{rules}
use Rattle.salvage.specs.Laws.Paste.{blank_out, blank_in}
use Rattle.salvage.proofs.repair.blank_at.Goals as goal

pub returns-then-room-at : goal.returns-then-room-at
returns-then-room-at c = search (rules, blank_out)

pub returns : goal.returns
returns c = search (rules, blank_in)
