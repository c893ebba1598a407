-- The laws of each way out.
use Rattle.std.proofs.Common.{rules}
use Rattle.links.specs.Queue.{notes}
use Rattle.links.proofs.reach.note.Goals as goal

ruleset laws = (rules, notes)

pub returns-then-w-at-eq0 : goal.returns-then-w-at-eq0
returns-then-w-at-eq0 c = search laws

pub returns : goal.returns
returns c = search laws
