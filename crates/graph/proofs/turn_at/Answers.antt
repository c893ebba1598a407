-- The laws of one clause.
use Rattle.std.proofs.Common.{rules}
use Rattle.graph.specs.Drawing.{turns, hand_holds}
use Rattle.graph.proofs.turn_at.Goals as goal

ruleset laws = (rules, turns, hand_holds)

pub returns-then-in_core : goal.returns-then-in_core
returns-then-in_core c = search laws

pub returns : goal.returns
returns c = search laws
