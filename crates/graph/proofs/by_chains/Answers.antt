-- The laws of a graph with its chains.
use Rattle.std.proofs.Common.{rules}
use Rattle.graph.specs.Drawing.{end_drawn, end_unreached}
use Rattle.graph.proofs.by_chains.Goals as goal

ruleset laws = (rules, end_drawn, end_unreached)

pub returns-in-None : goal.returns-in-None
returns-in-None c = search laws

pub returns-in-Some : goal.returns-in-Some
returns-in-Some c = search laws
