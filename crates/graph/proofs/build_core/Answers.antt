-- The laws of all clauses.
use Rattle.std.proofs.Common.{rules}
use Rattle.graph.specs.Drawing.{lefts}
use Rattle.graph.proofs.build_core.Goals as goal

ruleset laws = (rules, lefts)

pub returns-in-Err : goal.returns-in-Err
returns-in-Err c = search laws

pub loop-i-preserved : goal.loop-i-preserved
loop-i-preserved c = search laws

pub returns : goal.returns
returns c = search laws
