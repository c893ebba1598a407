-- The laws of each way out.
use Rattle.std.proofs.Common.{rules}
use Rattle.store.specs.Laws.Fan.{afters}
use Rattle.store.proofs.fan.size_after.Goals as goal

ruleset laws = (rules, afters)

pub returns-then-r-eq0 : goal.returns-then-r-eq0
returns-then-r-eq0 c = search laws

pub returns-then-r-ge2 : goal.returns-then-r-ge2
returns-then-r-ge2 c = search laws

pub returns : goal.returns
returns c = search laws
