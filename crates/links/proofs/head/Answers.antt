-- The laws of a head in a part of the table.
use Rattle.std.proofs.Common.{rules}
use Rattle.links.specs.Walk.{parts}
use Rattle.links.proofs.head.Goals as goal

ruleset laws = (rules, parts)

pub returns-then-n-lt128 : goal.returns-then-n-lt128
returns-then-n-lt128 c = search laws

pub returns : goal.returns
returns c = search laws
