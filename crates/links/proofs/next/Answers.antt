-- The laws of a link in a part of the table.
use Rattle.std.proofs.Common.{rules}
use Rattle.links.specs.Walk.{parts}
use Rattle.links.proofs.next.Goals as goal

ruleset laws = (rules, parts)

pub returns-then-e-lt1024 : goal.returns-then-e-lt1024
returns-then-e-lt1024 c = search laws

pub returns : goal.returns
returns c = search laws
