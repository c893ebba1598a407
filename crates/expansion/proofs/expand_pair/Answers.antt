-- The laws of a whole clause.
use Rattle.std.proofs.Common.{rules}
use Rattle.expansion.specs.Pairing.{clauses}
use Rattle.expansion.proofs.expand_pair.Goals as goal

ruleset laws = (rules, clauses)

pub returns-in_default : goal.returns-in_default
returns-in_default c = search laws

pub returns : goal.returns
returns c = search laws
