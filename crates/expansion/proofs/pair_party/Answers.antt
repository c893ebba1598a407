-- The laws of a party's triple.
use Rattle.std.proofs.Common.{rules}
use Rattle.expansion.specs.Pairing.{pairs}
use Rattle.expansion.proofs.pair_party.Goals as goal

ruleset laws = (rules, pairs)

pub returns-in_default : goal.returns-in_default
returns-in_default c = search laws

pub returns-in-Parent : goal.returns-in-Parent
returns-in-Parent c = search laws

pub returns-in-Candidate : goal.returns-in-Candidate
returns-in-Candidate c = search laws
