-- The laws of Excluded.
use Rattle.std.proofs.Common.{rules}
use Rattle.linking.specs.Direct.{excludeds}
use Rattle.linking.proofs.Tags.{not_solvable}
use Rattle.linking.proofs.expand_excluded.Goals as goal

ruleset laws = (rules, excludeds, not_solvable)

pub returns-in_default : goal.returns-in_default
returns-in_default c = search laws

pub returns : goal.returns
returns c = search laws
