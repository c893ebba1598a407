-- The laws of Constrains.
use Rattle.std.proofs.Common.{rules}
use Rattle.linking.specs.Direct.{constrainings}
use Rattle.linking.proofs.expand_constrains.Goals as goal

ruleset laws = (rules, constrainings)

pub returns-in_default : goal.returns-in_default
returns-in_default c = search laws

pub returns-in_default-y : goal.returns-in_default-y
returns-in_default-y c = search laws

pub returns : goal.returns
returns c = search laws
