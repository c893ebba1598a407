-- The laws of a new triple.
use Rattle.std.proofs.Common.{rules}
use Rattle.expansion.specs.Skipping.{news}
use Rattle.expansion.proofs.is_new.Goals as goal

ruleset laws = (rules, news)

pub returns-in_default : goal.returns-in_default
returns-in_default c = search laws

pub returns : goal.returns
returns c = search laws
