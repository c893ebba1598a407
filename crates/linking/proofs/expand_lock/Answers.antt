-- The laws of Lock.
use Rattle.std.proofs.Common.{rules}
use Rattle.linking.specs.Direct.{locks}
use Rattle.linking.proofs.Tags.{not_solvable}
use Rattle.linking.proofs.expand_lock.Goals as goal

ruleset laws = (rules, locks, not_solvable)

pub returns-in_default : goal.returns-in_default
returns-in_default c = search laws

pub returns-in_default-p : goal.returns-in_default-p
returns-in_default-p c = search laws

pub returns : goal.returns
returns c = search laws
