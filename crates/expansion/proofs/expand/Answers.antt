-- The laws of a clause of the core, by its kind.
use Rattle.std.proofs.Common.{rules}
use Rattle.expansion.specs.Forbidding.{expands}
use Rattle.expansion.proofs.expand.Goals as goal

ruleset laws = (rules, expands)

pub returns-in-InstallRoot : goal.returns-in-InstallRoot
returns-in-InstallRoot c = search laws

pub returns-in-Excluded : goal.returns-in-Excluded
returns-in-Excluded c = search laws

pub returns-in-Learnt : goal.returns-in-Learnt
returns-in-Learnt c = search laws

pub returns-in-Requires : goal.returns-in-Requires
returns-in-Requires c = search laws

pub returns-in-Lock : goal.returns-in-Lock
returns-in-Lock c = search laws

pub returns-in-ForbidMultipleInstances : goal.returns-in-ForbidMultipleInstances
returns-in-ForbidMultipleInstances c = search laws

pub returns-in-Constrains : goal.returns-in-Constrains
returns-in-Constrains c = search laws

pub returns-in-ConstrainsParent : goal.returns-in-ConstrainsParent
returns-in-ConstrainsParent c = search laws

pub returns-in-ConstrainsExcluded : goal.returns-in-ConstrainsExcluded
returns-in-ConstrainsExcluded c = search laws

pub returns-in-AnyOf : goal.returns-in-AnyOf
returns-in-AnyOf c = search laws
