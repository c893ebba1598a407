-- The laws of the clause that assigned an auxiliary.
use Rattle.std.proofs.Common.{rules}
use Rattle.linking.specs.Parties.{excluded_other, excluded_assigned, parent_other, parent_assigned}
use Rattle.expansion.specs.Pairing.{reason_parent, reason_candidate, other_unassigned}
use Rattle.linking.proofs.Tags.{not_parent, not_excluded}
use Rattle.expansion.proofs.recover_other.Goals as goal

ruleset laws = (rules, excluded_other, excluded_assigned, parent_other, parent_assigned, reason_parent, reason_candidate, other_unassigned, not_parent, not_excluded)

pub returns-then-i-eq0 : goal.returns-then-i-eq0
returns-then-i-eq0 c = search laws

pub returns-in_default : goal.returns-in_default
returns-in_default c = search laws

pub returns-in_default-c : goal.returns-in_default-c
returns-in_default-c c = search laws

pub returns-in-ConstrainsExcluded : goal.returns-in-ConstrainsExcluded
returns-in-ConstrainsExcluded c = search laws

pub returns-in-ConstrainsParent : goal.returns-in-ConstrainsParent
returns-in-ConstrainsParent c = search laws
