-- The laws of ForbidMultipleInstances.
use Rattle.std.proofs.Common.{rules}
use Rattle.expansion.specs.Forbidding.{forbids, solvable_small, name_small, name_wide}
use Rattle.linking.proofs.Tags.{not_solvable, not_forbid}
use Rattle.expansion.proofs.expand_forbid.Goals as goal

ruleset laws = (rules, forbids, solvable_small, name_small, name_wide, not_solvable, not_forbid)

pub returns-in_default : goal.returns-in_default
returns-in_default c = search laws

pub returns-in_default-u : goal.returns-in_default-u
returns-in_default-u c = search laws

pub last_under-p-requires : goal.last_under-p-requires
last_under-p-requires c = search laws

pub note_last-requires : goal.note_last-requires
note_last-requires c = search laws

pub returns : goal.returns
returns c = search laws
