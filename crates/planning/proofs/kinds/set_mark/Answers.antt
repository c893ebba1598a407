use Rattle.planning.specs.EdgeMarks.{set_requires, set_locked, set_is, set_forbid, set_excluded}
use Rattle.planning.proofs.kinds.set_mark.Goals as goal

pub returns-in-Requires : goal.returns-in-Requires
returns-in-Requires c = search set_requires

pub returns-in-Locked : goal.returns-in-Locked
returns-in-Locked c = search set_locked

pub returns-in-Constrains : goal.returns-in-Constrains
returns-in-Constrains c = search set_is

pub returns-in-ForbidMultipleInstances : goal.returns-in-ForbidMultipleInstances
returns-in-ForbidMultipleInstances c = search set_forbid

pub returns-in-Excluded : goal.returns-in-Excluded
returns-in-Excluded c = search set_excluded
