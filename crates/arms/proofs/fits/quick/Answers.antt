use Rattle.arms.specs.Fits.{sure_name, sure_solvable, sure_set, sure_requirement, sure_candidate, sure_reason, sure_variable, sure_assigned, sure_root}
use Rattle.arms.specs.Fits.{sure_excluded, sure_learnt, sure_requires, sure_lock, sure_forbid, sure_constrains, sure_parent, sure_barred, sure_any}
use Rattle.arms.specs.Fits.{sure_none}
use Rattle.arms.proofs.fits.quick.Goals as goal

pub returns-in-1 : goal.returns-in-1
returns-in-1 c = search sure_name

pub returns-in-2 : goal.returns-in-2
returns-in-2 c = search sure_solvable

pub returns-in-3 : goal.returns-in-3
returns-in-3 c = search sure_set

pub returns-in-4 : goal.returns-in-4
returns-in-4 c = search sure_requirement

pub returns-in-5 : goal.returns-in-5
returns-in-5 c = search sure_candidate

pub returns-in-6 : goal.returns-in-6
returns-in-6 c = search sure_reason

pub returns-in-7 : goal.returns-in-7
returns-in-7 c = search sure_variable

pub returns-in-8 : goal.returns-in-8
returns-in-8 c = search sure_assigned

pub returns-in-16 : goal.returns-in-16
returns-in-16 c = search sure_root

pub returns-in-17 : goal.returns-in-17
returns-in-17 c = search sure_excluded

pub returns-in-18 : goal.returns-in-18
returns-in-18 c = search sure_learnt

pub returns-in-19 : goal.returns-in-19
returns-in-19 c = search sure_requires

pub returns-in-20 : goal.returns-in-20
returns-in-20 c = search sure_lock

pub returns-in-21 : goal.returns-in-21
returns-in-21 c = search sure_forbid

pub returns-in-22 : goal.returns-in-22
returns-in-22 c = search sure_constrains

pub returns-in-23 : goal.returns-in-23
returns-in-23 c = search sure_parent

pub returns-in-24 : goal.returns-in-24
returns-in-24 c = search sure_barred

pub returns-in-25 : goal.returns-in-25
returns-in-25 c = search sure_any

pub returns-in_default : goal.returns-in_default
returns-in_default c = search sure_none
