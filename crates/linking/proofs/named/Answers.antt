-- What an origin names.
use Rattle.std.proofs.Common.{rules}
use Rattle.linking.specs.Parties.{parties}
use Rattle.linking.proofs.named.Goals as goal

ruleset laws = (rules, parties)

pub returns-in-Root : goal.returns-in-Root
returns-in-Root c = search laws

pub returns-in-Solvable : goal.returns-in-Solvable
returns-in-Solvable c = search laws

pub returns-in-ForbidMultiple : goal.returns-in-ForbidMultiple
returns-in-ForbidMultiple c = search laws

pub returns-in-RequiresGate : goal.returns-in-RequiresGate
returns-in-RequiresGate c = search laws

pub returns-in-ConstrainsAuxiliary : goal.returns-in-ConstrainsAuxiliary
returns-in-ConstrainsAuxiliary c = search laws

pub returns-in-Other : goal.returns-in-Other
returns-in-Other c = search laws
