-- The laws of the clause that assigned a gate.
use Rattle.std.proofs.Common.{rules}
use Rattle.linking.specs.Parties.{gate_unassigned, gate_other, gate_assigned}
use Rattle.linking.proofs.Tags.{not_any_of}
use Rattle.linking.proofs.recover_gate.Goals as goal

ruleset laws = (rules, gate_unassigned, gate_other, gate_assigned, not_any_of)

pub returns-then-i-eq0 : goal.returns-then-i-eq0
returns-then-i-eq0 c = search laws

pub returns-in_default : goal.returns-in_default
returns-in_default c = search laws

pub returns : goal.returns
returns c = search laws
