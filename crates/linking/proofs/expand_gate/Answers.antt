-- The laws of a gate's requirers.
use Rattle.std.proofs.Common.{rules}
use Rattle.linking.specs.Requiring.{gate_ways}
use Rattle.linking.proofs.expand_gate.Goals as goal

ruleset laws = (rules, gate_ways)

pub returns-then-gate_kept : goal.returns-then-gate_kept
returns-then-gate_kept c = search laws

pub returns : goal.returns
returns c = search laws
