-- The laws of the other side of an auxiliary.
use Rattle.std.proofs.Common.{rules}
use Rattle.expansion.specs.Pairing.{aux_ways}
use Rattle.expansion.proofs.pair_others.Goals as goal

ruleset laws = (rules, aux_ways)

pub returns-then-aux_kept : goal.returns-then-aux_kept
returns-then-aux_kept c = search laws

pub returns : goal.returns
returns c = search laws
