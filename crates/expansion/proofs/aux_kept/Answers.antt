-- The laws of the partners of an auxiliary.
use Rattle.std.proofs.Common.{rules}
use Rattle.views.specs.Walks.{aux_less}
use Rattle.expansion.specs.Pairing.{auxes_kept}
use Rattle.expansion.proofs.aux_kept.Goals as goal

ruleset laws = (rules, aux_less, auxes_kept)

pub returns-then-is_party : goal.returns-then-is_party
returns-then-is_party c = search laws

pub loop-y-smaller : goal.loop-y-smaller
loop-y-smaller c = search laws

pub loop-y-preserved : goal.loop-y-preserved
loop-y-preserved c = search laws

pub returns : goal.returns
returns c = search laws
