-- The laws of the triples of an auxiliary's partners.
use Rattle.std.proofs.Common.{rules}
use Rattle.std.proofs.lemmas.Result.{err_from_is_err_and}
use Rattle.expansion.specs.Pairing.{pairs_stop, pairs_end}
use Rattle.expansion.specs.Skipping.{skipped_start, skipped_next, skipped_less, triples_on}
use Rattle.expansion.proofs.pair_all.Goals as goal

ruleset laws = (rules, pairs_stop, pairs_end, skipped_start, skipped_next, skipped_less, triples_on)

pub returns-in_err-m : goal.returns-in_err-m
returns-in_err-m c =
    let p = err_from_is_err_and c.from_residual.result c.from_residual.ensures.1 in
    rw (p.1, p.2) (search laws)

pub loop-y-smaller : goal.loop-y-smaller
loop-y-smaller c = search laws

pub loop-y-preserved : goal.loop-y-preserved
loop-y-preserved c = search laws

pub returns : goal.returns
returns c = search laws
