use Rattle.std.proofs.Common.{rules}
use Rattle.basis.specs.Below.{below_none, below_whole}
use Rattle.season.specs.Laws.Words.{flag_step, flag_fails}
use Rattle.season.proofs.counts_fit.Goals as goal

pub loop-i-init : goal.loop-i-init
loop-i-init c = search (rules, below_none)

pub returns-then-not-pair_fits : goal.returns-then-not-pair_fits
returns-then-not-pair_fits c = search (rules, flag_fails)

pub loop-i-preserved : goal.loop-i-preserved
loop-i-preserved c = search (rules, flag_step)

pub returns : goal.returns
returns c = search (rules, below_whole)
