use Rattle.std.proofs.Common.{rules}
use Rattle.index.specs.Filling.{candidates_next, candidates_end}
use Rattle.index.proofs.hang_candidates.Goals as goal

pub loop-k-preserved : goal.loop-k-preserved
loop-k-preserved c = search (rules, candidates_next)

pub returns : goal.returns
returns c = search (rules, candidates_end)
