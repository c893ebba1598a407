use Rattle.std.proofs.Common.{rules}
use Rattle.index.specs.Filling.{partners_next, partners_end}
use Rattle.index.proofs.hang_partners.Goals as goal

pub loop-k-preserved : goal.loop-k-preserved
loop-k-preserved c = search (rules, partners_next)

pub returns : goal.returns
returns c = search (rules, partners_end)
