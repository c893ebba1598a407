use Rattle.std.proofs.Common.{rules}
use Rattle.links.specs.Queue.{seen_start, seen_all}
use Rattle.links.proofs.reach.mark.Goals as goal

pub loop-h-init : goal.loop-h-init
loop-h-init c = search (rules, seen_start)

pub returns : goal.returns
returns c = search (rules, seen_all)
