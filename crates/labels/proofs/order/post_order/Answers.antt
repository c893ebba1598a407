use Rattle.std.proofs.Common.{refl, rules}
use Rattle.labels.specs.Frames.{start_in, turn_done}
use Rattle.labels.proofs.order.post_order.Goals as goal

pub loop-at-init : goal.loop-at-init
loop-at-init c = (search (rules, start_in), refl)

pub returns : goal.returns
returns c = search (rules, turn_done)
