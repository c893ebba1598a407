use Rattle.std.proofs.Common.{◌≡◌, ◌<◌, ◌≤◌, ◌∙◌, get_or, arith}
use Rattle.std.proofs.lemmas.List.{get_or-take}
use Rattle.labels.specs.Passes.{along_start, along_next, along_end, node_below, node_small, taken}
use Rattle.labels.proofs.passes.mark_all.Goals as goal

pub loop-x-init : goal.loop-x-init
loop-x-init c = search along_start

pub node_mark-requires-clause-n_lt_nodes : goal.node_mark-requires-clause-n_lt_nodes
node_mark-requires-clause-n_lt_nodes c =
    let h : c.loop-x.x-index < c.args.count = omega (arith, taken _ _ _ _ _ c.requires) in
    node_below _ _ _ _ _ c.requires _ c.loop-x.x-index (c.from-n.ensures ∙ get_or-take _ _ _ _ h) h

pub bounds-marks-n : goal.bounds-marks-n
bounds-marks-n c =
    let h : c.loop-x.x-index < c.args.count = omega (arith, taken _ _ _ _ _ c.requires) in
    node_small _ _ _ _ _ c.requires _ c.loop-x.x-index (c.from-n.ensures ∙ get_or-take _ _ _ _ h) h

pub loop-x-preserved : goal.loop-x-preserved
loop-x-preserved c =
    let h : c.loop-x.x-index < c.args.count = omega (arith, taken _ _ _ _ _ c.requires) in
    let q : c.from-n.result ≡ get_or c.args.order.now c.loop-x.x-index 0 = c.from-n.ensures ∙ get_or-take _ _ _ _ h in
    search along_next

pub returns : goal.returns
returns c =
    let h : c.args.count ≤ c.loop-x.x-index = omega (arith, taken _ _ _ _ _ c.requires) in
    search along_end
