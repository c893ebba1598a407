use Rattle.std.proofs.Common.{◌≡◌, ◌<◌, ◌≤◌, ◌∙◌, get_or, refl, arith}
use Rattle.std.proofs.lemmas.List.{get_or-take}
use Rattle.labels.specs.Passes.{taken, node_below}
use Rattle.whatif.specs.Laws.Again.{turns_next, turns_end, turns_up}
use Rattle.whatif.proofs.relabel.relabel.Goals as goal

pub turn_to-requires-clause-n_lt_nodes : goal.turn_to-requires-clause-n_lt_nodes
turn_to-requires-clause-n_lt_nodes c =
    let h : c.loop-x.x-index < c.args.count = omega (arith, taken _ _ _ _ _ c.requires.posted) in
    node_below _ _ _ _ _ c.requires.posted _ c.loop-x.x-index (c.from.ensures ∙ get_or-take _ _ _ _ h) h

pub loop-x-preserved : goal.loop-x-preserved
loop-x-preserved c =
    let h : c.loop-x.x-index < c.args.count = omega (arith, taken _ _ _ _ _ c.requires.posted) in
    let q : c.from.result ≡ get_or c.args.order.now c.loop-x.x-index 0 = c.from.ensures ∙ get_or-take _ _ _ _ h in
    search turns_next

pub returns-clause-marks_after : goal.returns-clause-marks_after
returns-clause-marks_after c =
    let h : c.args.count ≤ c.loop-x.x-index = omega (arith, taken _ _ _ _ _ c.requires.posted) in
    search turns_end

pub returns-clause-up_after : goal.returns-clause-up_after
returns-clause-up_after c =
    let h : c.args.count ≤ c.loop-x.x-index = omega (arith, taken _ _ _ _ _ c.requires.posted) in
    search turns_up
