use Rattle.std.proofs.Common.{rules, ◌≡◌}
use Rattle.std.specs.Prelude.{None}
use Rattle.tgf.specs.Laws.Filling.{edges_first, edges_fill, edges_some, edges_list}
use Rattle.tgf.proofs.fill.fill_edges.Goals as goal

pub loop-k-init : goal.loop-k-init
loop-k-init c = (search rules, edges_first _ _ _ _ _ c.requires.edges_at)

pub loop-k-preserved : goal.loop-k-preserved
loop-k-preserved c = (
  search rules,
  edges_fill _ _ _ _ _ _ _ c.loop-k.invariant.1 _ c.in-Some.x _ c.loop-k-test.true c.in-Some.is c.put_edge.ensures c.edge_at.ensures.result_value c.in-Some.ensures.in_bounds.6 c.in-Some.ensures.in_bounds.0
      c.in-Some.ensures.in_bounds.1,
)

pub returns-after-loop-k : goal.returns-after-loop-k
returns-after-loop-k c = edges_list _ _ _ _ _ _ _ c.loop-k.invariant.1 c.loop-k-test.false

pub returns-in_default : goal.returns-in_default
returns-in_default c =
    let n : c.edge_at.result ≡ None = search rules in
    absurd (edges_some _ _ _ _ _ _ _ c.loop-k.invariant.1 _ c.loop-k-test.true c.edge_at.ensures.result_value n)
