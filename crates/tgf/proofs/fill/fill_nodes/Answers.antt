use Rattle.std.proofs.Common.{rules, ◌≡◌}
use Rattle.std.specs.Prelude.{None}
use Rattle.tgf.specs.Laws.Filling.{nodes_begin, nodes_fill, nodes_some, nodes_list, nodes_at, hash_at_lem}
use Rattle.tgf.proofs.fill.fill_nodes.Goals as goal

pub loop-i-init : goal.loop-i-init
loop-i-init c = (search rules, nodes_begin _ _ _ c.requires.text_value c.requires.text_len)

pub loop-i-preserved : goal.loop-i-preserved
loop-i-preserved c = (
  search rules,
  nodes_fill _ _ _ _ _ _ _ _ c.loop-i.invariant.1 _ c.in-Some.x _ c.loop-i-test.true c.in-Some.is c.put_node.ensures c.node_at.ensures.result_value c.in-Some.ensures.in_bounds.4 c.in-Some.ensures.in_bounds.0
      c.in-Some.ensures.in_bounds.1,
)

pub returns-after-loop-i-clause-value : goal.returns-after-loop-i-clause-value
returns-after-loop-i-clause-value c = nodes_at _ _ _ _ _ _ _ _ c.loop-i.invariant.1 c.loop-i-test.false

pub returns-after-loop-i-clause-nodes_after : goal.returns-after-loop-i-clause-nodes_after
returns-after-loop-i-clause-nodes_after c = nodes_list _ _ _ _ _ _ _ _ c.loop-i.invariant.1 c.loop-i-test.false

pub returns-after-loop-i-clause-hash_at : goal.returns-after-loop-i-clause-hash_at
returns-after-loop-i-clause-hash_at c = hash_at_lem _ _ _ _ _ _ _ c.loop-i.invariant.1 c.loop-i-test.false c.loop-i.auto.i-end c.requires.n_bound

pub returns-in_default-clause-value : goal.returns-in_default-clause-value
returns-in_default-clause-value c =
    let n : c.node_at.result ≡ None = search rules in
    absurd (nodes_some _ _ _ _ _ _ _ _ c.loop-i.invariant.1 _ c.loop-i-test.true c.node_at.ensures.result_value n)

pub returns-in_default-clause-nodes_after : goal.returns-in_default-clause-nodes_after
returns-in_default-clause-nodes_after c =
    let n : c.node_at.result ≡ None = search rules in
    absurd (nodes_some _ _ _ _ _ _ _ _ c.loop-i.invariant.1 _ c.loop-i-test.true c.node_at.ensures.result_value n)

pub returns-in_default-clause-hash_at : goal.returns-in_default-clause-hash_at
returns-in_default-clause-hash_at c =
    let n : c.node_at.result ≡ None = search rules in
    absurd (nodes_some _ _ _ _ _ _ _ _ c.loop-i.invariant.1 _ c.loop-i-test.true c.node_at.ensures.result_value n)
