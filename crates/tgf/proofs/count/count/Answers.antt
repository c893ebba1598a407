use Rattle.std.proofs.Common.{rules, ◌≡◌, arith}
use Rattle.std.specs.Prelude.{None}
use Rattle.tgf.specs.Laws.Counting.{count_none, count_start, nodes_hash, nodes_many, nodes_stop, nodes_next}
use Rattle.tgf.proofs.count.count.Goals as goal

pub returns-in_default-clause-value : goal.returns-in_default-clause-value
returns-in_default-clause-value c =
    let n : c.node_at.result ≡ None = search rules in
    count_none _ _ c.node_at.ensures.result_value n

pub loop-i-init : goal.loop-i-init
loop-i-init c = (c.in-Some.ensures.in_bounds.0, count_start _ _ c.node_at.ensures.result_value _ c.in-Some.is)

pub returns-then-hash_at-clause-value : goal.returns-then-hash_at-clause-value
returns-then-hash_at-clause-value c = nodes_hash _ _ _ _ c.loop-i.invariant.1 _ c.hash_at.ensures _ c.if-hash_at.true c.count_edges.ensures.value

pub returns-in_default-node_at-clause-value : goal.returns-in_default-node_at-clause-value
returns-in_default-node_at-clause-value c =
    let n : c.node_at-in-loop-i.result ≡ None = search rules in
    nodes_stop _ _ _ _ c.loop-i.invariant.1 _ c.hash_at.ensures _ n c.node_at-in-loop-i.ensures.result_value c.if-hash_at.false c.loop-i-test.true

pub loop-i-preserved : goal.loop-i-preserved
loop-i-preserved c = (
  c.in-Some-node_at.ensures.in_bounds.0,
  nodes_next _ _ _ _ c.loop-i.invariant.1 _ c.hash_at.ensures _ c.in-Some-node_at.x c.in-Some-node_at.is c.node_at-in-loop-i.ensures.result_value
      c.if-hash_at.false c.loop-i-test.true,
)

pub returns-then-hash_at-2-clause-value : goal.returns-then-hash_at-2-clause-value
returns-then-hash_at-2-clause-value c =
    let z : c.loop-i.i ≡ 128 = omega arith in
    nodes_hash _ _ _ _ c.loop-i.invariant.1 _ c.hash_at-2.ensures _ c.if-hash_at-2.true (rw z c.count_edges-then-hash_at-2.ensures.value)

pub returns-clause-value : goal.returns-clause-value
returns-clause-value c =
    let z : c.loop-i.i ≡ 128 = omega arith in
    rw z at (nodes_many _ _ _ _ c.loop-i.invariant.1 _ c.hash_at-2.ensures c.if-hash_at-2.false (omega arith))
