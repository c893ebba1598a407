use Rattle.std.proofs.Common.{rules, ◌≡◌, ◌+◌, arith}
use Rattle.std.specs.Prelude.{None}
use Rattle.tgf.specs.Laws.Counting.{edges_start, edges_end, edges_many, edges_stop, edges_next}
use Rattle.tgf.proofs.count.count_edges.Goals as goal

pub loop-k-init : goal.loop-k-init
loop-k-init c = search (rules, edges_start)

pub returns-then-text-at-clause-value : goal.returns-then-text-at-clause-value
returns-then-text-at-clause-value c = search (rules, edges_end)

pub loop-k-preserved : goal.loop-k-preserved
loop-k-preserved c =
    edges_next _ _ _ _ _ c.loop-k.invariant _ c.in-Some.e c.in-Some.is c.edge_at.ensures.result_value c.if-text-at.false c.loop-k-test.true

pub returns-in_default-clause-value : goal.returns-in_default-clause-value
returns-in_default-clause-value c =
    let n : c.edge_at.result ≡ None = search rules in
    edges_stop _ _ _ _ _ c.loop-k.invariant _ n c.edge_at.ensures.result_value c.if-text-at.false c.loop-k-test.true

pub returns-then-text-at-2-clause-value : goal.returns-then-text-at-2-clause-value
returns-then-text-at-2-clause-value c =
    let z : c.loop-k.k ≡ 1024 = omega arith in
    rw z at (edges_end _ _ _ _ _ c.loop-k.invariant c.if-text-at-2.true)

pub returns-clause-value : goal.returns-clause-value
returns-clause-value c =
    let z : c.args.m + 2 + c.loop-k.k ≡ c.args.m + 1026 = omega arith in
    rw z at (edges_many _ _ _ _ _ c.loop-k.invariant c.if-text-at-2.false (omega arith))
