use Rattle.std.specs.Prelude.{refl}
use Rattle.std.proofs.Common.{arith}
use Rattle.std.proofs.lemmas.Result.{err_from_is_err_and}
use Rattle.wall.specs.Laws.Walk.{noding_start, noding_fine, node_few, noding_next, noding_stop, noding_end}
use Rattle.wall.proofs.walk.add_nodes.Goals as goal

pub loop-n-init : goal.loop-n-init
loop-n-init c = noding_start _ _ _ _ _ c.requires.stored c.requires.fine refl

pub add_node-requires-clause-i_bound : goal.add_node-requires-clause-i_bound
add_node-requires-clause-i_bound c = node_few _ _ _ _ _ _ _ _ c.loop-n.invariant c.loop-n-test.true

pub add_node-requires-clause-fine : goal.add_node-requires-clause-fine
add_node-requires-clause-fine c = noding_fine _ _ _ _ _ _ _ _ c.loop-n.invariant

pub returns-in_err-q : goal.returns-in_err-q
returns-in_err-q c = let p = err_from_is_err_and c.from_residual.result c.from_residual.ensures.1 in rw (p.1, p.2) (noding_stop _ _ _ _ _ _ _ _ _ _ c.loop-n.invariant c.loop-n-test.true c.in_err-q.ensures (λ z. omega arith))

pub loop-n-preserved : goal.loop-n-preserved
loop-n-preserved c = noding_next _ _ _ _ _ _ _ _ _ _ c.loop-n.invariant c.loop-n-test.true c.in_ok-q.ensures refl

pub returns : goal.returns
returns c = noding_end _ _ _ _ _ _ _ _ c.loop-n.invariant c.loop-n-test.false
