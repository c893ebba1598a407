use Rattle.std.specs.Prelude.{refl}
use Rattle.std.proofs.Common.{arith}
use Rattle.std.proofs.lemmas.Result.{err_from_is_err_and}
use Rattle.wall.specs.Laws.Walk.{edging_start, edging_fine, edging_next, edging_stop, edging_end}
use Rattle.wall.proofs.walk.add_edges.Goals as goal

pub loop-i-init : goal.loop-i-init
loop-i-init c = edging_start _ _ _ _ _ c.requires.stored c.requires.fine refl

pub add_edge-requires-clause-fine : goal.add_edge-requires-clause-fine
add_edge-requires-clause-fine c = edging_fine _ _ _ _ _ _ _ _ c.loop-i.invariant

pub returns-in_err-q : goal.returns-in_err-q
returns-in_err-q c = let p = err_from_is_err_and c.from_residual.result c.from_residual.ensures.1 in rw (p.1, p.2) (edging_stop _ _ _ _ _ _ _ _ _ _ c.loop-i.invariant c.loop-i-test.true c.in_err-q.ensures (λ z. omega arith))

pub loop-i-preserved : goal.loop-i-preserved
loop-i-preserved c = edging_next _ _ _ _ _ _ _ _ _ _ c.loop-i.invariant c.loop-i-test.true c.in_ok-q.ensures refl

pub returns : goal.returns
returns c = edging_end _ _ _ _ _ _ _ _ c.loop-i.invariant c.loop-i-test.false
