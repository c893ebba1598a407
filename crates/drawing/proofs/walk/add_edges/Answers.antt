use Rattle.std.specs.Prelude.{refl}
use Rattle.std.proofs.Common.{rules, arith}
use Rattle.std.proofs.lemmas.Result.{err_from_is_err_and}
use Rattle.drawing.specs.Walk.{edging_start, edging_edge, edging_less, edging_next, edging_stop, edging_stamped, edging_end}
use Rattle.drawing.proofs.walk.add_edges.Goals as goal

pub loop-e-init : goal.loop-e-init
loop-e-init c = search (rules, edging_start)

pub step-requires-clause-edged : goal.step-requires-clause-edged
step-requires-clause-edged c = edging_edge _ _ _ _ _ _ _ _ _ _ _ _ c.loop-e.invariant c.loop-e-test.true

pub returns-in_err-q-clause-adds : goal.returns-in_err-q-clause-adds
returns-in_err-q-clause-adds c = let p = err_from_is_err_and c.from_residual.result c.from_residual.ensures.1 in rw (p.1, p.2) (edging_stop _ _ _ _ _ _ _ _ _ _ _ _ c.loop-e.invariant c.loop-e-test.true _ _ _ c.in_err-q.ensures.adds c.in_err-q.ensures.w_after (λ z. omega arith))

pub returns-in_err-q-clause-stamped_2 : goal.returns-in_err-q-clause-stamped_2
returns-in_err-q-clause-stamped_2 c = edging_stamped _ _ _ _ _ _ _ _ _ _ _ _ c.loop-e.invariant c.loop-e-test.true _ _ _ c.in_err-q.ensures.adds c.in_err-q.ensures.w_after

pub loop-e-smaller : goal.loop-e-smaller
loop-e-smaller c = edging_less _ _ _ _ _ _ _ _ _ _ _ _ c.loop-e.invariant _ c.loop-e-test.true c.next_out-e.ensures.0

pub loop-e-preserved : goal.loop-e-preserved
loop-e-preserved c = edging_next _ _ _ _ _ _ _ _ _ _ _ _ c.loop-e.invariant c.loop-e-test.true _ _ _ c.in_ok-q.ensures.adds c.in_ok-q.ensures.w_after _ c.next_out-e.ensures.0 refl

pub returns-clause-adds : goal.returns-clause-adds
returns-clause-adds c = edging_end _ _ _ _ _ _ _ _ _ _ _ _ c.loop-e.invariant c.loop-e-test.false
