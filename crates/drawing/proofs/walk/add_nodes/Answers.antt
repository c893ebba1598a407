use Rattle.std.specs.Prelude.{refl}
use Rattle.std.proofs.Common.{arith}
use Rattle.std.proofs.lemmas.Result.{err_from_is_err_and}
use Rattle.drawing.specs.Walk.{noding_start, noding_next, noding_stop, noding_end}
use Rattle.drawing.proofs.walk.add_nodes.Goals as goal

pub loop-n-init : goal.loop-n-init
loop-n-init c = noding_start _ _ _ _ _ _ _ _ c.requires.ready c.requires.stamped c.requires.fine refl

pub returns-in_err-q : goal.returns-in_err-q
returns-in_err-q c = let p = err_from_is_err_and c.from_residual.result c.from_residual.ensures.1 in rw (p.1, p.2) (noding_stop _ _ _ _ _ _ _ _ _ _ _ c.loop-n.invariant c.loop-n-test.true _ _ c.in_err-q.ensures.adds (λ z. omega arith))

pub loop-n-preserved : goal.loop-n-preserved
loop-n-preserved c = noding_next _ _ _ _ _ _ _ _ _ _ _ c.loop-n.invariant c.loop-n-test.true _ _ c.in_ok-q.ensures.adds _ c.in_ok-q.ensures.stamped_2 refl

pub returns : goal.returns
returns c = noding_end _ _ _ _ _ _ _ _ _ _ _ c.loop-n.invariant c.loop-n-test.false
