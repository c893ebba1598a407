use Rattle.std.proofs.Common.{arith}
use Rattle.std.proofs.lemmas.Result.{err_from_is_err_and}
use Rattle.drawing.specs.Walk.{rest_stop, rest_closed}
use Rattle.drawing.proofs.draw_rest.Goals as goal

pub returns-in_err-q : goal.returns-in_err-q
returns-in_err-q c = let p = err_from_is_err_and c.from_residual.result c.from_residual.ensures.1 in rw (p.1, p.2) (rest_stop _ _ _ _ _ c.in_err-q.ensures c.requires.fine (λ z. omega arith))

pub returns : goal.returns
returns c = rest_closed _ _ _ _ _ c.in_ok-q.ensures c.requires.fine _ _ c.add_closing.ensures
