-- The laws of a Requires, by its links.
use Rattle.std.proofs.lemmas.Result.{err_from_is_err_and}
use Rattle.graph.specs.Drawing.{requires_on, requires_full}
use Rattle.graph.proofs.requires_turn.Goals as goal

pub returns-in_err-t : goal.returns-in_err-t
returns-in_err-t c =
    let p = err_from_is_err_and c.from_residual.result c.from_residual.ensures.1 in
    rw p.1 (requires_full _ _ _ _ _ _ _ _ _ c.requires.holds c.expand_requires.ensures _ p.0 c.in_err-t.was p.2)

pub returns : goal.returns
returns c = requires_on _ _ _ _ _ _ _ _ _ c.requires.holds c.expand_requires.ensures c.in_ok-t.t c.in_ok-t.was
