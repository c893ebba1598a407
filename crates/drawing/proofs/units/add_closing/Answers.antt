use Rattle.std.specs.Prelude.{refl}
use Rattle.std.proofs.lemmas.Result.{err_from_is_err_and}
use Rattle.drawing.specs.Walk.{close_full, close_adds}
use Rattle.drawing.proofs.units.add_closing.Goals as goal

pub returns-in_err-fits : goal.returns-in_err-fits
returns-in_err-fits c = let p = err_from_is_err_and c.from_residual.result c.from_residual.ensures.1 in rw (p.1, p.2, c.in_err-fits.ensures.0) (close_full _ _ c.requires.fine refl c.in_err-fits.ensures.1)

pub returns : goal.returns
returns c = close_adds _ _ c.requires.fine refl _ _ c.put-k.ensures.wrote
