use Rattle.std.specs.Prelude.{refl}
use Rattle.std.proofs.lemmas.Result.{err_from_is_err_and}
use Rattle.drawing.specs.Walk.{stroke_full, stroke_adds}
use Rattle.drawing.proofs.units.add_stroke.Goals as goal

pub returns-in_err-fits : goal.returns-in_err-fits
returns-in_err-fits c = let p = err_from_is_err_and c.from_residual.result c.from_residual.ensures.1 in rw (p.1, p.2, c.in_err-fits.ensures.0) (stroke_full _ _ _ _ _ _ _ c.requires.fine refl _ c.stroke_size-n.ensures.0 c.in_err-fits.ensures.1)

pub returns : goal.returns
returns c = stroke_adds _ _ _ _ _ _ _ c.requires.fine refl _ _ c.put_stroke-k.ensures
