use Rattle.std.proofs.Common.{rules}
use Rattle.std.proofs.lemmas.Result.{err_from_is_err_and}
use Rattle.wall.specs.Laws.Writing.{hash_full, hash_adds}
use Rattle.wall.proofs.export_lines.add_hash.Goals as goal

pub returns-in_err-fits : goal.returns-in_err-fits
returns-in_err-fits c = let p = err_from_is_err_and c.from_residual.result c.from_residual.ensures.1 in rw (p.1, p.2, c.in_err-fits.ensures.0) (search (rules, hash_full, c.in_err-fits.ensures.1))

pub returns : goal.returns
returns c = search (rules, hash_adds)
