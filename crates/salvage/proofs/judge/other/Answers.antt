use Rattle.std.proofs.Common.{rules, ◌≡◌, Ok, Err}
use Rattle.std.proofs.lemmas.Result.{err_from_is_err_and}
use Rattle.salvage.specs.Pass.{other_by}
use Rattle.salvage.proofs.judge.other.Goals as goal

pub returns-in_err-s : goal.returns-in_err-s
unfolding other_by
returns-in_err-s c =
    let p = err_from_is_err_and c.from_residual.result c.from_residual.ensures.1 in
    let e : c.args.s ≡ Err c.in_err-s.field-0.0 = c.in_err-s.was in
    rw (p.1, p.2, e)

pub returns : goal.returns
unfolding other_by
returns c = let e : c.args.s ≡ Ok c.in_ok-s.field-0 = c.in_ok-s.was in rw e
