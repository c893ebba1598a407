use Rattle.std.proofs.Common.{◌≡◌, rules, Ok}
use Rattle.std.proofs.lemmas.Result.{err_from_is_err_and}
use Rattle.writing.specs.Laws.Eights.{judge_stop, judge_on}
use Rattle.writing.specs.Laws.Ways.{gives_as}
use Rattle.writing.proofs.judge.Goals as goal

pub returns-in_err-w : goal.returns-in_err-w
returns-in_err-w c =
    let p = err_from_is_err_and c.from_residual.result c.from_residual.ensures.1 in
    rw (p.1, p.2) (gives_as _ _ c.phases.result _ _
    (judge_stop _ _ _ c.phases.result _ _ c.phases.ensures c.in_err-w.field-0.0.number c.in_err-w.field-0.0.place c.in_err-w.was) c.in_err-w.was)

pub returns : goal.returns
returns c =
    let e : c.phases.result ≡ Ok c.in_ok-w.w = c.in_ok-w.was in search (rules, judge_on)
