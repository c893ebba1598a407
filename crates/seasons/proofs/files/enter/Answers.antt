use Rattle.std.proofs.Common.{◌≡◌, rules, refl, ap, Err}
use Rattle.season.specs.Steps.{number_said}
use Rattle.seasons.specs.Laws.SeasonWays.{enters_done}
use Rattle.seasons.proofs.Ranges.{entered_not}
use Rattle.seasons.proofs.files.enter.Goals as goal

pub returns-in-Ok : goal.returns-in-Ok
returns-in-Ok c =
    enters_done _ _ c.args.a c.args.c _ _ _ c.own.ensures c.add.ensures.value c.add.ensures.report_after (ap number_said c.in-Ok.is) refl

pub returns-in-Err : goal.returns-in-Err
returns-in-Err c =
    let t : c.add.result ≡ Err c.in-Err.e = c.in-Err.is in
    entered_not _ _ _ _ _ _ _ _ c.own.ensures c.add.ensures.value c.add.ensures.report_after t (cc)
