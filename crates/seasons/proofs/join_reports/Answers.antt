use Rattle.std.proofs.Common.{sym, ap, ◌∙◌}
use Rattle.season.specs.Steps.{number_said}
use Rattle.seasons.specs.Laws.SeasonWays.{join_via}
use Rattle.seasons.proofs.join_reports.Goals as goal

pub returns-in-Ok-clause-value : goal.returns-in-Ok-clause-value
returns-in-Ok-clause-value c =
    join_via _ _ 0 _ (sym (ap number_said c.in-Ok.is) ∙ c.join.ensures.value) c.refusal.ensures

pub returns-in-Err-clause-value : goal.returns-in-Err-clause-value
returns-in-Err-clause-value c =
    join_via _ _ _ _ (c.number.ensures ∙ sym (ap number_said c.in-Err.is) ∙ c.join.ensures.value) c.refusal-in-Err.ensures
