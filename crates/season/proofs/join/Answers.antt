use Rattle.std.proofs.Common.{rules, ◌≡◌, ◌∙◌, ap, Err}
use Rattle.season.specs.Steps.{number_said}
use Rattle.season.specs.Laws.Joins.{by_one, by_two, by_wide, by_done, plan_number, plan_fits, words_done}
use Rattle.season.proofs.join.Goals as goal

pub returns-then-report-ne27-clause-value : goal.returns-then-report-ne27-clause-value
returns-then-report-ne27-clause-value c = search (rules, by_one)

pub returns-then-report-ne27-clause-report_after : goal.returns-then-report-ne27-clause-report_after
returns-then-report-ne27-clause-report_after c = search (rules, by_one)

pub returns-then-second-ne27-clause-value : goal.returns-then-second-ne27-clause-value
returns-then-second-ne27-clause-value c = search (rules, by_two)

pub returns-then-second-ne27-clause-report_after : goal.returns-then-second-ne27-clause-report_after
returns-then-second-ne27-clause-report_after c = search (rules, by_two)

pub returns-in_err-d-clause-value : goal.returns-in_err-d-clause-value
returns-in_err-d-clause-value c =
    let w : c.joinable.result ≡ Err c.in_err-d.field-0.0 = c.in_err-d.was in
    let e : c.from_residual.result ≡ Err c.in_err-d.field-0.0 = search rules in
    by_wide _ _ _ _ _ _ _ c.joinable.ensures (search rules) (search rules) _ w (ap number_said e ∙ plan_number _ _ _ _ c.joinable.ensures w)

pub returns-in_err-d-clause-report_after : goal.returns-in_err-d-clause-report_after
returns-in_err-d-clause-report_after c =
    let w : c.joinable.result ≡ Err c.in_err-d.field-0.0 = c.in_err-d.was in
    search (rules, by_wide)

pub add_counts-requires-clause-second_value : goal.add_counts-requires-clause-second_value
add_counts-requires-clause-second_value c =
    plan_fits _ _ _ _ c.joinable.ensures c.in_ok-d.was (search rules) (search rules)

pub returns-clause-value : goal.returns-clause-value
returns-clause-value c = let w = c.in_ok-d.was in search (rules, by_done)

pub returns-clause-report_after : goal.returns-clause-report_after
returns-clause-report_after c =
    words_done _ _ _ _ _ _ c.joinable.ensures c.in_ok-d.was (search rules) (search rules) c.add_counts.ensures c.put_three.ensures
