use Rattle.std.proofs.Common.{rules, ◌≡◌, ◌∙◌, Err}
use Rattle.season.specs.Laws.Joins.{plan_counts, plan_first, plan_second, plan_sum, plan_deep}
use Rattle.season.proofs.joinable.Goals as goal

pub returns-then-not-counts_fit : goal.returns-then-not-counts_fit
returns-then-not-counts_fit c = search (rules, plan_counts)

pub returns-in_err-n : goal.returns-in_err-n
returns-in_err-n c =
    let w : c.files_of.result ≡ Err c.in_err-n.field-0.0 = c.in_err-n.was in
    let e : c.from_residual.result ≡ Err c.in_err-n.field-0.0 = search rules in
    e ∙ plan_first _ _ c.requires.report_len c.requires.second_len _ c.files_of.ensures _ w

pub returns-in_err-m : goal.returns-in_err-m
returns-in_err-m c =
    let w : c.files_of-2.result ≡ Err c.in_err-m.field-0.0 = c.in_err-m.was in
    let e : c.from_residual-in_err-m.result ≡ Err c.in_err-m.field-0.0 = search rules in
    e ∙ plan_second _ _ c.requires.report_len c.requires.second_len _ c.files_of.ensures _ _ c.files_of-2.ensures w

pub returns-then-n-m : goal.returns-then-n-m
returns-then-n-m c = plan_sum _ _ c.requires.report_len c.requires.second_len _ c.files_of.ensures _ c.files_of-2.ensures _ _ c.in_ok-n.was c.in_ok-m.was c.if-n-m.true

pub returns : goal.returns
returns c =
    plan_deep _ _ c.requires.report_len c.requires.second_len _ c.files_of.ensures _ c.files_of-2.ensures _ _ c.in_ok-n.was c.in_ok-m.was _ _
    c.counts_fit.ensures (search rules) c.if-n-m.false c.deepest.ensures
