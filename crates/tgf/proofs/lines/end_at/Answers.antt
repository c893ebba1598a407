use Rattle.std.proofs.Common.{rules, ◌≡◌}
use Rattle.std.specs.Prelude.{Some, None}
use Rattle.tgf.specs.Laws.Ways.{end_none, end_past, end_here}
use Rattle.tgf.proofs.lines.end_at.Goals as goal

pub returns-in_err-p-clause-result_value : goal.returns-in_err-p-clause-result_value
returns-in_err-p-clause-result_value c =
    let s : c.number_at.result ≡ None = c.in_err-p.was in
    let e : c.from_residual.result ≡ None = search rules in
    rw e (end_none _ _ _ c.number_at.ensures.result_value _ s)

pub returns-then-m-p-clause-result_value : goal.returns-then-m-p-clause-result_value
returns-then-m-p-clause-result_value c =
    let s : c.number_at.result ≡ Some c.in_ok-p.p = c.in_ok-p.was in
    end_past _ _ _ c.number_at.ensures.result_value _ s _ c.if-m-p.true

pub returns-clause-result_value : goal.returns-clause-result_value
returns-clause-result_value c =
    let s : c.number_at.result ≡ Some c.in_ok-p.p = c.in_ok-p.was in
    end_here _ _ _ c.number_at.ensures.result_value _ s _ c.if-m-p.false
