use Rattle.std.proofs.Common.{rules, ◌≡◌}
use Rattle.std.specs.Prelude.{Some, None}
use Rattle.tgf.specs.Laws.Ways.{node_none, node_other, node_bare, node_here}
use Rattle.tgf.proofs.lines.node_at.Goals as goal

pub returns-in_err-p-clause-result_value : goal.returns-in_err-p-clause-result_value
returns-in_err-p-clause-result_value c =
    let s : c.number_at.result ≡ None = c.in_err-p.was in
    let e : c.from_residual.result ≡ None = search rules in
    rw e (node_none _ _ _ c.number_at.ensures.result_value _ s)

pub returns-then-p-i-clause-result_value : goal.returns-then-p-i-clause-result_value
returns-then-p-i-clause-result_value c =
    let s : c.number_at.result ≡ Some c.in_ok-p.p = c.in_ok-p.was in
    node_other _ _ _ c.number_at.ensures.result_value _ s _ c.if-p-i.true

pub returns-in_err-l-clause-result_value : goal.returns-in_err-l-clause-result_value
returns-in_err-l-clause-result_value c =
    let s : c.number_at.result ≡ Some c.in_ok-p.p = c.in_ok-p.was in
    let t : c.label_at.result ≡ None = c.in_err-l.was in
    let e : c.from_residual-in_err-l.result ≡ None = search rules in
    rw e (node_bare _ _ _ c.number_at.ensures.result_value _ s _ _ c.if-p-i.false c.label_at.ensures.result_value t)

pub returns-clause-result_value : goal.returns-clause-result_value
returns-clause-result_value c =
    let s : c.number_at.result ≡ Some c.in_ok-p.p = c.in_ok-p.was in
    let t : c.label_at.result ≡ Some c.in_ok-l.l = c.in_ok-l.was in
    node_here _ _ _ c.number_at.ensures.result_value _ s _ _ _ c.if-p-i.false c.label_at.ensures.result_value t
