use Rattle.std.proofs.Common.{rules, ◌≡◌}
use Rattle.std.specs.Prelude.{Some, None}
use Rattle.tgf.specs.Laws.Ways.{edge_none, edge_half, edge_bare, edge_here}
use Rattle.tgf.proofs.lines.edge_at.Goals as goal

pub returns-in_err-p-clause-result_value : goal.returns-in_err-p-clause-result_value
returns-in_err-p-clause-result_value c =
    let s : c.end_at.result ≡ None = c.in_err-p.was in
    let e : c.from_residual.result ≡ None = search rules in
    rw e (edge_none _ _ _ _ c.end_at.ensures.result_value s)

pub returns-in_err-q-clause-result_value : goal.returns-in_err-q-clause-result_value
returns-in_err-q-clause-result_value c =
    let s : c.end_at.result ≡ Some c.in_ok-p.p = c.in_ok-p.was in
    let u : c.end_at-2.result ≡ None = c.in_err-q.was in
    let e : c.from_residual-in_err-q.result ≡ None = search rules in
    rw e (edge_half _ _ _ _ c.end_at.ensures.result_value _ s _ c.end_at-2.ensures.result_value u)

pub returns-in_err-l-clause-result_value : goal.returns-in_err-l-clause-result_value
returns-in_err-l-clause-result_value c =
    let s : c.end_at.result ≡ Some c.in_ok-p.p = c.in_ok-p.was in
    let u : c.end_at-2.result ≡ Some c.in_ok-q.q = c.in_ok-q.was in
    let v : c.label_at.result ≡ None = c.in_err-l.was in
    let e : c.from_residual-in_err-l.result ≡ None = search rules in
    rw e (edge_bare _ _ _ _ c.end_at.ensures.result_value _ s _ c.end_at-2.ensures.result_value _ u _ c.label_at.ensures.result_value v)

pub returns-clause-result_value : goal.returns-clause-result_value
returns-clause-result_value c =
    let s : c.end_at.result ≡ Some c.in_ok-p.p = c.in_ok-p.was in
    let u : c.end_at-2.result ≡ Some c.in_ok-q.q = c.in_ok-q.was in
    let v : c.label_at.result ≡ Some c.in_ok-l.l = c.in_ok-l.was in
    edge_here _ _ _ _ c.end_at.ensures.result_value _ s _ c.end_at-2.ensures.result_value _ u _ c.label_at.ensures.result_value _ v
