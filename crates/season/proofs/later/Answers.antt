use Rattle.std.proofs.Common.{rules, ◌≡◌, ◌∙◌, arith, Err}
use Rattle.season.specs.Laws.Words.{later_wide, later_fits}
use Rattle.season.proofs.Sums.{sum_err, sum_ok}
use Rattle.season.proofs.later.Goals as goal

pub returns-in_err-first : goal.returns-in_err-first
returns-in_err-first c =
    let w : c.ok_or.result ≡ Err c.in_err-first.field-0.0 = c.in_err-first.was in
    let k = sum_err c.checked_add.result c.args.n c.args.d.first _ _ c.checked_add.ensures c.ok_or.ensures.value w in
    let e : c.from_residual.result ≡ Err c.in_err-first.field-0.0 = search rules in
    e ∙ rw k.1 (later_wide c.args.d.depth c.args.d.first c.args.n (omega (arith, k.0)) (omega arith) (omega arith))

pub returns : goal.returns
returns c =
    let k = sum_ok c.checked_add.result c.args.n c.args.d.first _ c.in_ok-first.first c.checked_add.ensures c.ok_or.ensures.value c.in_ok-first.was in
    rw k.1 (later_fits c.args.d.depth c.args.d.first c.args.n (omega (arith, k.0)) (omega arith) (omega arith))
