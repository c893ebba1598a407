use Rattle.std.proofs.Common.{rules, ◌≡◌, ◌∙◌, arith, Err}
use Rattle.season.specs.Laws.Words.{files_start, files_next, files_wide, files_end}
use Rattle.season.proofs.Sums.{sum_err, sum_ok}
use Rattle.season.proofs.files_of.Goals as goal

pub loop-i-init : goal.loop-i-init
loop-i-init c = search (rules, files_start)

pub returns-in_err-s : goal.returns-in_err-s
returns-in_err-s c =
    let w : c.ok_or.result ≡ Err c.in_err-s.field-0.0 = c.in_err-s.was in
    let k = sum_err c.checked_add.result c.loop-i.s c.get.result _ _ c.checked_add.ensures c.ok_or.ensures.value w in
    let e : c.from_residual.result ≡ Err c.in_err-s.field-0.0 = search rules in
    e ∙ rw k.1 (files_wide c.args.ws.now c.loop-i.i c.loop-i.s c.get.result c.loop-i.invariant.1 c.requires c.loop-i-test.true c.get.ensures (omega (arith, k.0)) (omega arith))

pub loop-i-preserved : goal.loop-i-preserved
loop-i-preserved c =
    let k = sum_ok c.checked_add.result c.loop-i.s c.get.result _ c.in_ok-s.s c.checked_add.ensures c.ok_or.ensures.value c.in_ok-s.was in
    (omega (arith, k.0, k.1), k.1 ∙ files_next c.args.ws.now c.loop-i.i c.loop-i.s c.get.result c.loop-i.invariant.1 c.requires c.loop-i-test.true c.get.ensures)

pub returns : goal.returns
returns c = search (rules, files_end)
