use Rattle.std.proofs.Common.{◌≡◌, refl, rules, arith}
use Rattle.panel_feed.specs.Cut.{cut_at, cut_stop, cut_next, cut_end}
use Rattle.panel_feed.proofs.cut.Goals as goal

pub returns-then-is_over : goal.returns-then-is_over
returns-then-is_over c = (
  cut_stop c.args.line.now c.args.columns c.loop-i.left c.loop-i.i c.loop-i.invariant _ _ c.loop-i-test.true c.if-is_over.true
      c.is_over.ensures
      refl,
  search rules,
)

pub loop-i-preserved : goal.loop-i-preserved
loop-i-preserved c =
    cut_next c.args.line.now c.args.columns c.loop-i.left c.loop-i.i c.loop-i.invariant _ _ _ c.loop-i-test.true c.if-is_over.false
    c.is_over.ensures
    refl
    c.left_after-left.ensures

pub returns : goal.returns
returns c =
    let e : c.loop-i.i ≡ cut_at c.args.columns c.args.line.now =
    cut_end c.args.line.now c.args.columns c.loop-i.left c.loop-i.i c.loop-i.invariant c.loop-i-test.false in
    (omega (arith, e), search rules)
