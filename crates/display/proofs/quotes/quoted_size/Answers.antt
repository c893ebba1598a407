use Rattle.std.specs.Prelude.{refl}
use Rattle.std.proofs.Common.{arith}
use Rattle.display.specs.Laws.Quoted.{sizing_start, sizing_next, sizing_end}
use Rattle.display.proofs.quotes.quoted_size.Goals as goal

pub loop-c-init : goal.loop-c-init
loop-c-init c = record { few = omega arith; is = sizing_start _ }

pub loop-c-preserved : goal.loop-c-preserved
loop-c-preserved c = record {
  few = omega (arith, c.width-n.ensures);
  is = sizing_next _ _ _ _ _ c.loop-c.invariant.is c.loop-c-test.true refl c.width-n.ensures.0;
}

pub returns : goal.returns
returns c = (sizing_end _ _ _ c.loop-c.invariant.is c.loop-c-test.false, omega (arith, c.loop-c.invariant.few))
