use Rattle.std.specs.Prelude.{refl}
use Rattle.std.proofs.Common.{rules, arith}
use Rattle.display.specs.Laws.Quoted.{quoting_start, quoting_room, quoting_next, quoting_end, quoting_count}
use Rattle.display.proofs.quotes.put_quoted.Goals as goal

pub loop-c-init : goal.loop-c-init
loop-c-init c = record { fits = omega arith; wrote = quoting_start _ _ }

pub put_escaped-at-requires : goal.put_escaped-at-requires
put_escaped-at-requires c = quoting_room _ _ _ _ _ c.loop-c.invariant.wrote _ c.loop-c-test.true refl c.requires

pub loop-c-preserved : goal.loop-c-preserved
loop-c-preserved c = record {
  fits = search rules;
  wrote = quoting_next _ _ _ _ _ c.loop-c.invariant.wrote _ c.loop-c-test.true refl _ _ c.put_escaped-at.ensures.wrote;
}

pub returns-clause-value : goal.returns-clause-value
returns-clause-value c = quoting_count _ _ _ _ _ c.loop-c.invariant.wrote c.loop-c-test.false

pub returns-clause-wrote : goal.returns-clause-wrote
returns-clause-wrote c = quoting_end _ _ _ _ _ c.loop-c.invariant.wrote c.loop-c-test.false
