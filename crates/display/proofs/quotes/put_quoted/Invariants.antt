use Rattle.std.specs.Prelude.{◌≤◌, length}
use Rattle.texts.specs.Wrote.{Wrote}
use Rattle.display.specs.Laws.Quoted.{quoted_to}
use Rattle.display.proofs.quotes.put_quoted.Given as goal

abbrev pub invariant-loop-c : goal.invariant-loop-c
invariant-loop-c l = record { fits : l.at ≤ length l.out; wrote : Wrote (quoted_to l.text l.c-index) l.initial.out l.out l.at }
