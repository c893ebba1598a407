use Rattle.std.specs.Prelude.{◌≡◌, ◌≤◌, ◌*◌, length}
use Rattle.display.specs.Laws.Quoted.{quoted_to}
use Rattle.display.proofs.quotes.quoted_size.Given as goal

abbrev pub invariant-loop-c : goal.invariant-loop-c
invariant-loop-c l = record { few : l.n ≤ 2 * l.c-index; is : l.n ≡ length (quoted_to l.text l.c-index) }
