use Rattle.std.proofs.Common.{rules}
use Rattle.texts.specs.MarkBits.{marks_in}
use Rattle.explanation.specs.Stand.{lent_low}
use Rattle.explanation.specs.Turned.{shown_on, shown_full}
use Rattle.explanation.proofs.turns.show.Goals as goal

pub package_lines-requires-clause-count_bound : goal.package_lines-requires-clause-count_bound
unfolding marks_in
package_lines-requires-clause-count_bound c = search (rules, lent_low)

pub returns-in-Ok : goal.returns-in-Ok
unfolding marks_in
returns-in-Ok c = search (rules, shown_on, c.in-Ok.ensures)

pub returns-in-Err : goal.returns-in-Err
unfolding marks_in
returns-in-Err c = search (rules, shown_full, c.in-Err.ensures)
