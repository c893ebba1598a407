use Rattle.std.proofs.Common.{rules}
use Rattle.texts.specs.MarkBits.{marks_in}
use Rattle.lines.specs.SetLaws.{package_full, package_one, package_sets, package_short}
use Rattle.lines.proofs.sets.package_lines.Goals as goal

pub returns-in_default-clause-lined : goal.returns-in_default-clause-lined
returns-in_default-clause-lined c = search (rules, package_full)

pub returns-then-line_kind-ne3-clause-lined : goal.returns-then-line_kind-ne3-clause-lined
returns-then-line_kind-ne3-clause-lined c = search (rules, package_one, c.in-Some.ensures)

pub returns-in-Ok-clause-lined : goal.returns-in-Ok-clause-lined
unfolding marks_in
returns-in-Ok-clause-lined c = search (rules, package_sets, c.in-Some.ensures, c.in-Ok.ensures)

pub returns-in-Err-clause-lined : goal.returns-in-Err-clause-lined
unfolding marks_in
returns-in-Err-clause-lined c = search (rules, package_short, c.in-Some.ensures, c.in-Err.ensures)
