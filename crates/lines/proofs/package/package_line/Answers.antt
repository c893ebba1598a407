use Rattle.std.proofs.Common.{rules}
use Rattle.lines.specs.PackageLaws.{line_full, line_room, line_wrote}
use Rattle.lines.proofs.package.package_line.Goals as goal

pub returns-then-not-tail_fits : goal.returns-then-not-tail_fits
returns-then-not-tail_fits c = search (rules, line_full)

pub put_line-requires-clause-why_in_bounds : goal.put_line-requires-clause-why_in_bounds
put_line-requires-clause-why_in_bounds c = search (rules, line_room)

pub returns : goal.returns
returns c = search (rules, line_wrote)
