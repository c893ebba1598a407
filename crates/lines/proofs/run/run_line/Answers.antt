use Rattle.std.proofs.Common.{rules}
use Rattle.lines.specs.RunLaws.{run_full, run_room, run_wrote}
use Rattle.lines.proofs.run.run_line.Goals as goal

pub returns-then-not-fits : goal.returns-then-not-fits
returns-then-not-fits c = search (rules, run_full)

pub put_run-requires-clause-text_in_bounds : goal.put_run-requires-clause-text_in_bounds
put_run-requires-clause-text_in_bounds c = search (rules, run_room)

pub returns : goal.returns
returns c = search (rules, run_wrote)
