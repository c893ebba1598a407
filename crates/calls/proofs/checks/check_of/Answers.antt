use Rattle.std.proofs.Common.{rules}
use Rattle.index.specs.Index.{blank_fresh}
use Rattle.calls.specs.Laws.Answers.{check_refused, check_whole}
use Rattle.calls.proofs.checks.check_of.Goals as goal

pub check_file-requires-clause-blank : goal.check_file-requires-clause-blank
check_file-requires-clause-blank c = search (rules, blank_fresh)

pub returns-in-Err : goal.returns-in-Err
returns-in-Err c = search (rules, check_refused)

pub returns-in-Ok : goal.returns-in-Ok
returns-in-Ok c = search (rules, check_whole)
