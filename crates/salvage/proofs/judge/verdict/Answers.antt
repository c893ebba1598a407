use Rattle.std.proofs.Common.{rules}
use Rattle.salvage.specs.Laws.Pass.{verdict_other, verdict_full, verdict_clause}
use Rattle.salvage.proofs.judge.verdict.Goals as goal

pub returns-then-not-is_clause : goal.returns-then-not-is_clause
returns-then-not-is_clause c = search (rules, verdict_other)

pub returns-then-not-has_room : goal.returns-then-not-has_room
returns-then-not-has_room c = search (rules, verdict_full)

pub returns : goal.returns
returns c = search (rules, verdict_clause) depth 8
