-- The laws of a file.
use Rattle.std.proofs.Common.{rules}
use Rattle.index.specs.Load.{load_loaded, clauses_counted}
use Rattle.graph.specs.Files.{outcome_of}
use Rattle.graph.specs.Checked.{for_unread, for_drew}
use Rattle.graph.proofs.make.Goals as goal

ruleset laws = (rules, load_loaded, clauses_counted, for_unread, for_drew)

pub returns-in_err-c : goal.returns-in_err-c
unfolding outcome_of
returns-in_err-c c = search laws

pub returns : goal.returns
unfolding outcome_of
returns c = search laws
