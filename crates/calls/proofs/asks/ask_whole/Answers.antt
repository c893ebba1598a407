use Rattle.std.proofs.Common.{rules}
use Rattle.whatif.specs.Laws.Callers.{asks_chains, asks_marks}
use Rattle.calls.specs.Laws.WhatIfWays.{what_if_denied, what_if_graphed, what_if_gives}
use Rattle.calls.proofs.asks.ask_whole.Goals as goal

pub show_asked-requires-clause-chains : goal.show_asked-requires-clause-chains
show_asked-requires-clause-chains c = search (rules, asks_chains)

pub show_asked-requires-clause-marks_value : goal.show_asked-requires-clause-marks_value
show_asked-requires-clause-marks_value c = search (rules, asks_marks)

pub show_asked-requires-clause-graphed : goal.show_asked-requires-clause-graphed
show_asked-requires-clause-graphed c = search (rules, what_if_graphed)

pub show_asked-requires-clause-reason_value : goal.show_asked-requires-clause-reason_value
show_asked-requires-clause-reason_value c = search (rules, what_if_gives)

pub returns-in-Err : goal.returns-in-Err
returns-in-Err c = search (rules, what_if_denied)
