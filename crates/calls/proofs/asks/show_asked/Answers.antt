use Rattle.std.proofs.Common.{rules}
use Rattle.calls.specs.Laws.WhatIfWays.{what_if_shown}
use Rattle.calls.proofs.asks.show_asked.Goals as goal

pub returns : goal.returns
returns c = search (rules, what_if_shown)
