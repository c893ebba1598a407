use Rattle.std.proofs.Common.{rules}
use Rattle.calls.specs.Laws.WhatIfWays.{what_if_option, what_if_file}
use Rattle.calls.proofs.explain_what_if.Goals as goal

pub returns-then-option-gt1 : goal.returns-then-option-gt1
returns-then-option-gt1 c = search (rules, what_if_option)

pub returns : goal.returns
returns c = search (rules, what_if_file)
