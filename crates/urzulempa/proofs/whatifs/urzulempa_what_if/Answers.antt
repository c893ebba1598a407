use Rattle.calls.specs.Laws.WhatIfWays.{asked_fits, what_if_said}
use Rattle.urzulempa.proofs.whatifs.urzulempa_what_if.Goals as goal

pub fill-requires : goal.fill-requires
fill-requires c = asked_fits _ _ _ _ _ _ c.ask_words-c.ensures

pub returns : goal.returns
returns c = rw c.from.ensures (what_if_said _ _ _ _ _ _ _ c.ask_words-c.ensures c.fill.ensures)
