use Rattle.planning.specs.Kids.{shown_none, shown_hit, shown_on}
use Rattle.planning.proofs.along.shown.Goals as goal

pub loop-i-preserved : goal.loop-i-preserved
loop-i-preserved c = search shown_on

pub returns : goal.returns
returns c = search shown_none

pub returns-then-lead_at-l : goal.returns-then-lead_at-l
returns-then-lead_at-l c = shown_hit _ _ _ _ _ _ c.loop-i.invariant c.loop-i-test.true _ _ c.kid_at.ensures.0 c.lead_at.ensures.0 c.if-lead_at-l.true
