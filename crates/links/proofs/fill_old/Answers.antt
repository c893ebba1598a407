-- The laws of the edges put in downwards.
use Rattle.std.proofs.Common.{rules}
use Rattle.links.specs.Build.{fall_none, fall_next, source_key, source_below_last}
use Rattle.links.proofs.fill_old.Goals as goal

ruleset laws = (rules, fall_none, fall_next, source_key, source_below_last)

pub loop-i-init : goal.loop-i-init
loop-i-init c = search laws

pub link-requires : goal.link-requires
link-requires c = search laws

pub loop-i-preserved : goal.loop-i-preserved
loop-i-preserved c = search laws
