-- The laws of the edges put in upwards.
use Rattle.std.proofs.Common.{rules}
use Rattle.links.specs.Build.{fill_none, fill_next, target_key, target_small}
use Rattle.links.proofs.fill_in.Goals as goal

ruleset laws = (rules, fill_none, fill_next, target_key, target_small)

pub loop-i-init : goal.loop-i-init
loop-i-init c = search laws

pub link-requires : goal.link-requires
link-requires c = search laws

pub loop-i-preserved : goal.loop-i-preserved
loop-i-preserved c = search laws
