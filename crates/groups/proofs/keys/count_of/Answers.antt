use Rattle.std.proofs.Common.{rules, refl}
use Rattle.groups.specs.Keys.{way_start, way_next, way_less, counter_kept, tally_next, tally_end}
use Rattle.groups.proofs.Bits.{bool_bump, bool_small}
use Rattle.groups.proofs.keys.count_of.Goals as goal

pub loop-e-init : goal.loop-e-init
loop-e-init c = (search way_start, (search rules, refl))

pub loop-e-smaller : goal.loop-e-smaller
loop-e-smaller c = search way_less

pub loop-e-preserved : goal.loop-e-preserved
loop-e-preserved c =
    let small = bool_small _ _ c.from-c.ensures in
    let one = bool_bump _ _ c.from-c.ensures in
    (search way_next, (search counter_kept, search tally_next))

pub returns : goal.returns
returns c = search tally_end
