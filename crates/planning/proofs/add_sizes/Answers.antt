use Rattle.std.proofs.Common.{rules}
use Rattle.planning.specs.Sizes.{adding_none, adding_fits, adding_step, adding_end}
use Rattle.planning.proofs.add_sizes.Goals as goal

pub loop-n-init : goal.loop-n-init
loop-n-init c = adding_none _ _ _

pub add_size-requires : goal.add_size-requires
add_size-requires c = (adding_fits _ _ _ _ _ c.loop-n.invariant c.requires c.loop-n-test.true _ c.get-t.ensures, search rules)

pub loop-n-preserved : goal.loop-n-preserved
loop-n-preserved c = adding_step _ _ _ _ _ c.loop-n.invariant c.requires c.loop-n-test.true _ _ _ _ c.get-t.ensures c.get.ensures c.from-v.ensures c.add_size.ensures

pub returns : goal.returns
returns c = adding_end _ _ _ _ _ c.loop-n.invariant c.loop-n-test.false
