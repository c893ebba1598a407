use Rattle.std.specs.Prelude.{◌≡◌, ◌+◌, ◌-◌}
use Rattle.std.proofs.Common.{arith}
use Rattle.planning.specs.Grouping.{group_lead, group_last, group_step}
use Rattle.planning.proofs.mates.group_all.Goals as goal

pub group_word-w-requires : goal.group_word-w-requires
group_word-w-requires c = (group_lead _ _ _ _ _ _ c.loop-i.invariant c.loop-i-test.true _ _ c.get.ensures c.from-l.ensures, group_last _ _ _ _ _ _ c.loop-i.invariant c.loop-i-test.true _ _ c.get.ensures c.from-l.ensures _ _ c.get-in-loop-i.ensures c.from-x.ensures)

pub loop-i-preserved : goal.loop-i-preserved
loop-i-preserved c =
    let q : c.loop-i.i - 1 + 1 ≡ c.loop-i.i = omega arith in
    rw q (group_step _ _ _ _ _ _ c.loop-i.invariant c.loop-i-test.true _ _ c.get.ensures c.from-l.ensures _ _ _ c.get-in-loop-i.ensures c.from-x.ensures c.group_word-w.ensures.0)
