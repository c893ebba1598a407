use Rattle.std.proofs.Common.{◌≡◌, ◌-◌}
use Rattle.links.specs.Build.{old_lay, source_of, linked_down}
use Rattle.links.proofs.fill_old.Given as goal

abbrev pub invariant-loop-i : goal.invariant-loop-i
invariant-loop-i l = l.ls ≡ linked_down old_lay (source_of l.g) l.fn.ls l.fn.s.edges (l.fn.s.edges - l.i)
