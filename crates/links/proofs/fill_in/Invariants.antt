use Rattle.std.proofs.Common.{◌≡◌}
use Rattle.links.specs.Build.{in_lay, target_of, linked_up}
use Rattle.links.proofs.fill_in.Given as goal

abbrev pub invariant-loop-i : goal.invariant-loop-i
invariant-loop-i l = l.ls ≡ linked_up in_lay (target_of l.g) l.fn.ls l.i
