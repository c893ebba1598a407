use Rattle.std.proofs.Common.{◌≡◌}
use Rattle.links.specs.Build.{out_lay, source_of, linked_up}
use Rattle.links.proofs.fill_out.Given as goal

abbrev pub invariant-loop-i : goal.invariant-loop-i
invariant-loop-i l = l.ls ≡ linked_up out_lay (source_of l.g) l.fn.ls l.i
