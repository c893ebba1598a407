use Rattle.std.proofs.Common.{◌≡◌, ◌+◌, drop}
use Rattle.panel_feed.specs.Cut.{cut_at}
use Rattle.panel_feed.proofs.cut.Given as goal

abbrev pub invariant-loop-i : goal.invariant-loop-i
invariant-loop-i l = l.i + cut_at l.left (drop l.i l.line) ≡ cut_at l.columns l.line
