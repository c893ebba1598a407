use Rattle.std.proofs.Common.{◌≤◌}
use Rattle.tgf.specs.Laws.Ways.{LabelLeft}
use Rattle.tgf.proofs.parts.label_in.Given as goal

-- what is left of the label from byte n on says what the whole says
abbrev pub invariant-loop-n : goal.invariant-loop-n
invariant-loop-n l = (l.n ≤ 49) × LabelLeft l.text l.at l.n
