use Rattle.std.proofs.Common.{◌≤◌, length}
use Rattle.tgf.specs.Read.{read_text}
use Rattle.tgf.specs.Steps.{seen_of}
use Rattle.tgf.specs.Laws.Counting.{NodesLeft}
use Rattle.tgf.proofs.count.count.Given as goal

-- i nodes were read, and what is left says what the whole says
abbrev pub invariant-loop-i : goal.invariant-loop-i
invariant-loop-i l = (l.at ≤ length l.text) × NodesLeft l.text l.at l.i (seen_of 0 0 (read_text l.text))
