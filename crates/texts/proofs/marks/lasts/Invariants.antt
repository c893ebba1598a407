use Rattle.std.proofs.Common.{◌≡◌, ◌≤◌, ◌*◌}
use Rattle.texts.specs.MarkBits.{marks_at}
use Rattle.texts.specs.Length.{last_count}
use Rattle.texts.proofs.marks.lasts.Given as goal

-- the last marks of the whole words before k are counted
abbrev pub invariant-loop-k : goal.invariant-loop-k
invariant-loop-k l = (l.s ≤ 64 * l.k) × (l.s ≡ last_count (marks_at l.levels (64 * l.k)))
