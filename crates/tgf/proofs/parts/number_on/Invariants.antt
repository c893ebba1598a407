use Rattle.std.proofs.Common.{◌+◌, ◌-◌, ◌*◌, ◌^◌, ◌<◌, ◌≤◌, length}
use Rattle.tgf.proofs.Bytes.{NumberLeft}
use Rattle.tgf.proofs.parts.number_on.Given as goal

-- i digits were read, and what is left of the number says what the whole says
abbrev pub invariant-loop-i : goal.invariant-loop-i
invariant-loop-i l = (l.at + l.i ≤ length l.text) × (l.v * 10 ^ (l.k - l.i) < 1000) × NumberLeft l.text l.at l.k l.n l.i l.v
