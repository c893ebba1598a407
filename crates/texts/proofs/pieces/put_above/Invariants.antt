use Rattle.std.proofs.Common.{◌≡◌, ◌≤◌, ◌-◌, length}
use Rattle.texts.specs.Pieces.{Near}
use Rattle.texts.specs.Shown.{shown_first, above_text}
use Rattle.texts.proofs.pieces.put_above.Given as goal

-- the levels before i are written, and the room is its own from 7 bytes behind them on
abbrev pub invariant-loop-i : goal.invariant-loop-i
invariant-loop-i l = (shown_first l.top ≤ l.i) × (l.i ≤ l.n) × (length l.out ≡ length l.fn.out) × Near (above_text l.top l.levels l.i) l.fn.out l.out l.at

abbrev pub decreases-loop-i : goal.decreases-loop-i
decreases-loop-i l = l.n - l.i
