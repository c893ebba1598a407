use Rattle.std.proofs.Common.{◌≡◌, ℕ, ◌<◌, ◌≤◌, get_or}
use Rattle.panel_feed.proofs.line_end.Given as goal

-- no byte that was passed is the one that is looked for
abbrev pub invariant-loop-e : goal.invariant-loop-e
invariant-loop-e l = (k : ℕ) → l.at ≤ k → k < l.e → get_or l.text k 0 ≡ 10 → ⊥
