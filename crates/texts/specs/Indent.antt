-- The text before a line, from `get_indent` of conflict.rs. One mark a level, the deepest first: true for
-- `ChildOrder::Last`, false for `ChildOrder::HasRemainingSiblings`.
use Rattle.std.specs.Prelude.{Bool, true, false, List, [], ◌∷◌, ◌++◌, ℕ, length, eqb}
use Rattle.basis.specs.Quote.{utf8}

-- the tree prefix and its space, where `is_at_deepest_level` (lines 824, 825 and 833)
unfoldable pub deepest : Bool → List ℕ
deepest true = utf8 "└─ "
deepest false = utf8 "├─ "

-- the same at the levels above (lines 826, 827 and 833)
unfoldable pub older : Bool → List ℕ
older true = utf8 "   "
older false = utf8 "│  "

-- "if level == 0 && !self.top_level_indent": a level with none above it shows nothing without the option
abbrev pub unless_top : Bool → List Bool → List ℕ → List ℕ
unless_top true ms t = t
unless_top false [] t = []
unless_top false (m ∷ ms) t = t

-- the levels above a line's own, and what comes behind them (`get_indent`, lines 815 to 834)
unfoldable pub above : Bool → List Bool → List ℕ → List ℕ
unfolding older
above top [] rest = rest
above top (m ∷ ms) rest = above top ms (unless_top top ms (older m) ++ rest)

-- `get_indent` (which panics where there is no level; here that is the empty text)
unfoldable pub indent : Bool → List Bool → List ℕ
unfolding above deepest
indent top [] = []
indent top (m ∷ ms) = above top ms (unless_top top ms (deepest m))

-- `is_at_top_level`
abbrev pub at_top : List Bool → Bool
at_top ms = eqb (length ms) 1

-- The most levels that are held. Depth 2,079 has 4,159 levels written and 4,160 pushed.
abbrev pub most : ℕ
most = 4160
