-- The plain call (document 02, order 2).
use Rattle.std.specs.Prelude.{ℕ}

-- "A plain call now means option 1."
abbrev pub plain_option : ℕ
plain_option = 1
