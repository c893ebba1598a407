-- A text inside quotes in the DOT language (order 5).
use Rattle.std.specs.Prelude.{cond, List, [], ◌∷◌, ℕ, eqb}
use Rattle.basis.specs.Lists.{concat_map}

-- "each double quote .. is preceded by a backslash. A backslash itself is written as it stands."
unfoldable pub escaped : ℕ → List ℕ
escaped c = cond (eqb c 34) (92 ∷ 34 ∷ []) (c ∷ [])

-- a text, each byte `escaped`
unfoldable pub quoted : List ℕ → List ℕ
unfolding escaped
quoted cs = concat_map escaped cs
