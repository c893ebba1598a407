-- Two indents of P7.
use Rattle.std.specs.Prelude.{◌≡◌, refl, true, false, [], ◌∷◌}
use Rattle.basis.specs.Quote.{utf8}
use Rattle.texts.specs.Indent.{indent}

-- P7's third line, and its second with the option
third : indent false (true ∷ true ∷ true ∷ []) ≡ utf8 "   └─ "
unfolding indent
third = refl

second : indent true (true ∷ false ∷ []) ≡ utf8 "│  └─ "
unfolding indent
second = refl
