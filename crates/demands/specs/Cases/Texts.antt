-- The explanations of the cases that have one, as they print.
use Rattle.std.specs.Prelude.{List, [], ◌∷◌, ◌++◌, ℕ}
use Prim.Native.String.{String}
use Rattle.basis.specs.Lists.{concat_map}
use Rattle.basis.specs.Quote.{utf8}

-- lines as bytes, each with its newline
abbrev pub printed : List String → List ℕ
printed ls = concat_map (λ l. utf8 l ++ utf8 "\n") ls

-- P7: "Option 0, 155 bytes"
abbrev pub replay_lines : List String
replay_lines =
    "replay * cannot be installed because there are no viable options:"
    ∷ "└─ replay 2 | 1 would require"
    ∷ "   └─ codec 9, for which no candidates were found."
    ∷ []

-- the same with option 1, which "indents the top level"
abbrev pub indented_lines : List String
indented_lines =
    "└─ replay * cannot be installed because there are no viable options:"
    ∷ "   └─ replay 2 | 1 would require"
    ∷ "      └─ codec 9, for which no candidates were found."
    ∷ []

-- P9: what stands when 11 is given
abbrev pub deck_lines : List String
deck_lines =
    "deck * cannot be installed because there are no viable options:"
    ∷ "└─ deck 1 would require"
    ∷ "   └─ panel *, which cannot be installed because there are no viable options:"
    ∷ "      └─ panel 1 would require"
    ∷ "         └─ deck *, which cannot be installed because there are no viable options:"
    ∷ []

-- P10
abbrev pub pair_lines : List String
pair_lines =
    "x * cannot be installed because there are no viable options:"
    ∷ "└─ x 1 would require"
    ∷ "   └─ pair *, which cannot be installed because there are no viable options:"
    ∷ "      └─ pair 1 | 2 would require"
    ∷ "         └─ x *, which cannot be installed because there are no viable options:"
    ∷ "            └─ x 1 would require"
    ∷ "               └─ pair *, which cannot be installed because there are no viable options:"
    ∷ []

-- P11
abbrev pub lone_lines : List String
lone_lines = "x * can be installed with any of the following options:" ∷ "└─ x 1" ∷ []

-- P4: 126 candidates, all of one group, which order 6 shortens; the last took number 1 when unresolved went
abbrev pub wide_lines : List String
wide_lines = "x * can be installed with any of the following options:" ∷ "└─ x 125 | 0 | 1 | ... | 124" ∷ []

-- order 6: the same with 6, 7 and 8 candidates
abbrev pub six_lines : List String
six_lines = "x * can be installed with any of the following options:" ∷ "└─ x 5 | 0 | 1 | 2 | 3 | 4" ∷ []

abbrev pub seven_lines : List String
seven_lines = "x * can be installed with any of the following options:" ∷ "└─ x 6 | 0 | 1 | ... | 5" ∷ []

abbrev pub eight_lines : List String
eight_lines = "x * can be installed with any of the following options:" ∷ "└─ x 7 | 0 | 1 | ... | 6" ∷ []

-- order 5: quotes as they stand
abbrev pub monitor_lines : List String
monitor_lines = "any \"panel\" can be installed with any of the following options:" ∷ "└─ panel 4\" monitor" ∷ []

-- two runs below one package
abbrev pub desk_lines : List String
desk_lines =
    "desk * cannot be installed because there are no viable options:"
    ∷ "└─ desk 1 would require"
    ∷ "   ├─ codec 9, which cannot be installed because there are no viable options:"
    ∷ "   │  └─ codec 9 would require"
    ∷ "   │     └─ driver 12, for which no candidates were found."
    ∷ "   └─ panel 5, which cannot be installed because there are no viable options:"
    ∷ "      └─ panel 5 would require"
    ∷ "         └─ frame 3, for which no candidates were found."
    ∷ []

-- one package below two others
abbrev pub shared_lines : List String
shared_lines =
    "a * can be installed with any of the following options:"
    ∷ "└─ a 1 would require"
    ∷ "   └─ d *, which can be installed with any of the following options:"
    ∷ "      └─ d 1"
    ∷ "b * can be installed with any of the following options:"
    ∷ "└─ b 1 would require"
    ∷ "   └─ d *, which can be installed with any of the following options:"
    ∷ "      └─ d 1"
    ∷ []
