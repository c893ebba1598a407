-- The record files of document 01's cases, byte for byte, by functions that are read as the records they write.
use Rattle.std.specs.Prelude.{cond, List, [], ◌∷◌, ◌++◌, ℕ, ◌+◌, ◌/◌, ◌%◌, length, replicate, ltb}
use Prim.Native.String.{String}
use Rattle.basis.specs.Lists.{concat_map, upto}
use Rattle.basis.specs.Quote.{utf8}
use Rattle.records.specs.Cases.{bytes}

-- ---- records: "a own number" comes first, then what the record names, then its text

-- byte 1 is the text's length
abbrev worded : ℕ → ℕ → ℕ → List ℕ → List ℕ
worded kind own names text = bytes kind (length text) own names 0 text

abbrev name : ℕ → String → List ℕ
name own text = worded 1 own 0 (utf8 text)

-- of a name, with a version
abbrev solvable : ℕ → ℕ → String → List ℕ
solvable own named version = worded 2 own named (utf8 version)

abbrev requirement : ℕ → String → List ℕ
requirement own text = worded 4 own 0 (utf8 text)

-- a requirement and a solvable
abbrev candidate : ℕ → ℕ → List ℕ
candidate requirement solvable = bytes 5 0 requirement solvable 0 []

abbrev root_variable : ℕ → List ℕ
root_variable own = bytes 7 0 own 0 0 []

abbrev variable_of : ℕ → ℕ → List ℕ
variable_of own solvable = bytes 7 0 own 1 solvable []

abbrev forbid_variable : ℕ → ℕ → List ℕ
forbid_variable own name = bytes 7 0 own 2 name []

-- ---- clauses, in the core unless a flag says otherwise

abbrev install_root : List ℕ
install_root = bytes 16 1 0 0 0 []

abbrev learnt : ℕ → List ℕ
learnt core = bytes 18 core 0 0 0 []

-- a variable and a requirement
abbrev requires : ℕ → ℕ → List ℕ
requires variable requirement = bytes 19 1 variable requirement 0 []

-- a solvable's variable and a name's
abbrev forbids : ℕ → ℕ → List ℕ
forbids variable forbidden = bytes 21 1 variable forbidden 0 []

-- the locked solvable's variable and the forbidden one's
abbrev locks : ℕ → ℕ → ℕ → List ℕ
locks core locked forbidden = bytes 20 core locked forbidden 0 []

-- ---- files

-- "33 bytes"
abbrev pub bad_length : List ℕ
bad_length = replicate 33 0

-- P7: "solvables replay 2, replay 1; the root requires "replay *" (both, in that order); each requires "codec 9" (no candidate)"
abbrev pub replay : List ℕ
replay =
    name 0 "replay" ++ solvable 0 0 "2" ++ solvable 1 0 "1" ++ requirement 0 "replay *" ++ requirement 1 "codec 9" ++ candidate 0 0 ++ candidate 0 1
    ++ root_variable 0 ++ variable_of 1 0 ++ variable_of 2 1 ++ requires 0 0 ++ requires 1 1 ++ requires 2 1

-- P9: "root needs deck, deck needs panel, panel needs deck, one solvable each"
abbrev pub deck_panel : List ℕ
deck_panel =
    name 0 "deck" ++ name 1 "panel" ++ solvable 0 0 "1" ++ solvable 1 1 "1" ++ requirement 0 "deck *" ++ requirement 1 "panel *" ++ candidate 0 0
    ++ candidate 1 1
    ++ root_variable 0 ++ variable_of 1 0 ++ variable_of 2 1 ++ requires 0 0 ++ requires 1 1 ++ requires 2 0

-- the same with panel's records first, so that deck is solvable 1
abbrev pub panel_deck : List ℕ
panel_deck =
    name 0 "panel" ++ name 1 "deck" ++ solvable 0 0 "1" ++ solvable 1 1 "1" ++ requirement 0 "deck *" ++ requirement 1 "panel *" ++ candidate 0 1
    ++ candidate 1 0
    ++ root_variable 0 ++ variable_of 1 1 ++ variable_of 2 0 ++ requires 0 0 ++ requires 1 1 ++ requires 2 0

-- P10: "root needs x, x needs a merged pair, each of the pair needs x"
abbrev pub merged_pair : List ℕ
merged_pair =
    name 0 "x" ++ name 1 "pair" ++ solvable 0 0 "1" ++ solvable 1 1 "2" ++ solvable 2 1 "1" ++ requirement 0 "x *" ++ requirement 1 "pair *"
    ++ candidate 0 0 ++ candidate 1 1 ++ candidate 1 2 ++ root_variable 0 ++ variable_of 1 0 ++ variable_of 2 1 ++ variable_of 3 2
    ++ requires 0 0 ++ requires 1 1 ++ requires 2 0 ++ requires 3 0

-- P11: "root needs x, one solvable without edges of its own"
abbrev pub lone : List ℕ
lone = name 0 "x" ++ solvable 0 0 "1" ++ requirement 0 "x *" ++ candidate 0 0 ++ root_variable 0 ++ requires 0 0

-- P3: P11's file and a Learnt clause behind it, which is clause 1
abbrev pub with_learnt : ℕ → List ℕ
with_learnt core = lone ++ learnt core

-- a number below 1,000 as it is written
abbrev pub digits : ℕ → List ℕ
digits n =
    cond (ltb n 10) ((48 + n) ∷ [])
    (cond (ltb n 100) ((48 + n / 10) ∷ (48 + n % 10) ∷ [])
    ((48 + n / 100) ∷ (48 + n / 10 % 10) ∷ (48 + n % 10) ∷ []))

-- P4: the root requires "x *", whose candidates are n solvables: n + 2 nodes with unresolved, which counts though it goes. Solvable i has
-- version i. InstallRoot comes first, so that the clause at which node 129 would be added is clause 1.
abbrev pub wide : ℕ → List ℕ
wide n =
    name 0 "x" ++ concat_map (λ i. worded 2 i 0 (digits i)) (upto n 0) ++ requirement 0 "x *" ++ concat_map (λ i. candidate 0 i) (upto n 0)
    ++ root_variable 0 ++ install_root ++ requires 0 0

-- P5: forbidding multiple instances adds the node of its solvable, and no edge leads there; unresolved goes, and the solvable is node 1
abbrev pub lost : List ℕ
lost = name 0 "lost" ++ solvable 0 0 "1" ++ variable_of 0 0 ++ forbid_variable 1 0 ++ forbids 0 1

-- P5 again: the root requires x; y requires what has no candidate, and no edge leads to y. The lowest node not reached is unresolved, which
-- y's edge keeps
abbrev pub apart : List ℕ
apart =
    name 0 "x" ++ name 1 "y" ++ solvable 0 0 "1" ++ solvable 1 1 "1" ++ requirement 0 "x" ++ requirement 1 "y" ++ candidate 0 0
    ++ root_variable 0 ++ variable_of 1 1 ++ requires 0 0 ++ requires 1 1

-- two runs below one package: the root needs desk, desk needs codec and panel, and each of the two needs what has no candidate
abbrev pub desk : List ℕ
desk =
    name 0 "desk" ++ name 1 "codec" ++ name 2 "panel" ++ solvable 0 0 "1" ++ solvable 1 1 "9" ++ solvable 2 2 "5"
    ++ requirement 0 "desk *" ++ requirement 1 "codec 9" ++ requirement 2 "panel 5" ++ requirement 3 "driver 12" ++ requirement 4 "frame 3"
    ++ candidate 0 0 ++ candidate 1 1 ++ candidate 2 2 ++ root_variable 0 ++ variable_of 1 0 ++ variable_of 2 1 ++ variable_of 3 2
    ++ requires 0 0 ++ requires 1 1 ++ requires 1 2 ++ requires 2 3 ++ requires 3 4

-- one package below two others: the root needs a and b, and each of the two needs d, which has no edges of its own
abbrev pub shared : List ℕ
shared =
    name 0 "a" ++ name 1 "b" ++ name 2 "d" ++ solvable 0 0 "1" ++ solvable 1 1 "1" ++ solvable 2 2 "1"
    ++ requirement 0 "a *" ++ requirement 1 "b *" ++ requirement 2 "d *" ++ candidate 0 0 ++ candidate 1 1 ++ candidate 2 2
    ++ root_variable 0 ++ variable_of 1 0 ++ variable_of 2 1 ++ variable_of 3 2 ++ requires 0 0 ++ requires 0 1 ++ requires 1 2 ++ requires 2 2

-- ---- order 5

-- "A version named 4" monitor", and a requirement with two quotes
abbrev pub monitor : List ℕ
monitor = name 0 "panel" ++ solvable 0 0 "4\" monitor" ++ requirement 0 "any \"panel\"" ++ candidate 0 0 ++ root_variable 0 ++ requires 0 0

-- ---- order 9

-- P11's file and a Lock, which is clause 1
abbrev pub with_lock : ℕ → List ℕ
with_lock core = lone ++ variable_of 1 0 ++ locks core 1 1

-- P11's file, and x needs x
abbrev pub selfish : List ℕ
selfish = lone ++ variable_of 1 0 ++ requires 1 0

-- the root needs x, of which there are two: no two of them may be installed, an edge from the first to the second, and the second needs the
-- first
abbrev pub twined : List ℕ
twined =
    name 0 "x" ++ solvable 0 0 "1" ++ solvable 1 0 "2" ++ requirement 0 "x *" ++ requirement 1 "x 1" ++ candidate 0 0 ++ candidate 0 1 ++ candidate 1 0
    ++ root_variable 0 ++ variable_of 1 0 ++ variable_of 2 1 ++ forbid_variable 3 0 ++ requires 0 0 ++ forbids 1 3 ++ forbids 2 3 ++ requires 2 1

-- 64 candidates, which are 65 nodes with the root, and the first needs itself and all others
abbrev pub crowded_loop : List ℕ
crowded_loop = wide 64 ++ variable_of 1 0 ++ requires 1 0

-- P9's file and a Lock, which is clause 3
abbrev pub locked_loop : List ℕ
locked_loop = deck_panel ++ locks 1 1 2
