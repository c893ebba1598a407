-- The words that the demands use, over the file's bytes and over what reading and building make of them.
use Rattle.std.specs.Prelude.{◌≡◌, ◌⊎◌, Bool, true, false, cond, ◌&&◌, not, List, [], ◌∷◌, ◌++◌, map, ℕ, suc, ◌+◌, ◌*◌, ◌/◌, ◌≤◌, ◌<◌, length, get_or, drop, eqb, leb, ltb}
use Rattle.basis.specs.Lists.{snoc}
use Rattle.basis.specs.Quote.{utf8}
use Rattle.basis.specs.Members.{In}
use Rattle.records.specs.Tables.{Tables}
use Rattle.records.specs.Read.{good, read_of}
use Rattle.store.specs.Graph.{Graph}
use Rattle.graph.specs.Graphs.{drawn, graph_of}
use Rattle.labels.specs.Runs.{Run}
use Rattle.groups.specs.Groups.{groups, singles}
use Rattle.groups.specs.Naming.{name_of}
use Rattle.machine.specs.Machine.{Plan, State, after, shows, loops, stop_of}
use Rattle.machine.specs.Units.{TextUnit, Result, text_of, depth_of}
use Rattle.machine.specs.Explained.{units_for}
use Rattle.machine.specs.Edition.{edited}
use Rattle.plan.specs.Plan.{Shown, shown_of, plan_of, start_of, is_requiring, line_kind}
use Rattle.plan.specs.Display.{solvable_of, package_text}
use Rattle.lines.specs.Lines.{top_of, run_line, set_line, lines_of}
use Rattle.texts.specs.Indent.{indent, at_top}
use Rattle.texts.specs.Wrote.{over}
use Rattle.drawing.specs.Graphviz.{unit_of}
use Rattle.lists.specs.declared.entries.NodeEntry.{NodeEntry}
use Rattle.explanation.specs.Explain.{refusal}
use Rattle.calls.specs.declared.Answer.{Answer}

-- "1 to 9 and 12"
abbrev pub Early : ℕ → Type 0
Early k = ((1 ≤ k) × (k ≤ 9)) ⊎ (k ≡ 12)

-- every number but 0, 10 and 11: 12, 1 to 9, and those of the orders
pub record Refusing (k : ℕ) : Type 0 where
  pub done : k ≡ 0 → ⊥
  pub full : k ≡ 10 → ⊥
  pub loops : k ≡ 11 → ⊥

-- a file that passes 1 to 9, with its tables and its graph
pub record Passed (file : List ℕ) : Type 0 where
  pub tables : Tables
  pub graph : Graph
  pub reads : read_of file ≡ good tables
  pub draws : graph_of tables ≡ drawn graph

-- ---- "the text that the Rust's rules give": `fmt_graph` (conflict.rs, lines 893 to 1186), with neither 10 nor 11; for e = 2 those of the edition

abbrev pub plan_in : ℕ → Tables → Graph → Plan Run
plan_in e T G = edited e (plan_of (shown_of T G))

abbrev pub start_in : Tables → Graph → State Run
start_in T G = start_of (shown_of T G)

-- the units that n turns of `while let Some((node, indenter)) = stack.pop()` write: the text so far
abbrev pub units_in : ℕ → Tables → Graph → ℕ → ℕ → List TextUnit
units_in e T G opt n = units_for (plan_in e T G) (lines_of (shown_of T G) opt) (shows (plan_in e T G) n (start_in T G))

-- n turns finish the rules: the stack is empty then
abbrev pub EndsIn : ℕ → Tables → Graph → ℕ → Type 0
EndsIn e T G n = (after (plan_in e T G) n (start_in T G)).stack ≡ []

-- what is left in the room, and what the answer says of it: the first units of that text, whatever further turns would add, and no other byte
pub record WholeUnits (e : ℕ) (T : Tables) (G : Graph) (opt : ℕ) (out left : List ℕ) (r : Answer) : Type 0 where
  pub turns : ℕ
  pub first : List TextUnit
  pub begins : (j : ℕ) → (rest : List TextUnit) × (units_in e T G opt (turns + j) ≡ first ++ rest)
  pub room : left ≡ over (text_of first) out
  pub bytes : r.bytes ≡ length (text_of first)
  pub units : r.units ≡ length first
  pub fits : r.bytes ≤ length out

-- 10: "the next unit doesn't fit the room", place "units written"
pub record NoRoom (e : ℕ) (T : Tables) (G : Graph) (opt : ℕ) (out left : List ℕ) (r : Answer) (w : WholeUnits e T G opt out left r) : Type 0 where
  pub place : r.place ≡ r.units
  pub unit : TextUnit
  pub rest : List TextUnit
  pub next : units_in e T G opt w.turns ≡ w.first ++ (unit ∷ rest)
  pub over_full : length out < r.bytes + length unit.bytes

-- 11: "an unmerged package comes to be opened below itself with only unmerged ones between", place "solvable": so many turns of the rules lead there
pub record Looping (e : ℕ) (T : Tables) (G : Graph) (r : Answer) : Type 0 where
  pub turns : ℕ
  pub node : ℕ
  pub meets : stop_of (plan_in e T G) (after (plan_in e T G) turns (start_in T G)).stack ≡ loops node
  pub place : r.place ≡ solvable_of (shown_of T G) node

-- "lent bytes past those written stay", and the room is as long as it was
pub record OthersStay (out left : List ℕ) (r : Answer) : Type 0 where
  pub as_long : length left ≡ length out
  pub behind : drop r.bytes left ≡ drop r.bytes out

-- ---- the texts that do not go by the machine: graph text and wall display

-- the first of these units: by 0 all of them, by 10 those before the one that does not fit
pub record FirstOf (us : List TextUnit) (room : ℕ) (x : Result) : Type 0 where
  pub first : List TextUnit
  pub rest : List TextUnit
  pub begins : us ≡ first ++ rest
  pub text : x.text ≡ text_of first
  pub bytes : x.bytes ≡ length (text_of first)
  pub units : x.units ≡ length first
  pub depth : x.depth ≡ depth_of first
  pub fits : x.bytes ≤ room
  pub number : ((x.number ≡ 0) × (x.place ≡ 0) × (rest ≡ []))
      ⊎ ((x.number ≡ 10) × (x.place ≡ x.units) × ((u : TextUnit) × (vs : List TextUnit) × (rest ≡ u ∷ vs) × (room < x.bytes + length u.bytes)))

-- a graph's text in a room: a refusal by 1 to 9 or 12, which writes nothing, or the first of its units; "never gets 11, and its depth is 0"
abbrev pub UnitsOr : (Tables → Graph → List (List ℕ)) → List ℕ → ℕ → Result → Type 0
UnitsOr units file room x =
    ((k : ℕ) × (p : ℕ) × Early k × (x ≡ refusal k p))
    ⊎ ((p : Passed file) × FirstOf (map unit_of (units p.tables p.graph)) room x × (x.depth ≡ 0))

-- ---- g and u: the groups of `simplify`, and the solvables in none

abbrev pub groups_in : Tables → Graph → ℕ
groups_in T G = length (groups (name_of T) G)

abbrev pub singles_in : Tables → Graph → ℕ
singles_in T G = length (singles (name_of T) G)

-- "g + (g + 1) × u"
abbrev pub bound_in : Tables → Graph → ℕ
bound_in T G = groups_in T G + (groups_in T G + 1) * singles_in T G

-- document 02, order 11: "g + u"
abbrev pub once_in : Tables → Graph → ℕ
once_in T G = groups_in T G + singles_in T G

-- ---- the node list

-- entry n of a list
abbrev pub entry_in : List NodeEntry → ℕ → NodeEntry
entry_in es n = get_or es n (record { kind = 0; number = 0; group = 0; installable = 0; missing = 0; clause = 0 })

-- entry m has the label
abbrev pub says_installable : List NodeEntry → ℕ → Bool
says_installable es m = eqb (entry_in es m).installable 1

abbrev pub says_missing : List NodeEntry → ℕ → Bool
says_missing es m = eqb (entry_in es m).missing 1

-- ---- lines, levels and openings, read off the bytes written

-- the lines of a text, each with its newline; so far the line at hand has the bytes `so`
abbrev pub cut_lines : List ℕ → List ℕ → List (List ℕ)
cut_lines so [] = []
cut_lines so (x ∷ xs) = elim (eqb x 10) [ true ↦ snoc so x ∷ cut_lines [] xs | false ↦ cut_lines (snoc so x) xs ]

abbrev pub lines_in : List ℕ → List (List ℕ)
lines_in text = cut_lines [] text

-- a byte that begins a character
abbrev pub begins_one : ℕ → Bool
begins_one x = not (leb 128 x && ltb x 192)

-- the characters begun when the first byte 128 comes, k being begun before, and 0 where none comes: of all that is written only "─" has it, as
-- its third byte
abbrev pub columns : ℕ → List ℕ → ℕ
columns k [] = 0
columns k (x ∷ xs) = elim (eqb x 128) [ true ↦ k | false ↦ columns (cond (begins_one x) (suc k) k) xs ]

-- a level shows as three characters, the deepest with "─" in its middle; "Option 1 indents the top level"
abbrev pub levels_of : ℕ → List ℕ → ℕ
levels_of opt line = (columns 0 line + 1) / 3 + cond (top_of opt) 0 1

-- a run's line, a package's that says "would require" or another, one under "would constrain"
pub data Line : Type 0 where
  of_run of_package of_opening of_set : Line

abbrev pub own_levels : Line → ℕ
own_levels of_run = 1
own_levels of_package = 2
own_levels of_opening = 2
own_levels of_set = 3

-- "Opening a package means writing its 'would require' line"
abbrev pub own_openings : Line → ℕ
own_openings of_run = 0
own_openings of_package = 0
own_openings of_opening = 1
own_openings of_set = 0

-- what the line says behind its indent: `run_line`, `package_lines` and `set_line` are the `writeln!`s of `fmt_graph`
abbrev pub Wording : Shown → ℕ → List Bool → Line → List ℕ → Type 0
Wording S opt ms of_run l = (r : Run) × (l ≡ indent (top_of opt) ms ++ run_line S (at_top ms) r ++ utf8 "\n")
Wording S opt ms of_package l = (n : ℕ) × (rest : List ℕ) × (is_requiring (line_kind S n) ≡ false) × (l ≡ indent (top_of opt) ms ++ package_text S n ++ rest)
Wording S opt ms of_opening l = (n : ℕ) × (is_requiring (line_kind S n) ≡ true) × (l ≡ indent (top_of opt) ms ++ package_text S n ++ utf8 " would require\n")
Wording S opt ms of_set l = (v : ℕ) × (l ≡ indent (top_of opt) ms ++ set_line S v ++ utf8 "\n")

-- a line below the opened packages `branch`, the latest first: its levels are twice these packages, and its own; its openings are these, and its own
pub record ReadOff (S : Shown) (opt : ℕ) (branch : List ℕ) (u : TextUnit) : Type 0 where
  pub line : Line
  pub marks : List Bool
  pub wording : Wording S opt marks line u.bytes
  pub levels : levels_of opt u.bytes ≡ 2 * length branch + own_levels line
  pub openings : u.openings ≡ length branch + own_openings line

-- each package of a branch was opened by one of the lines us, below the rest of the branch
abbrev pub OpenedBy : Shown → ℕ → List TextUnit → List ℕ → Type 0
OpenedBy S opt us [] = Unit {0}
OpenedBy S opt us (n ∷ b) =
    ((u : TextUnit) × In u us × ((x : ReadOff S opt b u) × (x.line ≡ of_opening)
    × (u.bytes ≡ indent (top_of opt) x.marks ++ package_text S n ++ utf8 " would require\n")))
    × OpenedBy S opt us b

-- all of these lines, behind the lines `before`: each with its branch, which lines before it opened
abbrev pub AllReadOff : Shown → ℕ → List TextUnit → List TextUnit → Type 0
AllReadOff S opt before [] = Unit {0}
AllReadOff S opt before (u ∷ us) = ((branch : List ℕ) × ReadOff S opt branch u × OpenedBy S opt before branch) × AllReadOff S opt (snoc before u) us
