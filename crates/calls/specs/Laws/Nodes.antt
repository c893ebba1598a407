-- How the export comes to the node list's answer.
use Rattle.std.specs.Prelude.{◌≡◌, refl, cond, List, ◌++◌, ℕ, ◌≤◌, length, drop, ltb}
use Rattle.std.proofs.Common.{sym, ◌∙◌, ap}
use Rattle.basis.specs.Members.{split}
use Rattle.records.specs.Read.{Reading, good, bad, read_of}
use Rattle.graph.specs.Graphs.{Outcome, drawn, refused, graph_of}
use Rattle.records.specs.Tables.{Tables}
use Rattle.lists.specs.Entry.{fill_to, fill_entries}
use Rattle.lists.specs.declared.entries.NodeEntry.{NodeEntry}
use Rattle.lists.specs.declared.nodes.Counted.{Counted}
use Rattle.lists.specs.Nodes.{Nodes, entered, denied, nodes_drawn, nodes_read, nodes_of, counted_by, listed_by}
use Rattle.lists.specs.Listed.{Listed, as_many, in_room, packed}
use Rattle.calls.specs.Answers.{outcome_answer, check_by, check_of}
use Rattle.calls.specs.Nodes.{nodes_by, nodes_answer, nodes_left, no_words, answer_of, NodesSaid}

-- "1, then record by record in the table's order, then core clauses in order (7, 8), then 9": a file that `urzulempa_check` refuses is
-- refused alike, whatever the list
pub nodes_check : (file : List ℕ) (len : ℕ) → ((check_of file).number ≡ 0 → ⊥) → nodes_answer file len ≡ check_of file
unfolding nodes_answer nodes_of check_of
nodes_check file len f = go (read_of file) f
  where
    outcome : (T : Tables) (o : Outcome) → ((outcome_answer o).number ≡ 0 → ⊥) → nodes_by (nodes_drawn T o) len ≡ outcome_answer o
    outcome T (drawn G) f = absurd (f refl)
    outcome T (refused k p) f = refl

    go : (y : Reading) → ((check_by y).number ≡ 0 → ⊥) → nodes_by (nodes_read y) len ≡ check_by y
    go (bad k p) f = refl
    go (good T) f = outcome T (graph_of T) f

-- ---- the way through the code

pub answer_counted : (X : Nodes) (len : ℕ) → answer_of (counted_by X len) ≡ nodes_by X len
answer_counted (denied k p) len = refl
answer_counted (entered es) len = split (ltb len (length es)) (λ t. rw (t, cond)) (λ t. rw (t, cond))

-- what `fill` asks
pub count_fits : (file : List ℕ) (room : ℕ) (r : Counted) (ws : List ℕ) → Listed (nodes_of file) room no_words r ws → (r.count ≤ room) × (r.count ≤ 128)
count_fits file room r ws e = (in_room (nodes_of file) room no_words r ws e, e.few)

pub exported : (file : List ℕ) (l : List NodeEntry) (r : Counted) (ws : List ℕ) (zs : List NodeEntry) → Listed (nodes_of file) (length l) no_words r ws
    → zs ≡ fill_to ws r.count l → NodesSaid file l (answer_of r) zs
unfolding nodes_answer nodes_left
exported file l r ws zs e p =
    let X : Nodes = nodes_of file in
    let es : List NodeEntry = listed_by X (length l) in
    let many : length es ≡ r.count = as_many X (length l) no_words r ws e in (
      ap answer_of e.counted ∙ answer_counted X (length l),
      p ∙ (fill_entries es ws r.count l (packed X (length l) no_words r ws e) many e.narrow (in_room X (length l) no_words r ws e)
          ∙ ap (λ (n : ℕ). es ++ drop n l) (sym many)),
    )
