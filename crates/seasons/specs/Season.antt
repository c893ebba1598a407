-- What `urzulempa_season` and `urzulempa_join` answer, and what they leave of the report and the room (document 02, order 8).
use Rattle.std.specs.Prelude.{◌≡◌, Bool, true, false, List, ℕ, length, eqb}
use Rattle.season.specs.declared.Own.{Own}
use Rattle.season.specs.Words.{join_by, join_number, join_words, share_words}
use Rattle.seasons.specs.declared.tally.Counts.{Counts}
use Rattle.seasons.specs.Tally.{file_counts}
use Rattle.calls.specs.declared.Answer.{Answer}
use Rattle.calls.specs.Answers.{refusal_of}
use Rattle.calls.specs.Says.{Says}

-- ---- two reports joined

-- done, 10 or 14 by `join_number`, and no more
abbrev pub join_answer : List ℕ → List ℕ → Answer
join_answer ws vs = refusal_of (join_number ws vs) 0

-- ---- one file

-- what a file adds: "its graph counts, the lines it wrote and its depth"
abbrev pub own_of : Answer → Counts → Own
own_of a c =
    record {
      number = a.number;
      nodes = c.nodes;
      edges = c.edges;
      groups = c.groups;
      missing = c.missing;
      lines = a.units;
      depth = a.depth;
    }

-- a file whose own answer is a and whose graph has the counts c is added to the report ws: the answer is the file's own, or "14 if a count
-- would pass its width .. report unchanged"
pub record Enters (ws : List ℕ) (a : Answer) (c : Counts) (vs : List ℕ) (r : Answer) : Type 0 where
  pub answer : r ≡ join_by ws (share_words (own_of a c)) (refusal_of 10 0) (refusal_of 14 0) a
  pub report : vs ≡ join_words ws (share_words (own_of a c))

-- "explains one file into the room as `urzulempa_explain_edition` does and adds it"; "the room as the explanation leaves it", where the answer is
-- 14 as well
pub record Entered (e : ℕ) (file : List ℕ) (opt : ℕ) (ws vs out left : List ℕ) (r : Answer) : Type 0 where
  pub own : Answer
  pub says : Says e file opt out left own
  pub enters : Enters ws own (file_counts file) vs r

-- "A report of another length than 27: 10, place 0, nothing changed, nothing explained."
abbrev pub AddsBy : Bool → ℕ → List ℕ → ℕ → List ℕ → List ℕ → List ℕ → List ℕ → Answer → Type 0
AddsBy true e file opt ws vs out left r = Entered e file opt ws vs out left r
AddsBy false e file opt ws vs out left r = (r ≡ refusal_of 10 0) × (vs ≡ ws) × (left ≡ out)

-- "explains one file into the room .. and adds it": ws is the report before and vs the report after, out the room before and left the room
-- after
pub record Adds (e : ℕ) (file : List ℕ) (opt : ℕ) (ws vs out left : List ℕ) (r : Answer) : Type 0 where
  pub by : AddsBy (eqb (length ws) 27) e file opt ws vs out left r
