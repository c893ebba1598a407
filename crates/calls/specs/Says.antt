-- The explanation of a file: what the answer and the room say, for every edition, file, option and room.
use Rattle.std.specs.Prelude.{◌≡◌, Bool, true, false, List, ℕ, length}
use Rattle.records.specs.Tables.{Tables}
use Rattle.store.specs.Graph.{Graph}
use Rattle.machine.specs.Units.{Result}
use Rattle.machine.specs.Explained.{Explained}
use Rattle.machine.specs.Edition.{edited}
use Rattle.texts.specs.Wrote.{over}
use Rattle.plan.specs.Plan.{Shown, shown_of, plan_of, start_of}
use Rattle.plan.specs.Display.{solvable_of}
use Rattle.plan.specs.Planned.{Planned}
use Rattle.plan.specs.Marking.{read_as}
use Rattle.lines.specs.Lines.{lines_of}
use Rattle.explanation.specs.declared.walk.WalkAnswer.{WalkAnswer}
use Rattle.explanation.specs.Walk.{Answered}
use Rattle.explanation.specs.Contract.{ExplainedFile}
use Rattle.calls.specs.declared.Answer.{Answer}

-- an answer with the text that it counts: "An answer holds number, place, bytes, units, depth"
abbrev pub result_by : Answer → List ℕ → Result
result_by r t = record { number = r.number; place = r.place; bytes = r.bytes; units = r.units; depth = r.depth; text = t }

-- the answer is the explanation's for this edition, file, option and room, and the room holds its text: "lent bytes past those written stay"
pub record Says (e : ℕ) (file : List ℕ) (opt : ℕ) (out left : List ℕ) (r : Answer) : Type 0 where
  pub text : List ℕ
  pub is : ExplainedFile e file opt (length out) (result_by r text)
  pub room : left ≡ over text out

-- the answer is what an edition shows of the graph G in the room out, and left is what became of the room: of a graph that a file draws, or
-- of one that is asked for (document 02, order 10)
pub record Shows (e : ℕ) (T : Tables) (G : Graph) (opt : ℕ) (out left : List ℕ) (r : Answer) : Type 0 where
  pub text : List ℕ
  pub is : Explained (edited e (plan_of (shown_of T G))) (lines_of (shown_of T G) opt) (solvable_of (shown_of T G)) (start_of (shown_of T G)) (length out)
      (result_by r text)
  pub room : left ≡ over text out

-- the edition that reports every package, and the one that does not
abbrev pub edition_of : Bool → ℕ
edition_of true = 2
edition_of false = 1

-- ---- what the steps of the code say to each other

-- a plan of S that an edition reads
pub record PlannedAs (every : Bool) (S : Shown) (q k : List ℕ) : Type 0 where
  pub before : List ℕ
  pub plan : Planned S before k
  pub long : length before ≡ 1280
  pub read : q ≡ read_as every before

abbrev pub told_as : WalkAnswer → Answer
told_as t = record { number = t.number; place = t.place; bytes = t.bytes; units = t.units; depth = t.depth }

-- an answer that the walk over a plan gives
pub record Walked (T : Tables) (q k : List ℕ) (t : Bool) (out left : List ℕ) (r : Answer) : Type 0 where
  pub told : WalkAnswer
  pub is : r ≡ told_as told
  pub answered : Answered T q k t out left told
