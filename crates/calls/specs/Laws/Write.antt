-- Writing beside `urzulempa_check`, over the contracts of the two calls: what was written never gets 1 to 6. What else order 1 promises
-- stands over the same contract in writing/specs/Laws/Promises.antt.
use Rattle.std.specs.Prelude.{◌≡◌, List, ℕ, length}
use Rattle.std.proofs.Common.{ap}
use Rattle.graph.specs.Graphs.{graph_of}
use Rattle.writing.specs.Arranged.{rows_of, filled}
use Rattle.writing.specs.Write.{write_answer}
use Rattle.writing.specs.Laws.Promises.{out_in, done_reads}
use Rattle.calls.specs.Answers.{outcome_answer, check_by, check_of}
use Rattle.calls.specs.Write.{written_answer}
use Rattle.writing.specs.declared.Written.{Written}

pub written_is : (w u : Written) → w ≡ u → record { number = w.number; place = w.place; bytes = w.bytes; units = w.units; depth = 0 } ≡ written_answer u
written_is w u e = ap written_answer e

-- the file that stands in the room of a call that is done is read whole: the check says what the graph of the rows' tables says
pub written_check : (rows room : List ℕ) → (written_answer (write_answer rows (length room))).number ≡ 0
    → check_of (out_in rows room) ≡ outcome_answer (graph_of (filled (rows_of rows)))
unfolding check_of
written_check rows room h = ap check_by (done_reads rows room h)
