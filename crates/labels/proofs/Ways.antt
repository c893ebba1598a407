-- The ways through the code of the passes that stand on what a scan gives: a node's mark, and the whole.
use Rattle.std.specs.Prelude.{◌≡◌, Bool, cond, ◌&&◌, ◌||◌, List, ℕ, set}
use Rattle.std.proofs.Common.{ap, ◌∙◌}
use Rattle.std.proofs.Math.Bool.{not}
use Rattle.basis.specs.Lists.{any}
use Rattle.store.specs.declared.Size.{Size}
use Rattle.store.specs.Graph.{out}
use Rattle.store.specs.Table.{graph_in}
use Rattle.labels.specs.declared.passes.Verdict.{Verdict}
use Rattle.labels.specs.Runs.{runs_of, every_run, some_run}
use Rattle.labels.specs.Labels.{order_of, conflicts, can_install, is_lacking, has_unresolved}
use Rattle.labels.proofs.Scanned.{verdict_is}
use Rattle.labels.specs.Marks.{bits_of, inst_at, miss_at, node_mark, anew, marks_along, label_bits}
use Rattle.labels.proofs.Marked.{marks_end}
use Rattle.labels.specs.Frames.{Posted}
use Rattle.labels.specs.Bounds.{sound}
use Rattle.labels.specs.Passes.{verdict_of, installing, Blank}

-- ---- a node's mark

pub mark_via : (g : List ℕ) (s : Size) (ls ms : List ℕ) (n : ℕ) (v : Verdict) (c i m a b : Bool) (r : ℕ) → v ≡ verdict_of (graph_in g s) ms n
    → c ≡ installing g s ls n v.every → i ≡ inst_at ms n → m ≡ miss_at ms n → a ≡ c || i → b ≡ v.some || m → r ≡ bits_of a b → r ≡ node_mark (graph_in g s) ms n
unfolding verdict_of installing node_mark can_install is_lacking
mark_via g s ls ms n v c i m a b r qv qc qi qm qa qb qr =
    let z : v ≡ record {
      every = not (any conflicts (out (graph_in g s) n)) && every_run (inst_at ms) (runs_of (out (graph_in g s) n));
      some = not (any conflicts (out (graph_in g s) n)) && some_run (miss_at ms) (runs_of (out (graph_in g s) n));
    } =
    qv ∙ verdict_is (inst_at ms) (miss_at ms) (out (graph_in g s) n) in
    qr ∙ rw (qa, qb, qc, qi, qm, z)

-- the mark by the rules alone, from the verdict on the outgoing edges
pub again_via : (g : List ℕ) (s : Size) (ls ms : List ℕ) (n : ℕ) (v : Verdict) (c : Bool) (r : ℕ) → v ≡ verdict_of (graph_in g s) ms n
    → c ≡ installing g s ls n v.every → r ≡ bits_of c v.some
    → r ≡ anew (graph_in g s) ms n
unfolding verdict_of installing anew can_install is_lacking
again_via g s ls ms n v c r qv qc qr =
    let z : v ≡ record {
      every = not (any conflicts (out (graph_in g s) n)) && every_run (inst_at ms) (runs_of (out (graph_in g s) n));
      some = not (any conflicts (out (graph_in g s) n)) && some_run (miss_at ms) (runs_of (out (graph_in g s) n));
    } =
    qv ∙ verdict_is (inst_at ms) (miss_at ms) (out (graph_in g s) n) in
    qr ∙ rw (qc, z)

-- ---- the whole

pub label_whole : (g : List ℕ) (s : Size) (ls os : List ℕ) (k : ℕ) (ms m l : List ℕ) → Posted g s ls os k → Blank ms
    → m ≡ cond (has_unresolved (graph_in g s)) (set ms 1 2) ms → l ≡ marks_along (graph_in g s) (order_of (graph_in g s)) m → l ≡ label_bits (graph_in g s)
label_whole g s ls os k ms m l L B qm ql =
    ql ∙ marks_end (graph_in g s) (sound g s L.chains.stored) m (qm ∙ ap (λ (l : List ℕ). cond (has_unresolved (graph_in g s)) (set l 1 2) l) B.zeros)
