-- Which numbers reading and building give: 1 to 6, and 7 to 9. So a file that is not drawn never gets 11.
use Rattle.std.specs.Prelude.{◌≡◌, refl, Bool, true, false, cond, ◌&&◌, List, [], ◌∷◌, ℕ, zero, suc, ◌%◌, ◌≤◌, length, leb, ltb, eqb}
use Rattle.std.proofs.Common.{subst, arith}
use Rattle.std.proofs.Math.Option.{Option, none, some}
use Rattle.basis.specs.Members.{split}
use Rattle.records.specs.declared.Shape.{Shape}
use Rattle.records.specs.Shapes.{Rec, records_of, limit, shape_of}
use Rattle.records.specs.Tables.{Tables, no_tables, put, table_of}
use Rattle.records.specs.Read.{Reading, good, bad, read_from, read_of, refusal_in, shape_good, numbers_good, origins_good}
use Rattle.records.specs.Views.{clause_of, core_at}
use Rattle.store.specs.Graph.{Graph, settle, unreached}
use Rattle.expansion.specs.Expand.{Build, ClauseStep, on, stop, start_build, expand}
use Rattle.graph.specs.Graphs.{Turned, go, halt, core_turn, handed, expanded, turn_at, is_learnt, Built, built, stopped, build_from, build_of}
use Rattle.graph.specs.Graphs.{Outcome, drawn, refused, reached_all, graph_of}

abbrev pub ReadLow : Reading → Type 0
ReadLow (good T) = Unit {0}
ReadLow (bad k i) = k ≤ 6

either_low : (b : Bool) (x y : ℕ) → x ≤ 6 → y ≤ 6 → cond b x y ≤ 6
either_low true x y h g = h
either_low false x y h g = g

refusal_low : (T : Tables) (s : Shape) (r : Rec) → refusal_in T s r ≤ 6
refusal_low T s r =
    either_low (shape_good s r) _ 3
    (either_low (ltb (length (table_of s.table T)) (limit s.table)) _ 6
    (either_low (numbers_good T s r) _ 4 (either_low (origins_good T s r) 0 5 (omega arith) (omega arith)) (omega arith)) (omega arith)) (omega arith)

read_low : (rs : List Rec) (i : ℕ) (T : Tables) → ReadLow (read_from rs i T)
unfolding read_from
read_low [] i T = tt
read_low (r ∷ rs) i T = by (shape_of r.kind) refl (λ U. read_low rs (suc i) U)
  where
    by_number : (n : ℕ) (s : Shape) → n ≤ 6 → ((U : Tables) → ReadLow (read_from rs (suc i) U))
        → ReadLow (elim n [ zero ↦ read_from rs (suc i) (put s.table r T) | suc m ↦ bad (suc m) i ])
    by_number zero s h ih = ih (put s.table r T)
    by_number (suc m) s h ih = h

    by : (o : Option Shape) → shape_of r.kind ≡ o → ((U : Tables) → ReadLow (read_from rs (suc i) U)) → ReadLow (read_from (r ∷ rs) i T)
    by none e ih = rw (e, read_from) (omega arith)
    by (some s) e ih = rw (e, read_from) (by_number (refusal_in T s r) s (refusal_low T s r) ih)

file_low : (file : List ℕ) → ReadLow (read_of file)
unfolding read_of
file_low file =
    split (eqb (length file % 32) 0 && leb (length file) 65536)
    (λ q. rw q (read_low (records_of file) 0 no_tables))
    (λ q. rw q (omega arith))

pub bad_low : (file : List ℕ) (k i : ℕ) → read_of file ≡ bad k i → k ≤ 6
bad_low file k i e = subst ReadLow e (file_low file)

-- ---- building

abbrev TurnLow : Turned → Type 0
TurnLow (go b) = Unit {0}
TurnLow (halt k) = k ≤ 9

abbrev BuiltLow : Built → Type 0
BuiltLow (built b) = Unit {0}
BuiltLow (stopped k i) = k ≤ 9

abbrev OutcomeLow : Outcome → Type 0
OutcomeLow (drawn G) = Unit {0}
OutcomeLow (refused k i) = k ≤ 9

step_low : (s : ClauseStep) → TurnLow (expanded s)
step_low (on b) = tt
step_low stop = omega arith

learnt_by : (l : Bool) (s : ClauseStep) → TurnLow (elim l [ true ↦ halt 7 | false ↦ expanded s ])
learnt_by true s = omega arith
learnt_by false s = step_low s

turn_by_lem : (c : Bool) (t : Turned) (b : Build) → TurnLow t → TurnLow (elim c [ false ↦ go b | true ↦ t ])
turn_by_lem true t b l = l
turn_by_lem false t b l = tt

turn_low : (T : Tables) (i : ℕ) (b : Build) → TurnLow (turn_at T i b)
unfolding turn_at
turn_low T i b =
    let c : Build = handed i b in
    turn_by_lem (core_at T i) (core_turn T (clause_of T i) c) b (learnt_by (is_learnt (clause_of T i)) (expand T (clause_of T i) c))

build_by : (n : ℕ) (T : Tables) (i : ℕ) → ((b : Build) → BuiltLow (build_from n T (suc i) b)) → (t : Turned) → TurnLow t
    → BuiltLow (elim t [ halt k ↦ stopped k i | go d ↦ build_from n T (suc i) d ])
build_by n T i ih (go d) l = ih d
build_by n T i ih (halt k) l = l

build_low : (n : ℕ) (T : Tables) (i : ℕ) (b : Build) → BuiltLow (build_from n T i b)
unfolding build_from
build_low zero T i b = tt
build_low (suc n) T i b = build_by n T i (build_low n T (suc i)) (turn_at T i b) (turn_low T i b)

finished_low : (g : Graph) → OutcomeLow (reached_all g)
unfolding reached_all
finished_low g = by (unreached g)
  where
    by : (o : Option ℕ) → OutcomeLow (elim o [ none ↦ drawn g | some n ↦ refused 9 n ])
    by none = tt
    by (some n) = omega arith

outcome_by_lem : (b : Built) → BuiltLow b → OutcomeLow (elim b [ stopped k i ↦ refused k i | built c ↦ reached_all (settle c.graph) ])
outcome_by_lem (built c) l = finished_low (settle c.graph)
outcome_by_lem (stopped k i) l = l

outcome_low : (T : Tables) → OutcomeLow (graph_of T)
unfolding graph_of build_of
outcome_low T = outcome_by_lem (build_of T) (build_low (length T.clauses) T 0 start_build)

pub refused_low : (T : Tables) (k i : ℕ) → graph_of T ≡ refused k i → k ≤ 9
refused_low T k i e = subst OutcomeLow e (outcome_low T)
