-- Which numbers reading and building give: 1 to 6, and 7 to 9. The upper ends are explanation/specs/Laws/Numbers.antt's; here the lower ones, so
-- that 0 means that the file passes.
use Rattle.std.specs.Prelude.{◌≡◌, refl, Bool, true, false, ◌&&◌, List, [], ◌∷◌, ℕ, zero, suc, ◌%◌, ◌≤◌, length, leb, eqb}
use Rattle.std.proofs.Common.{subst, arith}
use Rattle.std.proofs.Math.Option.{Option, none, some}
use Rattle.basis.specs.Members.{split}
use Rattle.records.specs.declared.Shape.{Shape}
use Rattle.records.specs.Shapes.{Rec, records_of, shape_of}
use Rattle.records.specs.Tables.{Tables, no_tables, put}
use Rattle.records.specs.Read.{Reading, good, bad, read_from, read_of, refusal_in}
use Rattle.records.specs.Views.{clause_of, core_at}
use Rattle.store.specs.Graph.{Graph, settle, unreached}
use Rattle.expansion.specs.Expand.{Build, ClauseStep, on, stop, start_build, expand}
use Rattle.graph.specs.Graphs.{Turned, go, halt, core_turn, handed, expanded, turn_at, is_learnt, Built, built, stopped, build_from, build_of}
use Rattle.graph.specs.Graphs.{Outcome, drawn, refused, reached_all, graph_of}

abbrev ReadSome : Reading → Type 0
ReadSome (good T) = Unit {0}
ReadSome (bad k i) = 1 ≤ k

read_some : (rs : List Rec) (i : ℕ) (T : Tables) → ReadSome (read_from rs i T)
unfolding read_from
read_some [] i T = tt
read_some (r ∷ rs) i T = by (shape_of r.kind) refl (λ U. read_some rs (suc i) U)
  where
    by_number : (n : ℕ) (s : Shape) → ((U : Tables) → ReadSome (read_from rs (suc i) U))
        → ReadSome (elim n [ zero ↦ read_from rs (suc i) (put s.table r T) | suc m ↦ bad (suc m) i ])
    by_number zero s ih = ih (put s.table r T)
    by_number (suc m) s ih = omega arith

    by : (o : Option Shape) → shape_of r.kind ≡ o → ((U : Tables) → ReadSome (read_from rs (suc i) U)) → ReadSome (read_from (r ∷ rs) i T)
    by none e ih = rw (e, read_from) (omega arith)
    by (some s) e ih = rw (e, read_from) (by_number (refusal_in T s r) s ih)

file_some : (file : List ℕ) → ReadSome (read_of file)
unfolding read_of
file_some file =
    split (eqb (length file % 32) 0 && leb (length file) 65536)
    (λ q. rw q (read_some (records_of file) 0 no_tables))
    (λ q. rw q (omega arith))

pub bad_some : (file : List ℕ) (k i : ℕ) → read_of file ≡ bad k i → 1 ≤ k
bad_some file k i e = subst ReadSome e (file_some file)

-- ---- building

abbrev TurnHigh : Turned → Type 0
TurnHigh (go b) = Unit {0}
TurnHigh (halt k) = 7 ≤ k

abbrev BuiltHigh : Built → Type 0
BuiltHigh (built b) = Unit {0}
BuiltHigh (stopped k i) = 7 ≤ k

abbrev OutcomeHigh : Outcome → Type 0
OutcomeHigh (drawn G) = Unit {0}
OutcomeHigh (refused k i) = 7 ≤ k

step_high : (s : ClauseStep) → TurnHigh (expanded s)
step_high (on b) = tt
step_high stop = omega arith

learnt_by : (l : Bool) (s : ClauseStep) → TurnHigh (elim l [ true ↦ halt 7 | false ↦ expanded s ])
learnt_by true s = omega arith
learnt_by false s = step_high s

turn_by_lem : (c : Bool) (t : Turned) (b : Build) → TurnHigh t → TurnHigh (elim c [ false ↦ go b | true ↦ t ])
turn_by_lem true t b l = l
turn_by_lem false t b l = tt

turn_high : (T : Tables) (i : ℕ) (b : Build) → TurnHigh (turn_at T i b)
unfolding turn_at
turn_high T i b =
    let c : Build = handed i b in
    turn_by_lem (core_at T i) (core_turn T (clause_of T i) c) b (learnt_by (is_learnt (clause_of T i)) (expand T (clause_of T i) c))

build_by : (n : ℕ) (T : Tables) (i : ℕ) → ((b : Build) → BuiltHigh (build_from n T (suc i) b)) → (t : Turned) → TurnHigh t
    → BuiltHigh (elim t [ halt k ↦ stopped k i | go d ↦ build_from n T (suc i) d ])
build_by n T i ih (go d) l = ih d
build_by n T i ih (halt k) l = l

build_high : (n : ℕ) (T : Tables) (i : ℕ) (b : Build) → BuiltHigh (build_from n T i b)
unfolding build_from
build_high zero T i b = tt
build_high (suc n) T i b = build_by n T i (build_high n T (suc i)) (turn_at T i b) (turn_high T i b)

finished_high : (g : Graph) → OutcomeHigh (reached_all g)
unfolding reached_all
finished_high g = by (unreached g)
  where
    by : (o : Option ℕ) → OutcomeHigh (elim o [ none ↦ drawn g | some n ↦ refused 9 n ])
    by none = tt
    by (some n) = omega arith

outcome_by_lem : (b : Built) → BuiltHigh b → OutcomeHigh (elim b [ stopped k i ↦ refused k i | built c ↦ reached_all (settle c.graph) ])
outcome_by_lem (built c) l = finished_high (settle c.graph)
outcome_by_lem (stopped k i) l = l

outcome_high : (T : Tables) → OutcomeHigh (graph_of T)
unfolding graph_of build_of
outcome_high T = outcome_by_lem (build_of T) (build_high (length T.clauses) T 0 start_build)

pub refused_high : (T : Tables) (k i : ℕ) → graph_of T ≡ refused k i → 7 ≤ k
refused_high T k i e = subst OutcomeHigh e (outcome_high T)
