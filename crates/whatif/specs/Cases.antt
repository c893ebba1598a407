-- The definitions on small graphs, by computing, and what the wrong programs of order 10 would give instead.
use Rattle.std.specs.Prelude.{◌≡◌, refl, true, false, List, [], ◌∷◌, map, ℕ, length, take, replicate}
use Rattle.basis.specs.Lists.{upto}
use Rattle.records.specs.Shapes.{Rec}
use Rattle.records.specs.Tables.{Tables}
use Rattle.store.specs.declared.ConflictNode.{ConflictNode}
use Rattle.store.specs.declared.ConflictNode.TheVariants as N
use Rattle.store.specs.declared.ConflictCause.TheVariants as C
use Rattle.store.specs.declared.ConflictEdge.TheVariants as W
use Rattle.store.specs.declared.Edge.{Edge}
use Rattle.store.specs.Graph.{Graph, settle, out, into}
use Rattle.labels.specs.Order.{through, visit, postorder}
use Rattle.labels.specs.Labels.{targets, order_of, can_install, is_lacking, passing, installables, missings}
use Rattle.labels.specs.Marks.{inst_at, miss_at, anew, label_bits}
use Rattle.cycles.specs.Cycles.{on_cycle, cycle_of}
use Rattle.graph.specs.Graphs.{Outcome, drawn, refused}
use Rattle.whatif.specs.Asked.{asked, question_of, fits_graph, gone_count}
use Rattle.whatif.specs.Alike.{named}
use Rattle.whatif.specs.Relabel.{touched, turn, turns, relabel, stored}

-- ---- tables with eight solvables, two reasons and nine clauses

abbrev blank : Rec
blank = record { kind = 0; first = 0; a = 0; b = 0; c = 0; text = [] }

abbrev tables : Tables
tables =
    record {
      names = [];
      solvables = replicate 8 blank;
      version_sets = [];
      requirements = [];
      candidates = [];
      reasons = replicate 2 blank;
      variables = [];
      assigned = [];
      clauses = replicate 9 blank;
    }

abbrev requires : ℕ → ℕ → ℕ → Edge
requires n t q = record { source = n; target = t; weight = W.Requires q; clause = q }

abbrev excludes : ℕ → ℕ → ℕ → Edge
excludes n t c = record { source = n; target = t; weight = W.Conflict C.Excluded; clause = c }

-- the root needs solvable 5, and solvable 7; nothing leads to unresolved
abbrev core : Graph
core =
    record {
      nodes = N.Root ∷ N.UnresolvedDependency ∷ N.Solvable 5 ∷ N.Solvable 7 ∷ [];
      edges = requires 0 2 0 ∷ requires 0 3 1 ∷ [];
      firsts = 65535 ∷ 65535 ∷ 0 ∷ 1 ∷ [];
      hand = 1;
    }

-- asked about 5: the excluded node stands at the end, not at the place that unresolved left, and both are the new clause's
abbrev here : Graph
here = asked (settle core) 9 5 0

pub at_the_end : here.nodes ≡ N.Root ∷ N.Solvable 7 ∷ N.Solvable 5 ∷ N.Excluded 0 ∷ []
unfolding settle asked
at_the_end = refl

pub newest : here.edges ≡ requires 0 2 0 ∷ requires 0 1 1 ∷ excludes 2 3 9 ∷ []
unfolding settle asked
newest = refl

pub first_clause_lem : here.firsts ≡ 65535 ∷ 1 ∷ 0 ∷ 9 ∷ []
unfolding settle asked
first_clause_lem = refl

-- the rebuilt graph has other numbers, so that by number neither nodes nor labels agree
abbrev there : Graph
there = settle (asked core 9 5 0)

pub other_numbers : there.nodes ≡ N.Root ∷ N.Excluded 0 ∷ N.Solvable 5 ∷ N.Solvable 7 ∷ []
unfolding settle asked
other_numbers = refl

pub same_edges : named here ≡ named there
unfolding settle asked named
same_edges = refl

-- ---- labels: the root and 5 lose theirs, 7 keeps it

pub marks_before : take 4 (label_bits (settle core)) ≡ 1 ∷ 1 ∷ 1 ∷ 0 ∷ []
unfolding settle asked label_bits installables missings passing can_install is_lacking order_of postorder visit through targets out into
marks_before = refl

-- only the chosen package relabelled would leave the root's 1
pub marks_after : take 4 (label_bits here) ≡ 0 ∷ 1 ∷ 0 ∷ 0 ∷ []
unfolding settle asked label_bits installables missings passing can_install is_lacking order_of postorder visit through targets out into
marks_after = refl

pub relabelled : relabel here 2 (order_of here) (label_bits (settle core)) ≡ label_bits here
unfolding relabel turns turn touched anew inst_at miss_at settle asked label_bits installables missings passing can_install is_lacking order_of postorder visit
    through targets out into
relabelled = refl

-- node 7, number 1, and the reason are not stored to
pub stores : take 4 (stored here 2 (order_of here) (label_bits (settle core))) ≡ 1 ∷ 0 ∷ 1 ∷ 0 ∷ []
unfolding stored turns turn touched anew inst_at miss_at settle asked label_bits installables missings passing can_install is_lacking order_of postorder visit through
    targets out into
stores = refl

-- from marks that are wrong, 99 for every node, those two keep what they had: every label rewritten would not
pub left_alone : take 4 (relabel here 2 (order_of here) (99 ∷ 99 ∷ 99 ∷ 99 ∷ replicate 124 0)) ≡ 2 ∷ 99 ∷ 0 ∷ 99 ∷ []
unfolding relabel turns turn touched anew inst_at miss_at settle asked order_of postorder visit through targets out into can_install is_lacking
left_alone = refl

-- ---- "A reason that already has a node uses it; a second exclusion of the same package adds a second edge"

abbrev twice : Graph
twice = asked here 10 5 0

pub used_again : twice.nodes ≡ N.Root ∷ N.Solvable 7 ∷ N.Solvable 5 ∷ N.Excluded 0 ∷ []
unfolding settle asked
used_again = refl

pub second_edge : twice.edges ≡ requires 0 2 0 ∷ requires 0 1 1 ∷ excludes 2 3 9 ∷ excludes 2 3 10 ∷ []
unfolding settle asked
second_edge = refl

-- another reason gets a node of its own
pub other_reason_lem : (asked here 10 5 1).nodes ≡ N.Root ∷ N.Solvable 7 ∷ N.Solvable 5 ∷ N.Excluded 0 ∷ N.Excluded 1 ∷ []
unfolding settle asked
other_reason_lem = refl

-- ---- refusals

-- the outcome's number and place; 0 where it is drawn
abbrev told : Outcome → List ℕ
told (drawn G) = 0 ∷ 0 ∷ []
told (refused k p) = k ∷ p ∷ []

-- 4: no ninth solvable, no third reason, a solvable without a node; "place 0"
pub unknown : map told (question_of tables (settle core) 8 0 ∷ question_of tables (settle core) 5 2 ∷ question_of tables (settle core) 6 0
    ∷ question_of tables (settle core) 5 0 ∷ []) ≡ (4 ∷ 0 ∷ []) ∷ (4 ∷ 0 ∷ []) ∷ (4 ∷ 0 ∷ []) ∷ (0 ∷ 0 ∷ []) ∷ []
unfolding settle question_of asked cycle_of on_cycle
unknown = refl

-- 126 solvables, 0 at the end, of which 0 and 1 need each other in `ring`; unresolved has gone
abbrev wide : List Edge → Graph
wide es = record { nodes = N.Root ∷ map N.Solvable (upto 126 0); edges = es; firsts = replicate 127 65535; hand = 0 }

-- 127 nodes, so that a 128th would fit, and yet it is 8: "unresolved counted". The place is the number of clauses
pub counted : told (question_of tables (wide []) 0 0) ≡ 8 ∷ 9 ∷ []
unfolding question_of asked cycle_of on_cycle
counted = refl

-- 8 before 17: a ring between solvables 0 and 1
pub room_first : told (question_of tables (wide (requires 1 2 0 ∷ requires 2 1 1 ∷ [])) 0 0) ≡ 8 ∷ 9 ∷ []
unfolding question_of asked cycle_of on_cycle
room_first = refl

-- 4 before 8
pub known_first : told (question_of tables (wide []) 0 2) ≡ 4 ∷ 0 ∷ []
unfolding question_of asked cycle_of on_cycle
known_first = refl

-- 17 at the lowest node on the cycle, by the graph that was built
pub cyclic : told (question_of tables (record {
  nodes = N.Root ∷ N.Solvable 5 ∷ N.Solvable 7 ∷ [];
  edges = requires 0 1 0 ∷ requires 1 2 1 ∷ requires 2 1 2 ∷ [];
  firsts = [];
  hand = 0;
}) 5 0) ≡ 17 ∷ 1 ∷ []
unfolding question_of asked cycle_of on_cycle
cyclic = refl
