-- "the file's core with one more Excluded clause at its end, naming that solvable whether or not a variable record exists for it, and with
-- record limits set aside" (document 02, order 10), as tables.
use Rattle.std.specs.Prelude.{◌≡◌, List, [], ◌∷◌, ◌++◌, ℕ, length, replicate}
use Rattle.basis.specs.Lists.{snoc}
use Rattle.records.specs.declared.Origin.TheVariants as O
use Rattle.records.specs.Shapes.{Rec}
use Rattle.records.specs.Tables.{Tables}
use Rattle.records.specs.Views.{origin_of}

-- U is T with one more clause at the end: Excluded and in the core, of the reason r and of a variable, T's own or a new one, that names the
-- solvable s. Nothing is said of how many records there are
pub record Extended (T U : Tables) (s r : ℕ) : Type 0 where
  pub clause : Rec
  pub new : List Rec
  pub variables_are : U.variables ≡ T.variables ++ new
  pub clauses_are : U.clauses ≡ snoc T.clauses clause
  pub candidates_are : U.candidates ≡ T.candidates
  pub assigned_are : U.assigned ≡ T.assigned
  pub kind : clause.kind ≡ 17
  pub core : clause.first ≡ 1
  pub what : clause.b ≡ r
  pub who : origin_of U clause.a ≡ O.Solvable s

-- ---- such tables: "17 Excluded(a variable, b reason)", "7 variable, a own, b origin, c what it names"

abbrev zeros : List ℕ
zeros = replicate 24 0

abbrev pub new_clause : ℕ → ℕ → Rec
new_clause v r = record { kind = 17; first = 1; a = v; b = r; c = 0; text = zeros }

abbrev pub new_variable : ℕ → ℕ → Rec
new_variable v s = record { kind = 7; first = 0; a = v; b = 1; c = s; text = zeros }

abbrev pub with_clause : Tables → List Rec → Rec → Tables
with_clause T vs c =
    record {
      names = T.names;
      solvables = T.solvables;
      version_sets = T.version_sets;
      requirements = T.requirements;
      candidates = T.candidates;
      reasons = T.reasons;
      variables = T.variables ++ vs;
      assigned = T.assigned;
      clauses = snoc T.clauses c;
    }

-- with a variable of T
abbrev pub with_old : Tables → ℕ → ℕ → Tables
with_old T v r = with_clause T [] (new_clause v r)

-- with a new variable for the solvable s
abbrev pub with_new : Tables → ℕ → ℕ → Tables
with_new T s r = with_clause T (new_variable (length T.variables) s ∷ []) (new_clause (length T.variables) r)
