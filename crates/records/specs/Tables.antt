-- The tables of a file: each is the list of its records, in file order.
use Rattle.std.specs.Prelude.{List, [], ℕ, length, get_or}
use Rattle.basis.specs.Lists.{snoc}
use Rattle.records.specs.declared.Table.{Table}
use Rattle.records.specs.declared.Table.TheVariants.{Names, Solvables, VersionSets, Requirements, Candidates, Reasons, Variables, Assigned, Clauses}
use Rattle.records.specs.declared.Counts.{Counts}
use Rattle.records.specs.Shapes.{Rec}

-- "Tables (limit)": the records of each, in file order; "Clauses, 1,024 in all, numbered from 0 in file order"
pub record Tables : Type 0 where
  pub names : List Rec
  pub solvables : List Rec
  pub version_sets : List Rec
  pub requirements : List Rec
  pub candidates : List Rec
  pub reasons : List Rec
  pub variables : List Rec
  pub assigned : List Rec
  pub clauses : List Rec

-- what `read_of` begins with
abbrev pub no_tables : Tables
no_tables = record { names = []; solvables = []; version_sets = []; requirements = []; candidates = []; reasons = []; variables = []; assigned = []; clauses = [] }

-- one of the `Tables`
abbrev pub table_of : Table → Tables → List Rec
table_of Names T = T.names
table_of Solvables T = T.solvables
table_of VersionSets T = T.version_sets
table_of Requirements T = T.requirements
table_of Candidates T = T.candidates
table_of Reasons T = T.reasons
table_of Variables T = T.variables
table_of Assigned T = T.assigned
table_of Clauses T = T.clauses

-- one record more in its table: `Vec::push`
abbrev pub put : Table → Rec → Tables → Tables
put Names r T = record { names = snoc T.names r; solvables = T.solvables; version_sets = T.version_sets; requirements = T.requirements; candidates = T.candidates; reasons = T.reasons; variables = T.variables; assigned = T.assigned; clauses = T.clauses }
put Solvables r T = record { names = T.names; solvables = snoc T.solvables r; version_sets = T.version_sets; requirements = T.requirements; candidates = T.candidates; reasons = T.reasons; variables = T.variables; assigned = T.assigned; clauses = T.clauses }
put VersionSets r T = record { names = T.names; solvables = T.solvables; version_sets = snoc T.version_sets r; requirements = T.requirements; candidates = T.candidates; reasons = T.reasons; variables = T.variables; assigned = T.assigned; clauses = T.clauses }
put Requirements r T = record { names = T.names; solvables = T.solvables; version_sets = T.version_sets; requirements = snoc T.requirements r; candidates = T.candidates; reasons = T.reasons; variables = T.variables; assigned = T.assigned; clauses = T.clauses }
put Candidates r T = record { names = T.names; solvables = T.solvables; version_sets = T.version_sets; requirements = T.requirements; candidates = snoc T.candidates r; reasons = T.reasons; variables = T.variables; assigned = T.assigned; clauses = T.clauses }
put Reasons r T = record { names = T.names; solvables = T.solvables; version_sets = T.version_sets; requirements = T.requirements; candidates = T.candidates; reasons = snoc T.reasons r; variables = T.variables; assigned = T.assigned; clauses = T.clauses }
put Variables r T = record { names = T.names; solvables = T.solvables; version_sets = T.version_sets; requirements = T.requirements; candidates = T.candidates; reasons = T.reasons; variables = snoc T.variables r; assigned = T.assigned; clauses = T.clauses }
put Assigned r T = record { names = T.names; solvables = T.solvables; version_sets = T.version_sets; requirements = T.requirements; candidates = T.candidates; reasons = T.reasons; variables = T.variables; assigned = snoc T.assigned r; clauses = T.clauses }
put Clauses r T = record { names = T.names; solvables = T.solvables; version_sets = T.version_sets; requirements = T.requirements; candidates = T.candidates; reasons = T.reasons; variables = T.variables; assigned = T.assigned; clauses = snoc T.clauses r }

abbrev pub counts_of : Tables → Counts
counts_of T = record {
  names = length T.names;
  solvables = length T.solvables;
  sets = length T.version_sets;
  requirements = length T.requirements;
  candidates = length T.candidates;
  reasons = length T.reasons;
  variables = length T.variables;
  assigned = length T.assigned;
  clauses = length T.clauses;
}

-- what `at` gives past the end of a table
abbrev pub no_rec : Rec
no_rec = record { kind = 0; first = 0; a = 0; b = 0; c = 0; text = [] }

-- record i of a table: "Own numbers, and records as places, count up from 0."
abbrev pub at : List Rec → ℕ → Rec
at rs i = get_or rs i no_rec
