-- What the crates above see of the tables: texts, origins, clauses, candidates, partners. Numbers past a table's end give
-- what `no_rec` holds.
use Rattle.std.specs.Prelude.{Bool, cond, ◌&&◌, List, map, ℕ, zero, suc, eqb}
use Rattle.std.proofs.Math.Option.{Option, none, some}
use Rattle.basis.specs.Lists.{filter, first}
use Rattle.records.specs.declared.Origin.{Origin}
use Rattle.records.specs.declared.Origin.TheVariants.{Root, Solvable, ForbidMultiple, RequiresGate, ConstrainsAuxiliary, Other}
use Rattle.records.specs.declared.Clause.{Clause}
use Rattle.records.specs.declared.Clause.TheVariants as C
use Rattle.records.specs.Shapes.{Rec}
use Rattle.records.specs.Tables.{Tables, at}
use Rattle.records.specs.Read.{rec_text}

-- ---- texts

-- "1 name, a own number, text"
abbrev pub name_text : Tables → ℕ → List ℕ
name_text T n = rec_text (at T.names n)

-- "2 solvable, a own, b name, text version"
abbrev pub solvable_name : Tables → ℕ → ℕ
solvable_name T s = (at T.solvables s).b

-- "2 solvable, a own, b name, text version"
abbrev pub version_text : Tables → ℕ → List ℕ
version_text T s = rec_text (at T.solvables s)

-- "3 version set, a own, b name, text"
abbrev pub set_name : Tables → ℕ → ℕ
set_name T v = (at T.version_sets v).b

-- "3 version set, a own, b name, text"
abbrev pub set_text : Tables → ℕ → List ℕ
set_text T v = rec_text (at T.version_sets v)

-- "4 requirement, a own, text"
abbrev pub requirement_text : Tables → ℕ → List ℕ
requirement_text T q = rec_text (at T.requirements q)

-- "6 reason, a own, text"
abbrev pub reason_text : Tables → ℕ → List ℕ
reason_text T r = rec_text (at T.reasons r)

-- ---- variables

-- "origin 0 root, 1 solvable, 2 forbid-multiple (a name), 3 requires gate, 4 constrains auxiliary, 5 other"
abbrev pub origin_by : ℕ → ℕ → Origin
origin_by zero c = Root
origin_by (suc zero) c = Solvable c
origin_by (suc (suc zero)) c = ForbidMultiple c
origin_by (suc (suc (suc zero))) c = RequiresGate
origin_by (suc (suc (suc (suc zero)))) c = ConstrainsAuxiliary
origin_by (suc (suc (suc (suc (suc o))))) c = Other

-- the origin of variable v: "7 variable, a own, b origin, c what it names"
unfoldable pub origin_of : Tables → ℕ → Origin
origin_of T v = origin_by (at T.variables v).b (at T.variables v).c

-- ---- clauses

-- "16 InstallRoot. 17 Excluded(a variable, b reason). 18 Learnt. 19 Requires(a, b requirement). 20 Lock(a locked, b forbidden). .."
-- a kind that is no clause's gives Learnt, which no table of clauses holds for it
unfoldable pub clause_in : Rec → Clause
clause_in r =
    cond (eqb r.kind 16) C.InstallRoot
    (cond (eqb r.kind 17) (C.Excluded r.a r.b)
    (cond (eqb r.kind 19) (C.Requires r.a r.b)
    (cond (eqb r.kind 20) (C.Lock r.a r.b)
    (cond (eqb r.kind 21) (C.ForbidMultipleInstances r.a r.b)
    (cond (eqb r.kind 22) (C.Constrains r.a r.b r.c)
    (cond (eqb r.kind 23) (C.ConstrainsParent r.a r.b r.c)
    (cond (eqb r.kind 24) (C.ConstrainsExcluded r.a r.b r.c)
    (cond (eqb r.kind 25) (C.AnyOf r.a r.b) C.Learnt))))))))

-- the clause with this number: "numbered from 0 in file order"
unfoldable pub clause_of : Tables → ℕ → Clause
unfolding clause_in
clause_of T i = clause_in (at T.clauses i)

-- "byte 1 = 1 if in the core, else 0"
abbrev pub in_core : Rec → Bool
in_core r = eqb r.first 1

-- clause i is in the core (`in_core`)
abbrev pub core_at : Tables → ℕ → Bool
core_at T i = in_core (at T.clauses i)

-- the clause that assigned a variable ("8 assigned-by"), by its number
unfoldable pub assigned_by : Tables → ℕ → Option ℕ
assigned_by T v = elim (first (λ g. eqb g.a v) T.assigned) [ none ↦ none | some g ↦ some g.b ]

-- the solvables that are candidates of a requirement, "in table order"
unfoldable pub candidates_of : Tables → ℕ → List ℕ
candidates_of T q = map (λ r. r.b) (filter (λ r. eqb r.a q) T.candidates)

-- ---- partners in the core, in file order

-- the b of "the core's AnyOf clauses whose a is the gate"
unfoldable pub gate_partners : Tables → ℕ → List ℕ
gate_partners T v = map (λ r. r.b) (filter (λ r. in_core r && (eqb r.kind 25 && eqb r.a v)) T.clauses)

-- the a of the core's clauses of kind 23 (parents) or 24 (candidates) whose b is the auxiliary (conflict.rs, lines 69 to 88)
unfoldable pub aux_partners : Tables → ℕ → ℕ → List ℕ
aux_partners T k v = map (λ r. r.a) (filter (λ r. in_core r && (eqb r.kind k && eqb r.b v)) T.clauses)
