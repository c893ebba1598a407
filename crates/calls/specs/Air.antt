-- What `urzulempa_explain_air` answers and leaves in the room, for every file, option and room (document 02, order 9).
use Rattle.std.specs.Prelude.{◌≡◌, cond, List, ℕ, leb}
use Rattle.records.specs.Tables.{Tables}
use Rattle.records.specs.Read.{Reading, good, bad, read_of}
use Rattle.graph.specs.Graphs.{Outcome, drawn, refused, graph_of}
use Rattle.air.specs.declared.Profile.{Profile}
use Rattle.air.specs.declared.Profile.TheVariants.{Passed, Refused}
use Rattle.air.specs.Profile.{profile_of}
use Rattle.calls.specs.declared.Answer.{Answer}
use Rattle.calls.specs.Answers.{refusal_of}
use Rattle.calls.specs.Says.{Says}

-- ---- which of 15, 16 and 17 is given: "tested in that order after 9". Passed where none is, or where 12 or one of 1 to 9 comes first

-- "tested in that order after 9": 7 to 9 come first
abbrev pub air_built : Tables → Outcome → Profile
air_built T (refused k p) = Passed
air_built T (drawn G) = profile_of T G

-- "12, 1 to 9 as ever, then 15": 1 to 6 come first
abbrev pub air_read : Reading → Profile
air_read (bad k p) = Passed
air_read (good T) = air_built T (graph_of T)

-- "12, 1 to 9 as ever, then 15": 12 comes first
unfoldable pub air_of : List ℕ → ℕ → Profile
unfolding read_of graph_of profile_of
air_of file opt = cond (leb opt 1) (air_read (read_of file)) Passed

-- ---- "Everything else answers as in document 01": a refusal of the profile, which writes nothing, or the explanation by edition 1

-- "Everything else answers as in document 01."; 15 to 17 write nothing
abbrev pub SaysBy : Profile → List ℕ → ℕ → List ℕ → List ℕ → Answer → Type 0
SaysBy Passed file opt out left r = Says 1 file opt out left r
SaysBy (Refused k p) file opt out left r = (r ≡ refusal_of k p) × (left ≡ out)

-- what the call says: `SaysBy` what the profile is
pub record SaysAir (file : List ℕ) (opt : ℕ) (out left : List ℕ) (r : Answer) : Type 0 where
  pub says : SaysBy (air_of file opt) file opt out left r
