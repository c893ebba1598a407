-- The lines of an entry as the code makes them, from the file's tables and the packed plan: the pieces of a line in their order.
use Rattle.std.specs.Prelude.{Bool, cond, List, [], ◌∷◌, ◌++◌, ℕ, ◌+◌, length, eqb}
use Rattle.basis.specs.Lists.{is_nil}
use Rattle.basis.specs.Quote.{utf8}
use Rattle.records.specs.Tables.{Tables}
use Rattle.records.specs.Views.{name_text, set_name, set_text, requirement_text, reason_text}
use Rattle.machine.specs.Machine.{Entry, requirement, candidate}
use Rattle.texts.specs.Indent.{indent, at_top}
use Rattle.plan.specs.Fields.{tag_in, reason_in, sets_in, requirement_in, wording_in}
use Rattle.plan.specs.Texts.{package_in}

-- ---- a requirement's line; w: 0 no candidates, 1 installable, else no viable options

-- what stands before the requirement
unfoldable pub run_lead : Bool → ℕ → List ℕ
run_lead top w = cond (eqb w 0) (cond top (utf8 "No candidates were found for ") []) []

-- what stands behind it
unfoldable pub run_tail : Bool → ℕ → List ℕ
run_tail top w =
    cond (eqb w 0) (cond top (utf8 ".\n") (utf8 ", for which no candidates were found.\n"))
    (cond (eqb w 1)
    (cond top (utf8 " can be installed with any of the following options:\n") (utf8 ", which can be installed with any of the following options:\n"))
    (cond top (utf8 " cannot be installed because there are no viable options:\n") (utf8 ", which cannot be installed because there are no viable options:\n")))

-- the bytes of both
unfoldable pub words_size : Bool → ℕ → ℕ
words_size top w = length (run_lead top w) + length (run_tail top w)

-- "Level 1 is the top level"
unfoldable pub run_said : Tables → Bool → List Bool → ℕ → ℕ → List ℕ
run_said T top ms w q = indent top ms ++ run_lead (at_top ms) w ++ requirement_text T q ++ run_tail (at_top ms) w

-- ---- a package's line

-- what stands behind the package, by its kind of line: 0 excluded, 1 bare, 2 conflicting, 3 constraining, else requiring
unfoldable pub package_tail : Tables → ℕ → ℕ → List ℕ
package_tail T t r =
    cond (eqb t 0) (utf8 " is excluded because " ++ reason_text T r ++ utf8 "\n")
    (cond (eqb t 1) (utf8 "\n")
    (cond (eqb t 2) (utf8 ", which conflicts with the versions reported above.\n")
    (cond (eqb t 3) (utf8 " would constrain\n") (utf8 " would require\n"))))

-- its bytes, but for a reason's own
unfoldable pub tail_size : ℕ → ℕ
tail_size t = cond (eqb t 0) 22 (cond (eqb t 1) 1 (cond (eqb t 2) 52 (cond (eqb t 3) 17 15)))

unfoldable pub package_said : Tables → List ℕ → Bool → List Bool → ℕ → List ℕ
package_said T p top ms n = indent top ms ++ package_in T p n ++ package_tail T (tag_in p n) (reason_in p n)

-- ---- the version sets under "would constrain"

unfoldable pub set_said : Tables → Bool → List Bool → ℕ → List ℕ
set_said T top ms v =
    indent top ms ++ name_text T (set_name T v) ++ utf8 " " ++ set_text T v ++ utf8 ", which conflicts with any installable versions previously reported\n"

unfoldable pub sets_said : Tables → Bool → List Bool → List ℕ → List (List ℕ)
sets_said T top ms [] = []
sets_said T top ms (v ∷ vs) = set_said T top (is_nil vs ∷ ms) v ∷ sets_said T top ms vs

unfoldable pub package_all : Tables → List ℕ → List ℕ → Bool → List Bool → ℕ → List (List ℕ)
package_all T p k top ms n = package_said T p top ms n ∷ cond (eqb (tag_in p n) 3) (sets_said T top ms (sets_in p k n)) []

-- all lines of an entry
unfoldable pub lines_in : Tables → List ℕ → List ℕ → Bool → Entry ℕ → List (List ℕ)
lines_in T p k top e =
    elim e.op [
      | requirement r ↦ run_said T top e.marks (wording_in p r) (requirement_in p r) ∷ []
      | candidate n ↦ package_all T p k top e.marks n
    ]
