-- What the steps of the reader answer, as the numbers of document 02.
use Rattle.std.specs.Prelude.{ℕ, zero, suc, Option, None, Some, Result, Ok, Err}
use Rattle.settings.specs.declared.Refusal.{Refusal}
use Rattle.settings.specs.declared.Refusal.TheVariants as R

-- a version of the table, where 0 says that none is meant
abbrev pub found : ℕ → Option ℕ
found zero = None
found (suc v) = Some (suc v)

-- "18 for an unknown version", "3 for shape or content"
abbrev pub refusal_number : Refusal → ℕ
refusal_number R.Version = 18
refusal_number R.Content = 3

-- 0 where a record is good
abbrev pub number_said : Result (Unit {0}) Refusal → ℕ
number_said (Ok u) = 0
number_said (Err e) = refusal_number e
