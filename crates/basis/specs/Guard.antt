-- A chain of tests, each with the answer where it fails, and the laws by which each way through the code is found in it.
-- A law's premises stand in the shape that the code leaves: the test first, then what the tested value is.
use Rattle.std.specs.Prelude.{Bool, true, false}

-- on where the test passes, else the answer `bad`: refusals in their order, as in `change_by` and `tgf_by`
unfoldable pub guard : {X : Type 0} → Bool → X → X → X
guard true bad on = on
guard false bad on = bad
