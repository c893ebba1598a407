use Rattle.std.specs.Prelude.{◌≡◌, refl, ℕ, false}
use Rattle.records.specs.declared.Clause.{Clause}
use Rattle.records.specs.declared.Clause.TheVariants as C
use Rattle.air.specs.Profile.{is_lock}
use Rattle.air.proofs.is_lock.Goals as goal

other : (c : Clause) → ((a b : ℕ) → c ≡ C.Lock a b → ⊥) → false ≡ is_lock c
other C.InstallRoot h = refl
other (C.Excluded a b) h = refl
other C.Learnt h = refl
other (C.Requires a b) h = refl
other (C.Lock a b) h = absurd (h a b refl)
other (C.ForbidMultipleInstances a b) h = refl
other (C.Constrains a b d) h = refl
other (C.ConstrainsParent a b d) h = refl
other (C.ConstrainsExcluded a b d) h = refl
other (C.AnyOf a b) h = refl

pub returns-in-Lock : goal.returns-in-Lock
returns-in-Lock c = rw c.in-Lock.is refl

pub returns-in_default : goal.returns-in_default
returns-in_default c = other _ c.in_default.not-Lock
