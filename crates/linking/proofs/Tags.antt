-- What the other way of a `let .. else` tells: the value is of none of the variants that the pattern takes.
use mathlib.Core.Path.{◌≡◌, refl}
use mathlib.Core.List.{List, [], ◌∷◌}
use mathlib.Core.Logic.{◌⊎◌, inl, inr}
use Prim.Native.Nat.{ℕ}
use native.Mathlib.Omega.{arith}
use Rattle.std.specs.declared.option.Option.TheVariants.{None}
use types.Run.{OneOf}
use denote.Enum.Declared.{tag_of}
use Rattle.records.specs.declared.Origin.{Origin}
use Rattle.records.specs.declared.Origin.TheVariants as O
use Rattle.records.specs.declared.Clause.{Clause}
use Rattle.records.specs.declared.Clause.TheVariants as C
use Rattle.records.specs.Tables.{Tables}
use Rattle.records.specs.contracts.Origin as Origins
use Rattle.records.specs.contracts.Clause as Clauses
use Rattle.linking.specs.Links.{solvable_in, name_forbidden, any_of_in, parent_in, excluded_in}

-- a number is none of those that it should be one of
five : {X : Type 0} (n a b c d e : ℕ) → ((n ≡ a) → ⊥) → ((n ≡ b) → ⊥) → ((n ≡ c) → ⊥) → ((n ≡ d) → ⊥) → ((n ≡ e) → ⊥) → OneOf (a ∷ b ∷ c ∷ d ∷ e ∷ []) n → X
five n a b c d e f g h i j (inl z) = absurd (f z)
five n a b c d e f g h i j (inr (inl z)) = absurd (g z)
five n a b c d e f g h i j (inr (inr (inl z))) = absurd (h z)
five n a b c d e f g h i j (inr (inr (inr (inl z)))) = absurd (i z)
five n a b c d e f g h i j (inr (inr (inr (inr z)))) = absurd (j z)

pub not_solvable : (o : Origin) → OneOf (0 ∷ 2 ∷ 3 ∷ 4 ∷ 5 ∷ []) (tag_of Origins.the_type o) → solvable_in o ≡ []
not_solvable O.Root h = refl
not_solvable (O.Solvable s) h = five 1 0 2 3 4 5 (λ z. omega arith) (λ z. omega arith) (λ z. omega arith) (λ z. omega arith) (λ z. omega arith) h
not_solvable (O.ForbidMultiple n) h = refl
not_solvable O.RequiresGate h = refl
not_solvable O.ConstrainsAuxiliary h = refl
not_solvable O.Other h = refl

pub not_forbid : (o : Origin) → OneOf (0 ∷ 1 ∷ 3 ∷ 4 ∷ 5 ∷ []) (tag_of Origins.the_type o) → name_forbidden o ≡ []
not_forbid O.Root h = refl
not_forbid (O.Solvable s) h = refl
not_forbid (O.ForbidMultiple n) h = five 2 0 1 3 4 5 (λ z. omega arith) (λ z. omega arith) (λ z. omega arith) (λ z. omega arith) (λ z. omega arith) h
not_forbid O.RequiresGate h = refl
not_forbid O.ConstrainsAuxiliary h = refl
not_forbid O.Other h = refl

nine : {X : Type 0} (n a b c d e f g h i : ℕ) → OneOf (a ∷ b ∷ c ∷ d ∷ e ∷ f ∷ g ∷ h ∷ i ∷ []) n → ((n ≡ a) → ⊥) → ((n ≡ b) → ⊥) → ((n ≡ c) → ⊥) → ((n ≡ d) → ⊥)
    → ((n ≡ e) → ⊥) → ((n ≡ f) → ⊥) → ((n ≡ g) → ⊥) → ((n ≡ h) → ⊥) → ((n ≡ i) → ⊥) → X
nine n a b c d e f g h i (inl z) p0 p1 p2 p3 p4 p5 p6 p7 p8 = absurd (p0 z)
nine n a b c d e f g h i (inr (inl z)) p0 p1 p2 p3 p4 p5 p6 p7 p8 = absurd (p1 z)
nine n a b c d e f g h i (inr (inr (inl z))) p0 p1 p2 p3 p4 p5 p6 p7 p8 = absurd (p2 z)
nine n a b c d e f g h i (inr (inr (inr (inl z)))) p0 p1 p2 p3 p4 p5 p6 p7 p8 = absurd (p3 z)
nine n a b c d e f g h i (inr (inr (inr (inr (inl z))))) p0 p1 p2 p3 p4 p5 p6 p7 p8 = absurd (p4 z)
nine n a b c d e f g h i (inr (inr (inr (inr (inr (inl z)))))) p0 p1 p2 p3 p4 p5 p6 p7 p8 = absurd (p5 z)
nine n a b c d e f g h i (inr (inr (inr (inr (inr (inr (inl z))))))) p0 p1 p2 p3 p4 p5 p6 p7 p8 = absurd (p6 z)
nine n a b c d e f g h i (inr (inr (inr (inr (inr (inr (inr (inl z)))))))) p0 p1 p2 p3 p4 p5 p6 p7 p8 = absurd (p7 z)
nine n a b c d e f g h i (inr (inr (inr (inr (inr (inr (inr (inr z)))))))) p0 p1 p2 p3 p4 p5 p6 p7 p8 = absurd (p8 z)

pub not_any_of : (T : Tables) (c : Clause) → OneOf (0 ∷ 1 ∷ 2 ∷ 3 ∷ 4 ∷ 5 ∷ 6 ∷ 7 ∷ 8 ∷ []) (tag_of Clauses.the_type c) → any_of_in T c ≡ None
not_any_of T C.InstallRoot h = refl
not_any_of T (C.Excluded a b) h = refl
not_any_of T C.Learnt h = refl
not_any_of T (C.Requires a b) h = refl
not_any_of T (C.Lock a b) h = refl
not_any_of T (C.ForbidMultipleInstances a b) h = refl
not_any_of T (C.Constrains a b v) h = refl
not_any_of T (C.ConstrainsParent a b v) h = refl
not_any_of T (C.ConstrainsExcluded a b v) h = refl
not_any_of T (C.AnyOf a b) h =
    nine 9 0 1 2 3 4 5 6 7 8 h (λ z. omega arith) (λ z. omega arith) (λ z. omega arith) (λ z. omega arith) (λ z. omega arith) (λ z. omega arith) (λ z.
    omega arith) (λ z. omega arith) (λ z. omega arith)

pub not_parent : (T : Tables) (c : Clause) → OneOf (0 ∷ 1 ∷ 2 ∷ 3 ∷ 4 ∷ 5 ∷ 6 ∷ 8 ∷ 9 ∷ []) (tag_of Clauses.the_type c) → parent_in T c ≡ None
not_parent T C.InstallRoot h = refl
not_parent T (C.Excluded a b) h = refl
not_parent T C.Learnt h = refl
not_parent T (C.Requires a b) h = refl
not_parent T (C.Lock a b) h = refl
not_parent T (C.ForbidMultipleInstances a b) h = refl
not_parent T (C.Constrains a b v) h = refl
not_parent T (C.ConstrainsParent a b v) h =
    nine 7 0 1 2 3 4 5 6 8 9 h (λ z. omega arith) (λ z. omega arith) (λ z. omega arith) (λ z. omega arith) (λ z. omega arith) (λ z. omega arith) (λ z.
    omega arith) (λ z. omega arith) (λ z. omega arith)
not_parent T (C.ConstrainsExcluded a b v) h = refl
not_parent T (C.AnyOf a b) h = refl

pub not_excluded : (T : Tables) (c : Clause) → OneOf (0 ∷ 1 ∷ 2 ∷ 3 ∷ 4 ∷ 5 ∷ 6 ∷ 7 ∷ 9 ∷ []) (tag_of Clauses.the_type c) → excluded_in T c ≡ None
not_excluded T C.InstallRoot h = refl
not_excluded T (C.Excluded a b) h = refl
not_excluded T C.Learnt h = refl
not_excluded T (C.Requires a b) h = refl
not_excluded T (C.Lock a b) h = refl
not_excluded T (C.ForbidMultipleInstances a b) h = refl
not_excluded T (C.Constrains a b v) h = refl
not_excluded T (C.ConstrainsParent a b v) h = refl
not_excluded T (C.ConstrainsExcluded a b v) h =
    nine 8 0 1 2 3 4 5 6 7 9 h (λ z. omega arith) (λ z. omega arith) (λ z. omega arith) (λ z. omega arith) (λ z. omega arith) (λ z. omega arith) (λ z.
    omega arith) (λ z. omega arith) (λ z. omega arith)
not_excluded T (C.AnyOf a b) h = refl
