-- What holds of every entry on the stack as long as 11 is not met.
use Rattle.std.specs.Prelude.{◌≡◌, refl, Bool, true, false, List, [], ◌∷◌, ℕ}
use Rattle.std.proofs.Common.{inl, inr}
use Rattle.basis.specs.Lists.{is_nil}
use Rattle.basis.specs.Members.{In, All, all_map, split, either, has_out}
use Rattle.machine.specs.Machine.{Plan, Op, requirement, candidate, Entry, entry, level, start, repeats, skipped, under, report}
use Rattle.machine.specs.Bound.{segment, leads, Good, Counted}

-- every element of l is in m
abbrev pub Sub : List ℕ → List ℕ → Type 0
Sub l m = (x : ℕ) → In x l → In x m

module _ {R : Type 0} where
  pub all_level : {A : Type 0} (Q : Entry R → Type 0) (f : A → Op R) (ms : List Bool) (b : List ℕ) (xs : List A)
      → ((x : A) (ns : List Bool) → In x xs → Q (entry (f x) ns b)) → All Q (level f ms b xs)
  all_level Q f ms b [] h = tt
  all_level Q f ms b (x ∷ xs) h = (h x (is_nil xs ∷ ms) (inl refl), all_level Q f ms b xs (λ y ns i. h y ns (inr i)))

module _ {R : Type 0} (P : Plan R) (G U : List ℕ) where
  abbrev pub Own : Op R → Type 0
  Own (requirement r) = Unit {0}
  Own (candidate n) = Counted P G U n

-- rep: what is reported. The branch is good and counted, its groups are reported, and a package is counted itself.
pub record Fits {R : Type 0} (P : Plan R) (G U rep : List ℕ) (e : Entry R) : Type 0 where
  pub good : Good P e.branch
  pub count : All (Counted P G U) e.branch
  pub known : Sub (leads P e.branch) rep
  pub own : Own P G U e.op

module _ {R : Type 0} (P : Plan R) where
  pub more : (n : ℕ) (rep : List ℕ) → Sub rep (report P n rep)
  more n rep x i = split (P.merged n) (λ q. rw q (inr i)) (λ q. rw q i)

  -- a package that is neither skipped nor refused may be opened
  pub good_open : (rep b : List ℕ) (n : ℕ) → Sub (leads P b) rep → skipped P rep n ≡ false → P.opens n ≡ true → repeats P b n ≡ false
      → Good P b → Good P (n ∷ b)
  good_open rep b n known sk op re g =
      (λ q i. has_out (P.lead n) rep (rw q at sk) (known (P.lead n) i), λ q i. has_out n (segment P b) (rw (q, op) at re) i, g)

  known_open : (rep b : List ℕ) (n : ℕ) → Sub (leads P b) rep → Sub (leads P (n ∷ b)) (report P n rep)
  known_open rep b n known x i =
      split (P.merged n) (λ q. rw q (either (rw q at i) (λ e. inl e) (λ j. inr (known x j)))) (λ q. rw q (known x (rw q at i)))

  module _ (G U : List ℕ) where
    abbrev pub AllFit : List ℕ → List (Entry R) → Type 0
    AllFit rep es = All (Fits P G U rep) es

    pub fits_more : (rep rep' : List ℕ) → Sub rep rep' → (es : List (Entry R)) → AllFit rep es → AllFit rep' es
    fits_more rep rep' s es =
        all_map (Fits P G U rep) (Fits P G U rep') es (λ e f. record { good = f.good; count = f.count; known = λ x i. s x (f.known x i); own = f.own })

    pub fits_start : (rs : List R) → AllFit [] (start rs).stack
    fits_start rs = all_level (Fits P G U []) requirement [] [] rs (λ x ns i. record { good = tt; count = tt; known = λ y j. j; own = tt })

    -- what a package pushes
    pub fits_under : (rep : List ℕ) (n : ℕ) (ms : List Bool) (b : List ℕ) → Fits P G U rep (entry (candidate n) ms b)
        → skipped P rep n ≡ false → repeats P b n ≡ false → AllFit (report P n rep) (under P ms b n)
    fits_under rep n ms b f sk re =
        split (P.opens n)
        (λ q. rw q (all_level (Fits P G U (report P n rep)) requirement ms (n ∷ b) (P.runs n)
        (λ r ns i. record {
          good = good_open rep b n f.known sk q re f.good;
          count = (f.own, f.count);
          known = known_open rep b n f.known;
          own = tt;
        })))
        (λ q. rw q tt)

    -- what a requirement pushes, if the plan's kids are counted
    pub fits_kids : ((r : R) (n : ℕ) → In n (P.kids r) → Counted P G U n) → (rep : List ℕ) (r : R) (ms : List Bool) (b : List ℕ)
        → Fits P G U rep (entry (requirement r) ms b) → AllFit rep (level candidate ms b (P.kids r))
    fits_kids counted rep r ms b f =
        all_level (Fits P G U rep) candidate ms b (P.kids r) (λ n ns i. record { good = f.good; count = f.count; known = f.known; own = counted r n i })
