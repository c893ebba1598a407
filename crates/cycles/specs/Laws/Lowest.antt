-- What the lowest node on a cycle means, by paths: an answer that is 0, or one more than the lowest node that leads back to itself.
use Rattle.std.specs.Prelude.{◌≡◌, refl, Option, Some, None, ◌⊎◌, Bool, true, false, List, ℕ, zero, suc, ◌+◌, ◌<◌, ltb}
use Rattle.std.proofs.Common.{sym, ◌∙◌, inl, inr, arith, ltb-true, ltb-false}
use Rattle.basis.specs.Members.{split, either}
use Rattle.labels.specs.Ordered.{Leads, Acyclic}

-- an answer that there may be, as this number
abbrev pub one_more : Option ℕ → ℕ
one_more None = 0
one_more (Some n) = n + 1

pub record Lowest (to : ℕ → List ℕ) (r : ℕ) : Type 0 where
  pub free : r ≡ 0 → Acyclic to
  pub on : (n : ℕ) → r ≡ n + 1 → Leads to n n
  pub least : (n : ℕ) → r ≡ n + 1 → (m : ℕ) → m < n → Leads to m m → ⊥

module _ (to : ℕ → List ℕ) where
  pred : (r : ℕ) → (r ≡ 0) ⊎ ((n : ℕ) × (r ≡ n + 1))
  pred zero = inl refl
  pred (suc n) = inr (n, omega arith)

  -- none exactly if there is no cycle
  pub none_free : (r : ℕ) → Lowest to r → Acyclic to → r ≡ 0
  none_free r L h = either (pred r) (λ z. z) (λ p. absurd (h p.0 (L.on p.0 p.1)))

  -- n exactly if it is on a cycle and no lower one is
  pub some_lowest : (r n : ℕ) → Lowest to r → Leads to n n → ((m : ℕ) → m < n → Leads to m m → ⊥) → r ≡ n + 1
  some_lowest r n L l h = either (pred r) (λ z. absurd (L.free z n l)) (λ p. same p.0 p.1)
    where
      same : (k : ℕ) → r ≡ k + 1 → r ≡ n + 1
      same k q =
          split (ltb k n)
          (λ t. absurd (h k (ltb-true k n t) (L.on k q)))
          (λ t. split (ltb n k)
          (λ u. absurd (L.least k q n (ltb-true n k u) l))
          (λ u. omega (arith, ltb-false k n t, ltb-false n k u)))

  -- one answer
  pub lowest_unique : (r q : ℕ) → Lowest to r → Lowest to q → r ≡ q
  lowest_unique r q L M =
      either (pred q)
      (λ z. none_free r L (M.free z) ∙ sym z)
      (λ p. some_lowest r p.0 L (M.on p.0 p.1) (M.least p.0 p.1) ∙ sym p.1)
