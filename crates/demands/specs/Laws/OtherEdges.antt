-- What is read off edges without their clauses is the same where only the clauses differ.
use Rattle.std.specs.Prelude.{◌≡◌, refl, Bool, true, false, ℕ}
use Rattle.std.proofs.Common.{sym, ◌∙◌}
use Rattle.std.proofs.Math.Path.{ap}
use mathlib.Core.List.{List, [], ◌∷◌, map, reverse_aux, reverse}
use Rattle.std.proofs.Math.Dec.{eqb}
use Rattle.basis.specs.Lists.{any, filter}
use Rattle.basis.specs.Members.{split}
use Rattle.store.specs.declared.ConflictEdge.{ConflictEdge}
use Rattle.store.specs.declared.ConflictEdge.TheVariants as W
use Rattle.store.specs.declared.Edge.{Edge}
use Rattle.store.specs.Graph.{Graph, out, into}
use Rattle.labels.specs.Runs.{Run, add_to, runs_of}
use Rattle.demands.specs.Other.{renoted, other}

pub map_reversed : (k : Edge → Edge) (l : List Edge) → map k (reverse l) ≡ reverse (map k l)
map_reversed k l = onto l []
  where
    onto : (l r : List Edge) → map k (reverse_aux l r) ≡ reverse_aux (map k l) (map k r)
    onto [] r = refl
    onto (x ∷ l) r = onto l (x ∷ r)

module _ (f : Edge → ℕ) where
  pub kept : (p : Edge → Bool) → ((e : Edge) → p (renoted f e) ≡ p e) → (es : List Edge) → filter p (map (renoted f) es) ≡ map (renoted f) (filter p es)
  kept p q [] = refl
  kept p q (e ∷ es) =
      split (p e)
      (λ t. let u : p (renoted f e) ≡ true = q e ∙ t in rw (t, u, filter) (ap (λ (l : List Edge). renoted f e ∷ l) (kept p q es)))
      (λ t. let u : p (renoted f e) ≡ false = q e ∙ t in rw (t, u, filter) (kept p q es))

  pub some : (p : Edge → Bool) → ((e : Edge) → p (renoted f e) ≡ p e) → (es : List Edge) → any p (map (renoted f) es) ≡ any p es
  some p q [] = refl
  some p q (e ∷ es) =
      split (p e)
      (λ t. let u : p (renoted f e) ≡ true = q e ∙ t in rw (t, u, any))
      (λ t. let u : p (renoted f e) ≡ false = q e ∙ t in rw (t, u, any) (some p q es))

  pub mapped : {A : Type 0} (k : Edge → A) → ((e : Edge) → k (renoted f e) ≡ k e) → (es : List Edge) → map k (map (renoted f) es) ≡ map k es
  mapped k q [] = refl
  mapped k q (e ∷ es) = rw (q e, mapped k q es)

  pub runs_same : (es : List Edge) → runs_of (map (renoted f) es) ≡ runs_of es
  runs_same [] = refl
  runs_same (e ∷ es) = go e.weight (runs_same es)
    where
      added : List Run → ConflictEdge → List Run
      added rs w = elim w [ W.Requires q ↦ add_to q e.target rs | W.Conflict c ↦ rs ]

      go : (w : ConflictEdge) → runs_of (map (renoted f) es) ≡ runs_of es → added (runs_of (map (renoted f) es)) w ≡ added (runs_of es) w
      go (W.Requires q) z = ap (add_to q e.target) z
      go (W.Conflict c) z = z

module _ (f : Edge → ℕ) (fs : List ℕ) (h : ℕ) (G : Graph) where
  pub out_same : (n : ℕ) → out (other f fs h G) n ≡ map (renoted f) (out G n)
  unfolding out
  out_same n =
      ap (filter (λ e. eqb e.source n)) (sym (map_reversed (renoted f) G.edges)) ∙ kept f (λ e. eqb e.source n) (λ e. refl) (reverse G.edges)

  pub into_same : (n : ℕ) → into (other f fs h G) n ≡ map (renoted f) (into G n)
  unfolding into
  into_same n =
      ap (filter (λ e. eqb e.target n)) (sym (map_reversed (renoted f) G.edges)) ∙ kept f (λ e. eqb e.target n) (λ e. refl) (reverse G.edges)
