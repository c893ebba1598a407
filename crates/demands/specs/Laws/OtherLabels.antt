-- Graphs that differ in clauses' numbers alone have the same labels.
use Rattle.std.specs.Prelude.{◌≡◌, refl, Bool, length, replicate}
use Rattle.std.proofs.Common.{sym, ◌∙◌}
use Rattle.std.proofs.Math.Path.{ap, fun_ext}
use Rattle.std.proofs.Math.Bool.{cond}
use mathlib.Core.List.{List, [], ◌∷◌, map, reverse}
use Prim.Native.Nat.{ℕ}
use Rattle.store.specs.declared.Edge.{Edge}
use Rattle.store.specs.Graph.{Graph, out, into}
use Rattle.labels.specs.Order.{postorder}
use Rattle.labels.specs.Labels.{targets, order_of, conflicts, excludes, can_install, is_lacking, passing, installables, has_unresolved, missings}
use Rattle.demands.specs.Other.{renoted, other}
use Rattle.demands.specs.Laws.OtherEdges.{map_reversed, some, mapped, runs_same, out_same, into_same}

module _ (f : Edge → ℕ) (fs : List ℕ) (h : ℕ) (G : Graph) where
  abbrev H : Graph
  H = other f fs h G

  targets_same : (n : ℕ) → targets H n ≡ targets G n
  unfolding targets
  targets_same n =
      ap (λ (l : List Edge). map (λ e. e.target) (reverse l)) (out_same f fs h G n)
      ∙ ap (map (λ e. e.target)) (sym (map_reversed (renoted f) (out G n)))
      ∙ mapped f (λ e. e.target) (λ e. refl) (reverse (out G n))

  order_same : order_of H ≡ order_of G
  unfolding order_of
  order_same = ap (λ (t : ℕ → List ℕ). postorder t (length G.nodes) (replicate 128 0)) (fun_ext targets_same)

  install_same : (p : ℕ → Bool) (n : ℕ) → can_install H p n ≡ can_install G p n
  unfolding can_install
  install_same p n =
      rw (into_same f fs h G n, out_same f fs h G n, some f excludes (λ e. refl) (into G n), some f conflicts (λ e. refl) (out G n), runs_same f (out G n))

  lacking_same : (p : ℕ → Bool) (n : ℕ) → is_lacking H p n ≡ is_lacking G p n
  unfolding is_lacking
  lacking_same p n = rw (out_same f fs h G n, some f conflicts (λ e. refl) (out G n), runs_same f (out G n))

  pub installables_ignore : installables H ≡ installables G
  unfolding installables
  installables_ignore =
      ap (λ (r : (ℕ → Bool) → ℕ → Bool). passing r (order_of H) []) (fun_ext (λ p. fun_ext (install_same p)))
      ∙ ap (λ (o : List ℕ). passing (can_install G) o []) order_same

  pub missings_ignore : missings H ≡ missings G
  unfolding missings
  missings_ignore =
      ap (λ (l : List ℕ). cond (has_unresolved G) l [])
      (ap (λ (r : (ℕ → Bool) → ℕ → Bool). passing r (order_of H) (1 ∷ [])) (fun_ext (λ p. fun_ext (lacking_same p)))
      ∙ ap (λ (o : List ℕ). passing (is_lacking G) o (1 ∷ [])) order_same)
