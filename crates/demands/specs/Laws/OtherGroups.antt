-- "merging ignores the new number, so groups stay as they are": graphs that differ in clauses' numbers alone have the same groups.
use Rattle.std.specs.Prelude.{◌≡◌, refl, Bool, ◌&&◌, length}
use Rattle.std.proofs.Math.Path.{ap, fun_ext}
use Rattle.std.proofs.Common.{◌∙◌}
use mathlib.Core.List.{List, map}
use Rattle.std.proofs.Math.Option.{Option}
use Prim.Native.Nat.{ℕ}
use Rattle.std.proofs.Math.Dec.{eqb}
use Rattle.basis.specs.Lists.{filter, upto}
use Rattle.store.specs.declared.Edge.{Edge}
use Rattle.store.specs.Graph.{Graph, out, into, try_requires}
use Rattle.groups.specs.Groups.{out_keys, in_keys, merges_by, mates_by, title_of, lead_by, merged_by, mates, lead_of, merged, groups}
use Rattle.demands.specs.Other.{other}
use Rattle.demands.specs.Laws.OtherEdges.{mapped, out_same, into_same}

module _ (f : Edge → ℕ) (fs : List ℕ) (h : ℕ) (G : Graph) where
  abbrev H : Graph
  H = other f fs h G

  abbrev out_key : Edge → Option ℕ × ℕ
  out_key e = (try_requires e.weight, e.target)

  abbrev in_key : Edge → Option ℕ × ℕ
  in_key e = (try_requires e.weight, e.source)

  out_keys_lem : (n : ℕ) → out_keys H n ≡ out_keys G n
  unfolding out_keys
  out_keys_lem n = ap (map out_key) (out_same f fs h G n) ∙ mapped f out_key (λ e. refl) (out G n)

  in_keys_lem : (n : ℕ) → in_keys H n ≡ in_keys G n
  unfolding in_keys
  in_keys_lem n = ap (map in_key) (into_same f fs h G n) ∙ mapped f in_key (λ e. refl) (into G n)

  merges_same : (title : ℕ → List ℕ) (m n : ℕ) → merges_by title H m n ≡ merges_by title G m n
  unfolding merges_by
  merges_same title m n = rw (out_keys_lem m, out_keys_lem n, in_keys_lem m, in_keys_lem n)

  mates_same : (title : ℕ → List ℕ) (n : ℕ) → mates_by title H n ≡ mates_by title G n
  unfolding mates_by
  mates_same title n = ap (λ (p : ℕ → Bool). filter p (upto (length G.nodes) 0)) (fun_ext (λ m. merges_same title m n))

  pub lead_ignores : (name : ℕ → List ℕ) (n : ℕ) → lead_of name H n ≡ lead_of name G n
  unfolding lead_of lead_by
  lead_ignores name n = rw (mates_same (title_of name G) n)

  pub merged_ignores : (name : ℕ → List ℕ) (n : ℕ) → merged name H n ≡ merged name G n
  unfolding merged merged_by
  merged_ignores name n = rw (mates_same (title_of name G) n)

  pub mates_ignores : (name : ℕ → List ℕ) (n : ℕ) → mates name H n ≡ mates name G n
  unfolding mates
  mates_ignores name n = mates_same (title_of name G) n

  pub groups_ignore : (name : ℕ → List ℕ) → groups name H ≡ groups name G
  unfolding groups
  groups_ignore name =
      ap (λ (k : ℕ → List ℕ). map k (filter (λ n. merged name H n && eqb (lead_of name H n) n) (upto (length G.nodes) 0))) (fun_ext (mates_ignores name))
      ∙ ap (λ (k : ℕ → Bool). map (mates name G) (filter (λ n. k n && eqb (lead_of name H n) n) (upto (length G.nodes) 0))) (fun_ext (merged_ignores name))
      ∙ ap (λ (k : ℕ → ℕ). map (mates name G) (filter (λ n. merged name G n && eqb (k n) n) (upto (length G.nodes) 0))) (fun_ext (lead_ignores name))
