-- What the reader's call answers and leaves in the lent lists.
use Rattle.std.specs.Prelude.{◌≡◌, refl, true, List, ℕ, ◌+◌, ◌*◌, ◌≤◌, ◌<◌, length, leb}
use Rattle.std.specs.Prelude.{Result, Ok, Err}
use Rattle.std.proofs.Common.{sym, ap, ◌∙◌, arith}
use Rattle.std.proofs.lemmas.List.Edits.{sets}
use borrow.Author.Tests.{le-leb, lt-leb}
use Rattle.basis.specs.Guard.{guard}
use Rattle.basis.specs.Members.{clash}
use Rattle.tgf.specs.declared.Seen.{Seen}
use Rattle.tgf.specs.Lines.{WallEdge}
use Rattle.tgf.specs.Read.{WallText, good, bad}
use Rattle.tgf.specs.Lent.{is_good, labels_in, edges_read, edge_spots, tgf_by, refused, tgf_counts}
use Rattle.tgf.specs.Steps.{seen_of}

-- ---- the ways through the code; s is what the counting pass saw

seen_bad : (o : WallText) (n : ℕ) → Err n ≡ seen_of 0 0 o → o ≡ bad n
seen_bad (good ns es) n q = clash (cc)
seen_bad (bad m) n q = cc

seen_is : (o : WallText) (s : Seen) → Ok s ≡ seen_of 0 0 o → (is_good o ≡ true) × (length (labels_in o) ≡ s.nodes) × (length (edges_read o) ≡ s.edges)
seen_is (good ns es) s q =
    let e : s ≡ record { nodes = 0 + length ns; edges = 0 + length es } = cc in
    (refl, omega (arith, ap (λ (x : Seen). x.nodes) e), omega (arith, ap (λ (x : Seen). x.edges) e))
seen_is (bad n) s q = clash (cc)

module _ (o : WallText) (r : Result Seen ℕ) (s : Seen) (q : r ≡ seen_of 0 0 o) (t : r ≡ Ok s) where
  pub seen_good : is_good o ≡ true
  seen_good = (seen_is o s (sym t ∙ q)).0

  pub seen_nodes : length (labels_in o) ≡ s.nodes
  seen_nodes = (seen_is o s (sym t ∙ q)).1

  pub seen_edges : length (edges_read o) ≡ s.edges
  seen_edges = (seen_is o s (sym t ∙ q)).2

good_by : {X : Type 0} (o : WallText) (a b : ℕ) (worse : ℕ → X) (short done : X) → is_good o ≡ true
    → tgf_by o a b worse short done ≡ guard (leb (2 * length (labels_in o)) a) short (guard (leb (4 * length (edges_read o)) b) short done)
unfolding tgf_by
good_by (good ns es) a b worse short done h = refl
good_by (bad n) a b worse short done h = clash (cc)

module _ {X : Type 0} (o : WallText) (a b : ℕ) (worse : ℕ → X) (short done y : X) (r : Result Seen ℕ) where
  pub by_bad : (n : ℕ) → r ≡ Err n → r ≡ seen_of 0 0 o → y ≡ worse n → y ≡ tgf_by o a b worse short done
  unfolding tgf_by
  by_bad n t q e = rw (seen_bad o n (sym t ∙ q)) e

  module _ (s : Seen) (t : r ≡ Ok s) (q : r ≡ seen_of 0 0 o) where
    pub by_nodes : a < 2 * s.nodes → y ≡ short → y ≡ tgf_by o a b worse short done
    unfolding guard
    by_nodes h e = rw (good_by o a b worse short done (seen_good o r s q t), seen_nodes o r s q t, lt-leb (2 * s.nodes) a h) e

    pub by_edges : 2 * s.nodes ≤ a → b < 4 * s.edges → y ≡ short → y ≡ tgf_by o a b worse short done
    unfolding guard
    by_edges l h e =
        rw (good_by o a b worse short done (seen_good o r s q t), seen_nodes o r s q t, seen_edges o r s q t, le-leb (2 * s.nodes) a l, lt-leb (4 * s.edges) b h) e

    pub by_done : 2 * s.nodes ≤ a → 4 * s.edges ≤ b → y ≡ done → y ≡ tgf_by o a b worse short done
    unfolding guard
    by_done l h e =
        rw (good_by o a b worse short done (seen_good o r s q t), seen_nodes o r s q t, seen_edges o r s q t, le-leb (2 * s.nodes) a l, le-leb (4 * s.edges) b h) e

pub counts_done : (o : WallText) (a b : ℕ) (r : Result Seen ℕ) (s : Seen) → r ≡ Ok s → r ≡ seen_of 0 0 o → 2 * s.nodes ≤ a → 4 * s.edges ≤ b
    → record { number = 0; place = 0; nodes = s.nodes; edges = s.edges } ≡ tgf_counts o a b
counts_done o a b r s t q l h = by_done o a b (refused 3) (refused 10 0) _ _ r s t q l h (rw (seen_nodes o r s q t, seen_edges o r s q t))

pub edges_via : (l e : List ℕ) (h end : ℕ) (es : List WallEdge) → h ≡ end → e ≡ sets l 0 (edge_spots (h + 2) es) → e ≡ sets l 0 (edge_spots (end + 2) es)
edges_via l e h end es q f = rw q at f
