-- Post-order from node 0, over any list of targets for each node.
use Rattle.std.specs.Prelude.{Bool, true, false, List, [], ◌∷◌, ◌++◌, ℕ, zero, suc, get_or, set, eqb}
use Rattle.basis.specs.Lists.{snoc}

-- how `visit` stands: `marks` has one number a node, 0 until it is come to; `left` are the nodes that were left, the first first
pub record Walk : Type 0 where
  pub marks : List ℕ
  pub left : List ℕ

-- node n is come to, in `visit`
abbrev pub mark : ℕ → Walk → Walk
mark n w = record { marks = set w.marks n 1; left = w.left }

-- node n is left, in `visit`
abbrev pub leave : ℕ → Walk → Walk
leave n w = record { marks = w.marks; left = snoc w.left n }

-- `Iterator::fold`: one node after another
unfoldable pub through : (ℕ → Walk → Walk) → List ℕ → Walk → Walk
through f [] w = w
through f (n ∷ ns) w = through f ns (f n w)

-- conflict.rs, petgraph's `DfsPostOrder`: a node is left when all its targets are, each visited once. The first number is at
-- least as large as the depth that can still come: the number of nodes is enough.
unfoldable pub visit : ℕ → (ℕ → List ℕ) → ℕ → Walk → Walk
unfolding through
visit zero to n w = w
visit (suc f) to n w =
    elim (eqb (get_or w.marks n 0) 0) [ true ↦ leave n (through (λ m u. visit f to m u) (to n) (mark n w)) | false ↦ w ]

-- N nodes, with marks for as many: "post-order from the root"
unfoldable pub postorder : (ℕ → List ℕ) → ℕ → List ℕ → List ℕ
unfolding visit
postorder to N marks = (visit N to 0 (record { marks = marks; left = [] })).left
