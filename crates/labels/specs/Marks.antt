-- The labels as marks in a table, one a node: 1 for installable and 2 for missing. One pass along the post-order gives both.
use Rattle.std.specs.Prelude.{◌≡◌, Bool, ◌||◌, ℕ, zero, suc, ◌+◌, ◌%◌, ◌<◌, get_or, set, eqb, ltb}
use Rattle.std.proofs.Common.{ap, ◌∙◌, not-suc-le-zero, arith}
use Rattle.std.proofs.Math.Bool.{true, false}
use mathlib.Core.List.{List, [], ◌∷◌, map}
use Rattle.basis.specs.Lists.{upto}
use Rattle.store.specs.Graph.{Graph}
use Rattle.labels.specs.Labels.{can_install, is_lacking, installable, missing}

-- a node's two labels as a number
abbrev pub bits_of : Bool → Bool → ℕ
bits_of true true = 3
bits_of true false = 1
bits_of false true = 2
bits_of false false = 0

-- each node's labels; 0 past the last node
unfoldable pub label_bits : Graph → List ℕ
label_bits G = map (λ n. bits_of (installable G n) (missing G n)) (upto 128 0)

-- what a table of marks says of node t
unfoldable pub inst_at : List ℕ → ℕ → Bool
inst_at ms t = eqb (get_or ms t 0 % 2) 1

unfoldable pub miss_at : List ℕ → ℕ → Bool
miss_at ms t = ltb 1 (get_or ms t 0)

-- node n's mark by the rules, from the marks so far
unfoldable pub node_mark : Graph → List ℕ → ℕ → ℕ
node_mark G ms n = bits_of (can_install G (inst_at ms) n || inst_at ms n) (is_lacking G (miss_at ms) n || miss_at ms n)

-- node n's mark by the rules alone, whatever mark it has (document 02, order 10)
unfoldable pub anew : Graph → List ℕ → ℕ → ℕ
anew G ms n = bits_of (can_install G (inst_at ms) n) (is_lacking G (miss_at ms) n)

unfoldable pub marks_along : Graph → List ℕ → List ℕ → List ℕ
unfolding node_mark
marks_along G [] ms = ms
marks_along G (n ∷ ns) ms = marks_along G ns (set ms n (node_mark G ms n))

-- ---- reading the result

pub upto_at : (f : ℕ → ℕ) (k a t : ℕ) → t < k → get_or (map f (upto k a)) t 0 ≡ f (a + t)
upto_at f zero a t h = absurd (not-suc-le-zero h)
upto_at f (suc k) a zero h = ap f (let z : a ≡ a + 0 = omega arith in z)
upto_at f (suc k) a (suc t) h = upto_at f k (suc a) t (omega arith) ∙ ap f (let z : suc a + t ≡ a + suc t = omega arith in z)

pub marks_at_lem : (G : Graph) (n : ℕ) → n < 128 → get_or (label_bits G) n 0 ≡ bits_of (installable G n) (missing G n)
unfolding label_bits
marks_at_lem G n h = upto_at (λ n. bits_of (installable G n) (missing G n)) 128 0 n h ∙ (let z : 0 + n ≡ n = omega arith in rw z)
