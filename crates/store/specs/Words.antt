-- A node and an edge as one word each, by `/` and `%`, and the round trip: what was packed is what comes out again.
use Rattle.std.specs.Prelude.{◌≡◌, refl, true, false, ℕ, zero, suc, ◌+◌, ◌*◌, ◌/◌, ◌%◌, ◌<◌, ◌≤◌, eqb}
use Rattle.std.proofs.Common.{sym, ap, ◌∙◌, arith, eqb-true, eq-eqb, ne_eqb}
use Rattle.std.proofs.lemmas.Bool.{false≢true}
use Rattle.std.proofs.Math.Option.{Option, none, some}
use Rattle.basis.specs.Members.{split}
use Rattle.store.specs.declared.ConflictNode.{ConflictNode}
use Rattle.store.specs.declared.ConflictNode.TheVariants as N
use Rattle.store.specs.declared.ConflictCause.{ConflictCause}
use Rattle.store.specs.declared.ConflictCause.TheVariants as C
use Rattle.store.specs.declared.ConflictEdge.{ConflictEdge}
use Rattle.store.specs.declared.ConflictEdge.TheVariants as W
use Rattle.store.specs.declared.Edge.{Edge}
use Rattle.store.specs.Graph.{same_node, is_solvable, is_unresolved, try_requires, is_excluded}
use Rattle.store.specs.Numbers.{node_number}

-- ---- nodes: kind + 4 number + 262144 clause, kinds in the order of `ConflictNode`

-- the word without the clause, by which nodes are compared
abbrev pub word_of : ConflictNode → ℕ
word_of N.Root = 0
word_of (N.Solvable s) = 1 + 4 * s
word_of N.UnresolvedDependency = 2
word_of (N.Excluded r) = 3 + 4 * r

abbrev pub by_kind : ℕ → ℕ → ConflictNode
by_kind zero n = N.Root
by_kind (suc zero) n = N.Solvable n
by_kind (suc (suc zero)) n = N.UnresolvedDependency
by_kind (suc (suc (suc k))) n = N.Excluded n

abbrev pub node_of : ℕ → ConflictNode
node_of w = by_kind (w % 4) (w / 4 % 65536)

-- the clause that first added it
abbrev pub first_clause : ℕ → ℕ
first_clause w = w / 262144 % 65536

-- ---- edges: source + 256 target + 65536 tag + 16777216 number + 1099511627776 clause

abbrev pub cause_tag : ConflictCause → ℕ
cause_tag (C.Locked s) = 1
cause_tag (C.Constrains v) = 2
cause_tag C.ForbidMultipleInstances = 3
cause_tag C.Excluded = 4

abbrev pub cause_number : ConflictCause → ℕ
cause_number (C.Locked s) = s
cause_number (C.Constrains v) = v
cause_number C.ForbidMultipleInstances = 0
cause_number C.Excluded = 0

abbrev pub tag_of : ConflictEdge → ℕ
tag_of (W.Requires q) = 0
tag_of (W.Conflict c) = cause_tag c

abbrev pub edge_number : ConflictEdge → ℕ
edge_number (W.Requires q) = q
edge_number (W.Conflict c) = cause_number c

-- tag and number as one number
abbrev pub weight_word : ConflictEdge → ℕ
weight_word w = tag_of w + 256 * edge_number w

abbrev pub weight_of : ℕ → ℕ → ConflictEdge
weight_of zero n = W.Requires n
weight_of (suc zero) n = W.Conflict (C.Locked n)
weight_of (suc (suc zero)) n = W.Conflict (C.Constrains n)
weight_of (suc (suc (suc zero))) n = W.Conflict C.ForbidMultipleInstances
weight_of (suc (suc (suc (suc t)))) n = W.Conflict C.Excluded

abbrev pub edge_word : Edge → ℕ
edge_word e = e.source + 256 * e.target + 65536 * (weight_word e.weight + 16777216 * e.clause)

abbrev pub edge_of : ℕ → Edge
edge_of w = record { source = w % 256; target = w / 256 % 256; weight = weight_of (w / 65536 % 256) (w / 16777216 % 65536); clause = w / 1099511627776 % 65536 }

-- ---- the round trip of a node

pub node_back : (x : ConflictNode) → node_number x < 65536 → node_of (word_of x) ≡ x
node_back N.Root h = refl
node_back (N.Solvable s) h =
    let a : (1 + 4 * s) % 4 ≡ 1 = omega arith in
    let b : (1 + 4 * s) / 4 ≡ s = omega arith in
    let d : s % 65536 ≡ s = omega arith in
    rw (a, b, d)
node_back N.UnresolvedDependency h = refl
node_back (N.Excluded s) h =
    let a : (3 + 4 * s) % 4 ≡ 3 = omega arith in
    let b : (3 + 4 * s) / 4 ≡ s = omega arith in
    let d : s % 65536 ≡ s = omega arith in
    rw (a, b, d)

pub same_true : (x y : ConflictNode) → same_node x y ≡ true → x ≡ y
same_true N.Root N.Root e = refl
same_true N.Root (N.Solvable t) e = absurd (false≢true e)
same_true N.Root N.UnresolvedDependency e = absurd (false≢true e)
same_true N.Root (N.Excluded t) e = absurd (false≢true e)
same_true (N.Solvable s) N.Root e = absurd (false≢true e)
same_true (N.Solvable s) (N.Solvable t) e = ap N.Solvable (eqb-true s t e)
same_true (N.Solvable s) N.UnresolvedDependency e = absurd (false≢true e)
same_true (N.Solvable s) (N.Excluded t) e = absurd (false≢true e)
same_true N.UnresolvedDependency N.Root e = absurd (false≢true e)
same_true N.UnresolvedDependency (N.Solvable t) e = absurd (false≢true e)
same_true N.UnresolvedDependency N.UnresolvedDependency e = refl
same_true N.UnresolvedDependency (N.Excluded t) e = absurd (false≢true e)
same_true (N.Excluded s) N.Root e = absurd (false≢true e)
same_true (N.Excluded s) (N.Solvable t) e = absurd (false≢true e)
same_true (N.Excluded s) N.UnresolvedDependency e = absurd (false≢true e)
same_true (N.Excluded s) (N.Excluded t) e = ap N.Excluded (eqb-true s t e)

pub same_refl : (x : ConflictNode) → same_node x x ≡ true
same_refl N.Root = refl
same_refl (N.Solvable s) = eq-eqb s s refl
same_refl N.UnresolvedDependency = refl
same_refl (N.Excluded s) = eq-eqb s s refl

word_by : (k n : ℕ) → k < 4 → n < 65536 → word_of (by_kind k n) < 262144
word_by zero n h l = omega arith
word_by (suc zero) n h l = omega arith
word_by (suc (suc zero)) n h l = omega arith
word_by (suc (suc (suc k))) n h l = omega arith

-- a word is that of its node with its clause: then it is that of its node without it
pub low_word : (v : ℕ) → word_of (node_of v) + 262144 * first_clause v ≡ v → word_of (node_of v) ≡ v % 262144
low_word v e =
    let h : word_of (node_of v) < 262144 = word_by (v % 4) (v / 4 % 65536) (omega arith) (omega arith) in
    let z : (word_of (node_of v) + 262144 * first_clause v) % 262144 ≡ v % 262144 = ap (λ (n : ℕ). n % 262144) e in
    let y : (word_of (node_of v) + 262144 * first_clause v) % 262144 ≡ word_of (node_of v) = low (word_of (node_of v)) (first_clause v) h in
    sym y ∙ z
  where
    low : (a b : ℕ) → a < 262144 → (a + 262144 * b) % 262144 ≡ a
    low a b l = omega arith

-- a node's word and a clause, apart again
module _ (a c : ℕ) (h : a < 262144) (l : c < 65536) where
  pub first_back : first_clause (a + 262144 * c) ≡ c
  first_back = let z : (a + 262144 * c) / 262144 ≡ c = omega arith in rw z (omega arith)

  pub low_back : (a + 262144 * c) % 262144 ≡ a
  low_back = omega arith

pub node_low : (a c : ℕ) → node_of (a + 262144 * c) ≡ node_of a
node_low a c =
    let x : (a + 262144 * c) % 4 ≡ a % 4 = omega arith in
    let y : (a + 262144 * c) / 4 ≡ a / 4 + 65536 * c = omega arith in
    let z : (a / 4 + 65536 * c) % 65536 ≡ a / 4 % 65536 = omega arith in
    rw (x, y, z)

-- words without clauses are equal where their nodes are
pub same_word : (x : ConflictNode) (v : ℕ) → node_number x < 65536 → word_of (node_of v) ≡ v % 262144 → eqb (word_of x) (v % 262144) ≡ same_node x (node_of v)
same_word x v h e =
    split (same_node x (node_of v))
    (λ t. rw t (eq-eqb (word_of x) (v % 262144) (ap word_of (same_true x (node_of v) t) ∙ e)))
    (λ t. rw t (ne_eqb (word_of x) (v % 262144) (λ q. let z : x ≡ node_of v = sym (node_back x h) ∙ ap node_of q ∙ low_node v in
    false≢true (sym t ∙ ap (same_node x) (sym z) ∙ same_refl x))))
  where
    low_node : (v : ℕ) → node_of (v % 262144) ≡ node_of v
    low_node v = let z : v % 262144 + 262144 * (v / 262144) ≡ v = omega arith in sym (node_low (v % 262144) (v / 262144)) ∙ ap node_of z

-- ---- the round trip of an edge

weight_back : (w : ConflictEdge) → weight_of (tag_of w) (edge_number w) ≡ w
weight_back (W.Requires q) = refl
weight_back (W.Conflict (C.Locked s)) = refl
weight_back (W.Conflict (C.Constrains v)) = refl
weight_back (W.Conflict C.ForbidMultipleInstances) = refl
weight_back (W.Conflict C.Excluded) = refl

tag_le : (w : ConflictEdge) → tag_of w ≤ 4
tag_le (W.Requires q) = omega arith
tag_le (W.Conflict (C.Locked s)) = omega arith
tag_le (W.Conflict (C.Constrains v)) = omega arith
tag_le (W.Conflict C.ForbidMultipleInstances) = omega arith
tag_le (W.Conflict C.Excluded) = omega arith

module _ (s t g n c : ℕ) (hs : s < 256) (ht : t < 256) (hg : g ≤ 4) (hn : n < 65536) (hc : c < 65536) where
  abbrev upper : ℕ
  upper = g + 256 * n + 16777216 * c

  u0 : (r : ℕ) → (s + 256 * t + 65536 * r) / 65536 ≡ r
  u0 r = omega arith

  u1 : (r : ℕ) → (s + 256 * t + 65536 * r) / 16777216 ≡ r / 256
  u1 r = omega arith

  u2 : (r : ℕ) → (s + 256 * t + 65536 * r) / 1099511627776 ≡ r / 16777216
  u2 r = omega arith

  f0 : (s + 256 * t + 65536 * (g + 256 * n + 16777216 * c)) % 256 ≡ s
  f0 = omega arith

  f1 : (s + 256 * t + 65536 * (g + 256 * n + 16777216 * c)) / 256 % 256 ≡ t
  f1 = omega arith

  f2 : (s + 256 * t + 65536 * (g + 256 * n + 16777216 * c)) / 65536 % 256 ≡ g
  f2 = rw (u0 (g + 256 * n + 16777216 * c)) (omega arith)

  f3 : (s + 256 * t + 65536 * (g + 256 * n + 16777216 * c)) / 16777216 % 65536 ≡ n
  f3 =
      let z : (g + 256 * n + 16777216 * c) / 256 ≡ n + 65536 * c = omega arith in
      rw (u1 (g + 256 * n + 16777216 * c), z) (omega arith)

  f4 : (s + 256 * t + 65536 * (g + 256 * n + 16777216 * c)) / 1099511627776 % 65536 ≡ c
  f4 =
      let z : (g + 256 * n + 16777216 * c) / 16777216 ≡ c = omega arith in
      rw (u2 (g + 256 * n + 16777216 * c), z) (omega arith)

-- v, what a call gave for the weight
pub edge_back : (e : Edge) (v : ℕ) → v ≡ weight_word e.weight → e.source < 256 → e.target < 256 → edge_number e.weight < 65536 → e.clause < 65536
    → edge_of (e.source + 256 * e.target + 65536 * (v + 16777216 * e.clause)) ≡ e
edge_back e v q hs ht hn hc =
    rw q
    (simp (
      f0 e.source e.target (tag_of e.weight) (edge_number e.weight) e.clause hs ht (tag_le e.weight) hn hc,
      f1 e.source e.target (tag_of e.weight) (edge_number e.weight) e.clause hs ht (tag_le e.weight) hn hc,
      f2 e.source e.target (tag_of e.weight) (edge_number e.weight) e.clause hs ht (tag_le e.weight) hn hc,
      f3 e.source e.target (tag_of e.weight) (edge_number e.weight) e.clause hs ht (tag_le e.weight) hn hc,
      f4 e.source e.target (tag_of e.weight) (edge_number e.weight) e.clause hs ht (tag_le e.weight) hn hc,
      weight_back,
    ))

-- ---- what is read off a node's kind without building it

pub solvable_kind : (k n : ℕ) → eqb k 1 ≡ is_solvable (by_kind k n)
solvable_kind zero n = refl
solvable_kind (suc zero) n = refl
solvable_kind (suc (suc zero)) n = refl
solvable_kind (suc (suc (suc k))) n = ne_eqb (suc (suc (suc k))) 1 (λ e. omega arith)

pub unresolved_kind : (k n : ℕ) → eqb k 2 ≡ is_unresolved (by_kind k n)
unresolved_kind zero n = refl
unresolved_kind (suc zero) n = refl
unresolved_kind (suc (suc zero)) n = refl
unresolved_kind (suc (suc (suc k))) n = ne_eqb (suc (suc (suc k))) 2 (λ e. omega arith)

-- ---- what is read off a weight without building it

-- an option as one number: 0 for none, else one more than what it holds
abbrev pub option_code : Option ℕ → ℕ
option_code none = 0
option_code (some q) = suc q

-- what `try_requires` gives, as one number
abbrev pub requirement_code : ConflictEdge → ℕ
requirement_code w = option_code (try_requires w)

pub requires_is : (t n : ℕ) → t ≡ 0 → n + 1 ≡ requirement_code (weight_of t n)
requires_is t n e = rw e (omega arith)

pub requires_none : (t n : ℕ) → (t ≡ 0 → ⊥) → 0 ≡ requirement_code (weight_of t n)
requires_none zero n d = absurd (d refl)
requires_none (suc zero) n d = refl
requires_none (suc (suc zero)) n d = refl
requires_none (suc (suc (suc zero))) n d = refl
requires_none (suc (suc (suc (suc t)))) n d = refl

pub excluded_is : (t n : ℕ) → 3 < t → true ≡ is_excluded (weight_of t n)
excluded_is (suc (suc (suc (suc t)))) n h = refl
excluded_is zero n h = let f : ⊥ = omega arith in absurd f
excluded_is (suc zero) n h = let f : ⊥ = omega arith in absurd f
excluded_is (suc (suc zero)) n h = let f : ⊥ = omega arith in absurd f
excluded_is (suc (suc (suc zero))) n h = let f : ⊥ = omega arith in absurd f

pub excluded_not : (t n : ℕ) → t ≤ 3 → false ≡ is_excluded (weight_of t n)
excluded_not zero n h = refl
excluded_not (suc zero) n h = refl
excluded_not (suc (suc zero)) n h = refl
excluded_not (suc (suc (suc zero))) n h = refl
excluded_not (suc (suc (suc (suc t)))) n h = let f : ⊥ = omega arith in absurd f

-- ---- a word made arm by arm

-- r packs the cause: its tag, and behind it the number that it names, of 16 bits
pub record CauseWord (c : ConflictCause) (r : ℕ) : Type 0 where
  pub is : r ≡ cause_tag c + 256 * cause_number c
  pub fits : cause_number c < 65536
  pub small : r < 16777216

pub record WeightWord (w : ConflictEdge) (r : ℕ) : Type 0 where
  pub is : r ≡ weight_word w
  pub fits : edge_number w < 65536
  pub small : r < 16777216

pub record NodeWord (x : ConflictNode) (r : ℕ) : Type 0 where
  pub is : r ≡ word_of x
  pub fits : node_number x < 65536
  pub small : r < 262144

pub cause_locked : (c : ConflictCause) (s : ℕ) → c ≡ C.Locked s → s < 65536 → CauseWord c (1 + 256 * s)
cause_locked c s e h = rw e (record { is = refl; fits = h; small = omega arith })

pub cause_constrains : (c : ConflictCause) (s : ℕ) → c ≡ C.Constrains s → s < 65536 → CauseWord c (2 + 256 * s)
cause_constrains c s e h = rw e (record { is = refl; fits = h; small = omega arith })

pub cause_forbid : (c : ConflictCause) → c ≡ C.ForbidMultipleInstances → CauseWord c 3
cause_forbid c e = rw e (record { is = refl; fits = omega arith; small = omega arith })

pub cause_excluded : (c : ConflictCause) → c ≡ C.Excluded → CauseWord c 4
cause_excluded c e = rw e (record { is = refl; fits = omega arith; small = omega arith })

pub weight_requires : (w : ConflictEdge) (q : ℕ) → w ≡ W.Requires q → q < 65536 → WeightWord w (256 * q)
weight_requires w q e h = rw e (record { is = omega arith; fits = h; small = omega arith })

pub weight_conflict : (w : ConflictEdge) (c : ConflictCause) (r : ℕ) → w ≡ W.Conflict c → CauseWord c r → WeightWord w r
weight_conflict w c r e h = rw e (record { is = h.is; fits = h.fits; small = h.small })

pub word_root : (x : ConflictNode) → x ≡ N.Root → NodeWord x 0
word_root x e = rw e (record { is = refl; fits = omega arith; small = omega arith })

pub word_solvable : (x : ConflictNode) (s : ℕ) → x ≡ N.Solvable s → s < 65536 → NodeWord x (1 + 4 * s)
word_solvable x s e h = rw e (record { is = refl; fits = h; small = omega arith })

pub word_unresolved : (x : ConflictNode) → x ≡ N.UnresolvedDependency → NodeWord x 2
word_unresolved x e = rw e (record { is = refl; fits = omega arith; small = omega arith })

pub word_excluded : (x : ConflictNode) (s : ℕ) → x ≡ N.Excluded s → s < 65536 → NodeWord x (3 + 4 * s)
word_excluded x s e h = rw e (record { is = refl; fits = h; small = omega arith })

-- r packs the edge
pub record EdgeWord (e : Edge) (r : ℕ) : Type 0 where
  pub is : r ≡ edge_word e
  pub back : edge_of r ≡ e
  pub small : r < 72057594037927936

-- v, what a call gave for the weight
pub edge_packed : (e : Edge) (v : ℕ) → WeightWord e.weight v → e.source < 256 → e.target < 256 → e.clause < 65536
    → EdgeWord e (e.source + 256 * e.target + 65536 * (v + 16777216 * e.clause))
edge_packed e v q hs ht hc =
    record {
      is = ap (λ (n : ℕ). e.source + 256 * e.target + 65536 * (n + 16777216 * e.clause)) q.is;
      back = edge_back e v q.is hs ht q.fits hc;
      small = omega (arith, q.small);
    }

pub ruleset packs = (
  cause_locked,
  cause_constrains,
  cause_forbid,
  cause_excluded,
  weight_requires,
  weight_conflict,
  word_root,
  word_solvable,
  word_unresolved,
  word_excluded,
  edge_packed,
)

-- ---- a word taken apart, arm by arm

pub weight_0 : (t n : ℕ) → t ≡ 0 → W.Requires n ≡ weight_of t n
weight_0 t n e = rw e

pub weight_1 : (t n : ℕ) → t ≡ 1 → W.Conflict (C.Locked n) ≡ weight_of t n
weight_1 t n e = rw e

pub weight_2 : (t n : ℕ) → t ≡ 2 → W.Conflict (C.Constrains n) ≡ weight_of t n
weight_2 t n e = rw e

pub weight_3 : (t n : ℕ) → t ≡ 3 → W.Conflict C.ForbidMultipleInstances ≡ weight_of t n
weight_3 t n e = rw e

pub weight_rest : (t n : ℕ) → (t ≡ 0 → ⊥) → (t ≡ 1 → ⊥) → (t ≡ 2 → ⊥) → (t ≡ 3 → ⊥) → W.Conflict C.Excluded ≡ weight_of t n
weight_rest zero n a b c d = absurd (a refl)
weight_rest (suc zero) n a b c d = absurd (b refl)
weight_rest (suc (suc zero)) n a b c d = absurd (c refl)
weight_rest (suc (suc (suc zero))) n a b c d = absurd (d refl)
weight_rest (suc (suc (suc (suc t)))) n a b c d = refl

pub kind_0 : (t n : ℕ) → t ≡ 0 → N.Root ≡ by_kind t n
kind_0 t n e = rw e

pub kind_1 : (t n : ℕ) → t ≡ 1 → N.Solvable n ≡ by_kind t n
kind_1 t n e = rw e

pub kind_2 : (t n : ℕ) → t ≡ 2 → N.UnresolvedDependency ≡ by_kind t n
kind_2 t n e = rw e

pub kind_rest : (t n : ℕ) → (t ≡ 0 → ⊥) → (t ≡ 1 → ⊥) → (t ≡ 2 → ⊥) → N.Excluded n ≡ by_kind t n
kind_rest zero n a b c = absurd (a refl)
kind_rest (suc zero) n a b c = absurd (b refl)
kind_rest (suc (suc zero)) n a b c = absurd (c refl)
kind_rest (suc (suc (suc t))) n a b c = refl

pub ruleset unpacks = (weight_0, weight_1, weight_2, weight_3, weight_rest, kind_0, kind_1, kind_2, kind_rest)
