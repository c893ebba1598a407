-- The ways through the code of the passes.
use Rattle.std.specs.Prelude.{◌≡◌, Bool, cond, ◌&&◌, ◌||◌, List, [], ◌∷◌, ℕ, zero, suc, ◌+◌, ◌-◌, ◌%◌, ◌<◌, ◌≤◌, get_or, take, drop, set, replicate, eqb, ltb}
use Rattle.std.proofs.Math.Path.{refl, sym}
use Rattle.std.proofs.Common.{ap, ◌∙◌, inl, inr, not-suc-le-zero, arith, drop_of_length-le, drop-cons, length-take-le}
use Rattle.std.proofs.Math.Bool.{true, false, not}
use Rattle.std.proofs.Math.Numerals.{add-one}
use Rattle.std.proofs.Math.ListN.{length, get_or-eq_default}
use Rattle.std.proofs.Math.Seq.{get_or-take}
use borrow.Author.Tests.{eq-eqb, ne_eqb}
use Rattle.basis.specs.Lists.{any}
use Rattle.basis.specs.Members.{In}
use Rattle.store.specs.declared.ConflictNode.TheVariants as N
use Rattle.store.specs.declared.Size.{Size}
use Rattle.store.specs.Graph.{Graph, out, into, node_at, is_unresolved, is_excluded}
use Rattle.store.specs.Words.{requirement_code}
use Rattle.store.specs.Table.{graph_in, edge_in, node_in, Stored, nodes_count, node_in_lem}
use Rattle.links.specs.Build.{Chains}
use Rattle.links.specs.Walk.{Out, Into, first_out, next_out, first_in, next_in, out_left, into_left, out_start, out_next, out_less, out_all, out_cons, out_end}
use Rattle.links.specs.Walk.{into_start, into_next, into_less, into_all, into_cons, into_end}
use Rattle.labels.specs.declared.passes.Scan.{Scan}
use Rattle.labels.specs.declared.passes.Verdict.{Verdict}
use Rattle.labels.specs.Labels.{order_of, excludes, has_unresolved}
use Rattle.labels.specs.Scan.{scan_start, step_of, refused, verdict}
use Rattle.labels.specs.Marks.{inst_at, miss_at, node_mark, marks_along}
use Rattle.labels.specs.Frames.{Posted}
use Rattle.labels.specs.Bounds.{sound, order_below}

-- ---- one step of a scan

pub step_same : (o : Scan) (k : ℕ) (i m b a : Bool) → o.key ≡ k → b ≡ o.bare && not i → a ≡ o.all && m
    → record { key = k; lost = o.lost; bare = b; hit = o.hit; all = a } ≡ step_of o k i m
unfolding step_of
step_same o k i m b a e p q = rw (eq-eqb o.key k e, cond, p, q)

pub step_other : (o : Scan) (k : ℕ) (i m l h : Bool) → (o.key ≡ k → ⊥) → l ≡ o.lost || o.bare → h ≡ o.hit || o.all
    → record { key = k; lost = l; bare = not i; hit = h; all = m } ≡ step_of o k i m
unfolding step_of
step_other o k i m l h e p q = rw (ne_eqb o.key k e, cond, p, q)

-- ---- the scan along the outgoing edges

-- what the edges that are left give, from scan o
unfoldable pub scan_left : List ℕ → ℕ → List ℕ → ℕ → Scan → Verdict
scan_left g n ms e o = verdict (inst_at ms) (miss_at ms) o (out_left g n e)

unfoldable pub verdict_of : Graph → List ℕ → ℕ → Verdict
verdict_of G ms n = verdict (inst_at ms) (miss_at ms) scan_start (out G n)

-- e is 0 or one more than an edge of n's chain; a loop that does not use the size carries it here
pub record Going (g ls : List ℕ) (n e : ℕ) : Type 0 where
  pub size : Size
  pub on : Out g size ls n e

pub going_start : (g : List ℕ) (s : Size) (ls : List ℕ) (n r : ℕ) → Chains g s ls → n < s.nodes → r ≡ first_out ls n → Going g ls n r
going_start g s ls n r c h q = record { size = s; on = out_start g s ls n r c h q }

module _ (g ls : List ℕ) (n e r : ℕ) (w : Going g ls n e) (p : 0 < e) (q : r ≡ next_out ls (e - 1)) where
  pub going_next : Going g ls n r
  going_next = record { size = w.size; on = out_next g w.size ls n e r w.on p q }

  pub going_less : r < e
  going_less = out_less g w.size ls n e r w.on p q

scan_whole : (g : List ℕ) (s : Size) (ls ms : List ℕ) (n r : ℕ) → Chains g s ls → n < s.nodes → r ≡ first_out ls n
    → scan_left g n ms r scan_start ≡ verdict_of (graph_in g s) ms n
unfolding scan_left verdict_of
scan_whole g s ls ms n r c h q = rw (out_all g s ls n r c h q)

pub scan_next : (g ls ms : List ℕ) (n e : ℕ) (o x : Scan) (Z : Verdict) (k r : ℕ)
    → scan_left g n ms e o ≡ Z → Going g ls n e → 0 < e → (k ≡ 0 → ⊥) → k ≡ requirement_code (edge_in g (e - 1)).weight
    → x ≡ step_of o k (inst_at ms (edge_in g (e - 1)).target) (miss_at ms (edge_in g (e - 1)).target)
    → r ≡ next_out ls (e - 1) → scan_left g n ms r x ≡ Z
unfolding scan_left verdict
scan_next g ls ms n e o x Z k r i w p z qk qx qr = sym (sym i ∙ rw (out_cons g w.size ls n e r w.on p qr, ← qk, ne_eqb k 0 z, verdict, qx, ← qk))

module _ (g : List ℕ) (s : Size) (ls ms : List ℕ) (n f e : ℕ) (o : Scan) (i : scan_left g n ms e o ≡ scan_left g n ms f scan_start) (c : Chains g s ls) (h : n
    < s.nodes) (qf : f ≡ first_out ls n) where
  pub scan_stop : (k : ℕ) → k ≡ 0 → k ≡ requirement_code (edge_in g (e - 1)).weight → Going g ls n e → 0 < e
      → refused ≡ verdict_of (graph_in g s) ms n
  unfolding scan_left verdict
  scan_stop k z qk w p =
      (rw (out_cons g w.size ls n e (next_out ls (e - 1)) w.on p refl, ← qk, eq-eqb k 0 z, verdict) at i) ∙ scan_whole g s ls ms n f c h qf

  pub scan_end_lem : (a b : Bool) → e ≤ 0 → a ≡ o.lost || o.bare → b ≡ o.hit || o.all → record { every = not a; some = b } ≡ verdict_of (graph_in g s) ms n
  unfolding scan_left verdict
  scan_end_lem a b l p q = (rw (p, q) (rw (out_end g n e l) at i)) ∙ scan_whole g s ls ms n f c h qf

-- ---- incoming Excluded edges

unfoldable pub ex_left : List ℕ → ℕ → ℕ → Bool
ex_left g n e = any excludes (into_left g n e)

pub record Coming (g ls : List ℕ) (n e : ℕ) : Type 0 where
  pub size : Size
  pub on : Into g size ls n e

pub coming_start : (g : List ℕ) (s : Size) (ls : List ℕ) (n r : ℕ) → Chains g s ls → n < s.nodes → r ≡ first_in ls n → Coming g ls n r
coming_start g s ls n r c h q = record { size = s; on = into_start g s ls n r c h q }

module _ (g ls : List ℕ) (n e r : ℕ) (w : Coming g ls n e) (p : 0 < e) (q : r ≡ next_in ls (e - 1)) where
  pub coming_next : Coming g ls n r
  coming_next = record { size = w.size; on = into_next g w.size ls n e r w.on p q }

  pub coming_less : r < e
  coming_less = into_less g w.size ls n e r w.on p q

  pub ex_next : (t Z : Bool) → ex_left g n e ≡ Z → t ≡ false → t ≡ is_excluded (edge_in g (e - 1)).weight → ex_left g n r ≡ Z
  unfolding ex_left
  ex_next t Z i z qt = sym (sym i ∙ rw (into_cons g w.size ls n e r w.on p q, ← qt, z, any))

module _ (g : List ℕ) (s : Size) (ls : List ℕ) (n f e : ℕ) (i : ex_left g n e ≡ ex_left g n f) (c : Chains g s ls) (h : n < s.nodes) (qf : f
    ≡ first_in ls n) where
  ex_whole : ex_left g n f ≡ any excludes (into (graph_in g s) n)
  unfolding ex_left
  ex_whole = rw (into_all g s ls n f c h qf)

  pub ex_hit : (t : Bool) → t ≡ true → t ≡ is_excluded (edge_in g (e - 1)).weight → Coming g ls n e → 0 < e → true ≡ any excludes (into (graph_in g s) n)
  unfolding ex_left
  ex_hit t z qt w p = (rw (into_cons g w.size ls n e (next_in ls (e - 1)) w.on p refl, ← qt, z, any) at i) ∙ ex_whole

  pub ex_end : e ≤ 0 → false ≡ any excludes (into (graph_in g s) n)
  unfolding ex_left
  ex_end l = (rw (into_end g n e l) at i) ∙ ex_whole

-- ---- may a node be installed, where every run has an installable target if `every`

module _ (g : List ℕ) (s : Size) (ls : List ℕ) (n : ℕ) (every : Bool) where
  unfoldable pub installing : Bool
  installing = not (is_unresolved (node_at (graph_in g s) n)) && (not (any excludes (into (graph_in g s) n)) && every)

  pub install_none : every ≡ false → false ≡ installing
  unfolding installing
  install_none e = rw e (go (is_unresolved (node_at (graph_in g s) n)) (any excludes (into (graph_in g s) n)))
    where
      go : (a b : Bool) → false ≡ not a && (not b && false)
      go true b = refl
      go false true = refl
      go false false = refl

  module _ (c : Chains g s ls) (h : n < s.nodes) (u : Bool) (qu : u ≡ is_unresolved (node_in g n)) where
    is_unresolved_lem : u ≡ is_unresolved (node_at (graph_in g s) n)
    is_unresolved_lem = qu ∙ ap is_unresolved (node_in_lem g s c.stored n h)

    pub install_unresolved : u ≡ true → false ≡ installing
    unfolding installing
    install_unresolved e = rw (← is_unresolved_lem, e)

    pub install_rest : u ≡ false → every ≡ true → (x : Bool) → x ≡ any excludes (into (graph_in g s) n) → not x ≡ installing
    unfolding installing
    install_rest e f x q = rw (← is_unresolved_lem, e, ← q, f) (sym (right (not x)))
      where
        right : (a : Bool) → a && true ≡ a
        right true = refl
        right false = refl

-- ---- along the order

in_at : (l : List ℕ) (i : ℕ) → i < length l → In (get_or l i 0) l
in_at [] i h = absurd (not-suc-le-zero h)
in_at (x ∷ l) zero h = inl refl
in_at (x ∷ l) (suc i) h = inr (in_at l i (omega arith))

unfoldable pub marks_left : Graph → List ℕ → ℕ → List ℕ → ℕ → List ℕ
marks_left G os k ms i = marks_along G (drop i (take k os)) ms

module _ (g : List ℕ) (s : Size) (ls os : List ℕ) (k : ℕ) (L : Posted g s ls os k) where
  pub taken : length (take k os) ≡ k
  taken = length-take-le k os (omega (arith, L.few, L.long))

  pub along_start : (ms : List ℕ) → marks_left (graph_in g s) os k ms 0 ≡ marks_along (graph_in g s) (order_of (graph_in g s)) ms
  unfolding marks_left
  along_start ms = rw (← L.is)

  pub node_below : (n i : ℕ) → n ≡ get_or os i 0 → i < k → n < s.nodes
  node_below n i q h =
      rw (nodes_count g s L.chains.stored) at (order_below (graph_in g s) (sound g s L.chains.stored) n (rw (
        ← L.is,
        q,
      ) (at (take k os) i (omega (arith, taken)) (get_or-take k os i 0 h))))
    where
      at : (l : List ℕ) (i : ℕ) → i < length l → get_or l i 0 ≡ get_or os i 0 → In (get_or os i 0) l
      at l i h e = rw (← e) (in_at l i h)

  pub node_small : (n i : ℕ) → n ≡ get_or os i 0 → i < k → n < 128
  node_small n i q h = omega (arith, node_below n i q h, L.chains.stored.nodes_most)

  pub along_next : (ms m Z : List ℕ) (n i v : ℕ) → marks_left (graph_in g s) os k ms i ≡ Z → n ≡ get_or os i 0 → i < k → v ≡ node_mark (graph_in g s) ms n
      → m ≡ set ms n v → marks_left (graph_in g s) os k m (i + 1) ≡ Z
  unfolding marks_left marks_along
  along_next ms m Z n i v e qn h qv qm =
      sym (sym e ∙ rw (drop-cons (take k os) i 0 (omega (arith, taken)), get_or-take k os i 0 h, ← qn, add-one, qm, qv))

  pub along_end : (ms Z : List ℕ) (i : ℕ) → marks_left (graph_in g s) os k ms i ≡ Z → k ≤ i → ms ≡ Z
  unfolding marks_left marks_along
  along_end ms Z i e h = sym (sym e ∙ rw (drop_of_length-le (take k os) (let z : length (take k os) ≤ i = omega (arith, taken) in z)))

-- ---- reads

pub inst_via : (ms : List ℕ) (t v : ℕ) → v ≡ get_or ms t 0 → eqb (v % 2) 1 ≡ inst_at ms t
unfolding inst_at
inst_via ms t v e = rw e

pub miss_via : (ms : List ℕ) (t v : ℕ) → v ≡ get_or ms t 0 → ltb 1 v ≡ miss_at ms t
unfolding miss_at
miss_via ms t v e = rw e

pub step_via : (x o : Scan) (k t u : ℕ) (ms : List ℕ) (i m : Bool) → x ≡ step_of o k i m → i ≡ inst_at ms t → m ≡ miss_at ms t → t ≡ u
    → x ≡ step_of o k (inst_at ms u) (miss_at ms u)
step_via x o k t u ms i m e p q z = rw (← z, ← p, ← q) e

-- ---- before the pass, and the whole

-- "all zeros, as a fresh array is"
pub record Blank (ms : List ℕ) : Type 0 where
  pub zeros : ms ≡ replicate 128 0

module _ (g : List ℕ) (s : Size) (ms : List ℕ) (S : Stored g s) where
  pub start_short : s.nodes ≤ 1 → ms ≡ cond (has_unresolved (graph_in g s)) (set ms 1 2) ms
  start_short h = rw (get_or-eq_default (graph_in g s).nodes N.Root (let z : length (graph_in g s).nodes ≤ 1 = rw (nodes_count g s S) h in z))

  module _ (h : 1 < s.nodes) (u : Bool) (q : u ≡ is_unresolved (node_in g 1)) where
    is_first : u ≡ has_unresolved (graph_in g s)
    is_first = q ∙ ap is_unresolved (node_in_lem g s S 1 h)

    pub start_with : u ≡ true → set ms 1 2 ≡ cond (has_unresolved (graph_in g s)) (set ms 1 2) ms
    start_with e = rw (← is_first, e)

    pub start_without : u ≡ false → ms ≡ cond (has_unresolved (graph_in g s)) (set ms 1 2) ms
    start_without e = rw (← is_first, e)
