-- The laws of the code's ways: one edge, the edges of a node, the nodes, the whole.
use Rattle.std.specs.Prelude.{◌≡◌, Bool, false, List, [], ◌∷◌, ◌++◌, ℕ, suc, ◌+◌, ◌-◌, ◌≤◌, ◌<◌, set, take, drop, eqb}
use Rattle.std.proofs.Math.Path.{refl, sym}
use Rattle.std.proofs.Common.{◌∙◌, append-nil, add-one}
use Rattle.std.proofs.Math.Bool.{true}
use native.Mathlib.Omega.{arith}
use Rattle.std.proofs.Math.ListN.{length, get_or}
use Rattle.std.proofs.Math.Dec.{ltb}
use borrow.Author.Tests.{eq-eqb, lt-ltb}
use borrow.Rule.Slice.PartMut.{put_mid}
use Rattle.basis.specs.Lists.{concat_map, upto}
use Rattle.basis.specs.Quote.{utf8}
use Rattle.records.specs.Tables.{Tables}
use Rattle.store.specs.declared.ConflictNode.{ConflictNode}
use Rattle.store.specs.declared.ConflictNode.TheVariants as N
use Rattle.store.specs.declared.ConflictEdge.{ConflictEdge}
use Rattle.store.specs.declared.Edge.{Edge}
use Rattle.store.specs.declared.Size.{Size}
use Rattle.store.specs.Graph.{out}
use Rattle.store.specs.Table.{graph_in, node_in, edge_in, Stored, node_in_lem, nodes_count}
use Rattle.links.specs.Build.{Chains}
use Rattle.links.specs.Walk.{Out, out_left, first_out, next_out, out_start, out_all, out_next, out_less, out_cons, out_end, out_target}
use Rattle.texts.specs.Wrote.{Wrote}
use Rattle.display.specs.Stroke.{is_red, stroke}
use Rattle.display.specs.StrokeSizes.{stroke_size, stroke_length}
use Rattle.drawing.specs.declared.PenAnswer.{PenAnswer}
use Rattle.drawing.specs.Draw.{Sketch, lead_drawn, edge_text, drawn_at, is_drawn, edge_units, node_units, all_units, rest_units, drawing_units}
use Rattle.drawing.specs.Pen.{Fine, Adds, adds_none, adds_one, adds_full, PenLeft, left_start, left_next, left_end, left_stop}
use Rattle.drawing.specs.Stamps.{marked, keeps_plain, keeps_met, marked_plain, marked_met, Stamped, stamped_more, stamped_set, Merging, step_units}
use Rattle.drawing.specs.Stamps.{units_left, units_none, units_step, kept_start}

-- what the tables hold
abbrev pub drawn_in : Tables → List ℕ → Size → List ℕ → Sketch
drawn_in T g s m = record { tables = T; graph = graph_in g s; merged = m }

-- the promises of a whole drawing
pub record Ready (g : List ℕ) (s : Size) (ls m : List ℕ) : Type 0 where
  pub chains : Chains g s ls
  pub merging : Merging m s.nodes

-- ---- one unit

module _ (T : Tables) (x y : ConflictNode) (red : Bool) (e : ConflictEdge) (a : List ℕ) (p : PenAnswer) (f : Fine a p) (z : p.number ≡ 0) where
  pub stroke_adds : (d : List ℕ) (m : ℕ) → Wrote (stroke T x y red e) (take (length a - p.bytes) (drop p.bytes a)) d m
      → Adds (stroke T x y red e ∷ []) a p (put_mid p.bytes (length a - p.bytes) a d) (record {
        number = 0;
        place = 0;
        bytes = p.bytes + m;
        units = p.units + 1;
        depth = 0;
      })
  stroke_adds d m w = adds_one (stroke T x y red e) a p f z d m w (omega (arith, stroke_length T x y red e))

  pub stroke_full : (n : ℕ) → n ≡ stroke_size T x y red e → length a - p.bytes < n
      → Adds (stroke T x y red e ∷ []) a p a (record { number = 10; place = p.units; bytes = p.bytes; units = p.units; depth = 0 })
  stroke_full n q h = adds_full (stroke T x y red e) a p f z n (q ∙ sym (stroke_length T x y red e)) h

module _ (a : List ℕ) (p : PenAnswer) (f : Fine a p) (z : p.number ≡ 0) where
  pub open_adds : (d : List ℕ) (m : ℕ) → Wrote (utf8 "digraph {") (take (length a - p.bytes) (drop p.bytes a)) d m
      → Adds (utf8 "digraph {" ∷ []) a p (put_mid p.bytes (length a - p.bytes) a d) (record {
        number = 0;
        place = 0;
        bytes = p.bytes + m;
        units = p.units + 1;
        depth = 0;
      })
  open_adds d m w = adds_one (utf8 "digraph {") a p f z d m w (omega arith)

  pub open_full : length a - p.bytes < 9 → Adds (utf8 "digraph {" ∷ []) a p a (record {
    number = 10;
    place = p.units;
    bytes = p.bytes;
    units = p.units;
    depth = 0;
  })
  open_full h = adds_full (utf8 "digraph {") a p f z 9 refl h

  pub close_adds : (d : List ℕ) (m : ℕ) → Wrote (utf8 "}") (take (length a - p.bytes) (drop p.bytes a)) d m
      → Adds (utf8 "}" ∷ []) a p (put_mid p.bytes (length a - p.bytes) a d) (record {
        number = 0;
        place = 0;
        bytes = p.bytes + m;
        units = p.units + 1;
        depth = 0;
      })
  close_adds d m w = adds_one (utf8 "}") a p f z d m w (omega arith)

  pub close_full : length a - p.bytes < 1 → Adds (utf8 "}" ∷ []) a p a (record {
    number = 10;
    place = p.units;
    bytes = p.bytes;
    units = p.units;
    depth = 0;
  })
  close_full h = adds_full (utf8 "}") a p f z 1 refl h

-- ---- an edge

-- edge i from n, drawn to l
unfoldable pub stroke_at : Tables → List ℕ → ℕ → ℕ → ℕ → List ℕ
stroke_at T g n l i = stroke T (node_in g n) (node_in g l) (is_red (edge_in g i).weight (node_in g (edge_in g i).target)) (edge_in g i).weight

pub stroke_at_lem : (T : Tables) (g : List ℕ) (n l i t : ℕ) (e : Edge) (x y v : ConflictNode) (red : Bool) (a : List ℕ) (p : PenAnswer) (b : List ℕ) (q : PenAnswer)
    → Adds (stroke T x y red e.weight ∷ []) a p b q → e ≡ edge_in g i → x ≡ node_in g n → y ≡ node_in g l → red ≡ is_red e.weight v → v ≡ node_in g t
    → t ≡ (edge_in g i).target
    → Adds (stroke_at T g n l i ∷ []) a p b q
unfolding stroke_at
stroke_at_lem T g n l i t e x y v red a p b q A qe qx qy qr qv qt = rw (qx, qy, qr, qv, qt, qe) at A

-- the edge is one of the graph's, and so are its ends
pub record Edged (g : List ℕ) (s : Size) (m : List ℕ) (n i : ℕ) : Type 0 where
  pub stored : Stored g s
  pub merging : Merging m s.nodes
  pub source : n < s.nodes
  pub target : (edge_in g i).target < s.nodes

module _ (g : List ℕ) (s : Size) (m : List ℕ) (n i : ℕ) (E : Edged g s m n i) where
  -- the read that gave the mark
  pub mark_index : (t : ℕ) → t ≡ (edge_in g i).target → t < 128
  mark_index t q = omega (arith, E.target, E.merging.few)

  pub mark_lead : (k t : ℕ) → k ≡ get_or m t 0 → (k ≡ 0 → ⊥) → k - 1 < 128
  mark_lead k t q f = omega (arith, E.merging.most t, E.merging.few)

  pub edge_source : n < 128
  edge_source = omega (arith, E.source, E.merging.few)

module _ (g m w : List ℕ) (n i k t : ℕ) (qt : t ≡ (edge_in g i).target) (qk : k ≡ get_or m t 0) where
  pub step_plain_marks : k ≡ 0 → w ≡ marked w (get_or m (edge_in g i).target 0) n
  step_plain_marks z = rw (← qt, ← qk) (marked_plain w k n z)

  pub step_marks : (v : List ℕ) → (k ≡ 0 → ⊥) → v ≡ set w (k - 1) (n + 1) → v ≡ marked w (get_or m (edge_in g i).target 0) n
  step_marks v f q = rw (← qt, ← qk) (marked_met w k n f v q)

module _ (T : Tables) (g : List ℕ) (s : Size) (m w : List ℕ) (n i : ℕ) (E : Edged g s m n i) where
  abbrev D : Sketch
  D = drawn_in T g s m

  abbrev e : Edge
  e = edge_in g i

  same_text : (l : ℕ) → l < s.nodes → l ≡ lead_drawn D e.target → stroke_at T g n l i ≡ edge_text D n e
  unfolding stroke_at edge_text
  same_text l h q =
      rw (node_in_lem g s E.stored n E.source, node_in_lem g s E.stored l h, node_in_lem g s E.stored e.target E.target, q)

  module _ (k t : ℕ) (qt : t ≡ (edge_in g i).target) (qk : k ≡ get_or m t 0) where
    is_mark : k ≡ get_or m e.target 0
    is_mark = rw (← qt) qk

    module _ (z : k ≡ 0) where
      pub step_plain : (a : List ℕ) (p : PenAnswer) (b : List ℕ) (q : PenAnswer) → Adds (stroke_at T g n t i ∷ []) a p b q → Adds (step_units D n w e) a p b q
      unfolding step_units
      step_plain a p b q A =
          let y : get_or m e.target 0 ≡ 0 = sym is_mark ∙ z in
          rw (keeps_plain w (get_or m e.target 0) n y, ← same_text t (rw qt E.target) (rw y qt)) A

    module _ (f : k ≡ 0 → ⊥) where
      module _ (o : Bool) (qo : o ≡ eqb (get_or w (k - 1) 0) (n + 1)) (a : List ℕ) (p : PenAnswer) where
        pub step_met : o ≡ true → Fine a p → Adds (step_units D n w e) a p a p
        unfolding step_units
        step_met y F = rw (← is_mark, keeps_met w k n f o qo, y) (adds_none a p F)

        pub step_new : (b : List ℕ) (q : PenAnswer) → Adds (stroke_at T g n (k - 1) i ∷ []) a p b q → o ≡ false → Adds (step_units D n w e) a p b q
        unfolding step_units
        step_new b q A y =
            let l : k - 1 < s.nodes = omega (arith, E.merging.most t) in
            let h : ltb 0 k ≡ true = lt-ltb 0 k (let x : 0 < k = omega arith in x) in
            let c : k - 1 ≡ lead_drawn D e.target = rw (← is_mark, h) refl in
            rw (← same_text (k - 1) l c, ← is_mark, keeps_met w k n f o qo, y) A

-- ---- the edges of a node

-- e: the stored value where the walk stands; a and p: room and answer before the first edge
pub record Edging (T : Tables) (g : List ℕ) (s : Size) (ls m : List ℕ) (n : ℕ) (a : List ℕ) (p : PenAnswer) (w : List ℕ) (e : ℕ) (b : List ℕ) (q : PenAnswer) :
    Type 0 where
  pub at : Out g s ls n e
  pub merging : Merging m s.nodes
  pub source : n < s.nodes
  pub stamped : Stamped w (n + 1)
  pub goes : q.number ≡ 0
  pub left : PenLeft (edge_units (drawn_in T g s m) n) a p (units_left (drawn_in T g s m) n (out_left g n e) w) b q

module _ (T : Tables) (g : List ℕ) (s : Size) (ls m : List ℕ) (n : ℕ) (a : List ℕ) (p : PenAnswer) (w : List ℕ) (e : ℕ) where
  pub edging_start : Ready g s ls m → n < s.nodes → e ≡ first_out ls n → Stamped w n → Fine a p → p.number ≡ 0 → Edging T g s ls m n a p w e a p
  unfolding edge_units units_left
  edging_start R h r S F z =
      let C = R.chains in
      let M = R.merging in
      let x : units_left (drawn_in T g s m) n (out_left g n e) w ≡ edge_units (drawn_in T g s m) n =
      rw (out_all g s ls n e C h r, kept_start (drawn_in T g s m) n s.nodes M (out (graph_in g s) n) w S) in
      record {
        at = out_start g s ls n e C h r;
        merging = M;
        source = h;
        stamped = stamped_more w n S;
        goes = z;
        left = rw x (left_start (edge_units (drawn_in T g s m) n) a p F);
      }

  module _ (b : List ℕ) (q : PenAnswer) (I : Edging T g s ls m n a p w e b q) where
    pub edging_edge : 0 < e → Edged g s m n (e - 1)
    edging_edge h =
        record {
          stored = I.at.chains.stored;
          merging = I.merging;
          source = I.source;
          target = out_target g s ls n e (edge_in g (e - 1)).target I.at h refl;
        }

    pub edging_fine : Fine b q
    edging_fine = I.left.fine

    pub edging_less : (r : ℕ) → 0 < e → r ≡ next_out ls (e - 1) → r < e
    edging_less r h k = out_less g s ls n e r I.at h k

    module _ (h : 0 < e) (v c : List ℕ) (r : PenAnswer) (A : Adds (step_units (drawn_in T g s m) n w (edge_in g (e - 1))) b q c r) (vm : v
        ≡ marked w (get_or m (edge_in g (e - 1)).target 0) n) where
      next_left : (j : ℕ) → j ≡ next_out ls (e - 1) → PenLeft (edge_units (drawn_in T g s m) n) a p (units_left (drawn_in T g s m) n (out_left g n j) v) c r
      next_left j k =
          let x : units_left (drawn_in T g s m) n (out_left g n e) w ≡ step_units (drawn_in T g s m) n w (edge_in g (e - 1))
          ++ units_left (drawn_in T g s m) n (out_left g n j) v =
          rw (out_cons g s ls n e j I.at h k, vm) (units_step (drawn_in T g s m) n (edge_in g (e - 1)) (out_left g n j) w) in
          left_next (edge_units (drawn_in T g s m) n) a p (units_left (drawn_in T g s m) n (out_left g n j) v) b q
          (step_units (drawn_in T g s m) n w (edge_in g (e - 1))) c r (rw x at I.left) A

      next_stamped : Stamped v (n + 1)
      next_stamped = rw vm (stamped_set w (get_or m (edge_in g (e - 1)).target 0) n I.stamped)

      pub edging_next : (j : ℕ) → j ≡ next_out ls (e - 1) → r.number ≡ 0 → Edging T g s ls m n a p v j c r
      edging_next j k z =
          record { at = out_next g s ls n e j I.at h k; merging = I.merging; source = I.source; stamped = next_stamped; goes = z; left = next_left j k }

      -- a unit did not fit
      pub edging_stop : (r.number ≡ 0 → ⊥) → Adds (edge_units (drawn_in T g s m) n) a p c r
      edging_stop f =
          left_stop (edge_units (drawn_in T g s m) n) a p (units_left (drawn_in T g s m) n (out_left g n (next_out ls (e - 1))) v) c r
          (next_left (next_out ls (e - 1)) refl) f

      pub edging_stamped : Stamped v (n + 1)
      edging_stamped = next_stamped

    pub edging_end : e ≤ 0 → Adds (edge_units (drawn_in T g s m) n) a p b q
    edging_end h =
        left_end (edge_units (drawn_in T g s m) n) a p (units_left (drawn_in T g s m) n (out_left g n e) w) b q
        (rw (out_end g n e h) (units_none (drawn_in T g s m) n w)) I.left

    pub edging_done : Stamped w (n + 1)
    edging_done = I.stamped

-- ---- a node

module _ (m : List ℕ) (x y : ConflictNode) (n : ℕ) (q : x ≡ y) where
  pub drawn_root : x ≡ N.Root → true ≡ drawn_at m y n
  unfolding drawn_at
  drawn_root e = rw (← q, e)

  pub drawn_unresolved : x ≡ N.UnresolvedDependency → false ≡ drawn_at m y n
  unfolding drawn_at
  drawn_unresolved e = rw (← q, e)

  pub drawn_reason : (t : ℕ) → x ≡ N.Excluded t → false ≡ drawn_at m y n
  unfolding drawn_at
  drawn_reason t e = rw (← q, e)

  module _ (t k : ℕ) (e : x ≡ N.Solvable t) (r : k ≡ get_or m n 0) where
    pub drawn_single : k ≡ 0 → true ≡ drawn_at m y n
    unfolding drawn_at
    drawn_single z = rw (← q, e, ← r, z) (sym (eq-eqb n n refl))

    pub drawn_member : (k ≡ 0 → ⊥) → eqb (k - 1) n ≡ drawn_at m y n
    unfolding drawn_at
    drawn_member f = rw (← q, e, ← r, lt-ltb 0 k (let z : 0 < k = omega arith in z))

pub ready_small : (g : List ℕ) (s : Size) (ls m : List ℕ) (n : ℕ) → Ready g s ls m → n < s.nodes → n < 128
ready_small g s ls m n R h = omega (arith, R.merging.few)

module _ (T : Tables) (g : List ℕ) (s : Size) (ls m : List ℕ) (n : ℕ) (R : Ready g s ls m) (h : n < s.nodes) (d : Bool) (q : d
    ≡ drawn_at m (node_in g n) n) (a : List ℕ) (p : PenAnswer) where
  drawn_is : d ≡ is_drawn (drawn_in T g s m) n
  unfolding is_drawn
  drawn_is = rw (← node_in_lem g s R.chains.stored n h) q

  pub node_adds : (b : List ℕ) (r : PenAnswer) → Adds (edge_units (drawn_in T g s m) n) a p b r → d ≡ true → Adds (node_units (drawn_in T g s m) n) a p b r
  unfolding node_units
  node_adds b r A e = rw (← drawn_is, e) A

  pub node_none : d ≡ false → Fine a p → Adds (node_units (drawn_in T g s m) n) a p a p
  unfolding node_units
  node_none e F = rw (← drawn_is, e) (adds_none a p F)

-- ---- the nodes

pub record Noding (T : Tables) (g : List ℕ) (s : Size) (ls m : List ℕ) (a : List ℕ) (p : PenAnswer) (w : List ℕ) (n : ℕ) (b : List ℕ) (q : PenAnswer) : Type
    0 where
  pub ready : Ready g s ls m
  pub stamped : Stamped w n
  pub goes : q.number ≡ 0
  pub left : PenLeft (all_units (drawn_in T g s m)) a p (concat_map (node_units (drawn_in T g s m)) (upto (s.nodes - n) n)) b q

module _ (T : Tables) (g : List ℕ) (s : Size) (ls m : List ℕ) (a : List ℕ) (p : PenAnswer) where
  pub noding_start : (w : List ℕ) → Ready g s ls m → Stamped w 0 → Fine a p → p.number ≡ 0 → Noding T g s ls m a p w 0 a p
  unfolding all_units
  noding_start w R S F z =
      let x : s.nodes - 0 ≡ length (graph_in g s).nodes = omega (arith, nodes_count g s R.chains.stored) in
      record { ready = R; stamped = S; goes = z; left = rw x (left_start (all_units (drawn_in T g s m)) a p F) }

  module _ (w : List ℕ) (n : ℕ) (b : List ℕ) (q : PenAnswer) (I : Noding T g s ls m a p w n b q) where
    pub noding_fine : Fine b q
    noding_fine = I.left.fine

    module _ (h : n < s.nodes) (c : List ℕ) (r : PenAnswer) (A : Adds (node_units (drawn_in T g s m) n) b q c r) where
      next_nodes : PenLeft (all_units (drawn_in T g s m)) a p (concat_map (node_units (drawn_in T g s m)) (upto (s.nodes - (n + 1)) (n + 1))) c r
      next_nodes =
          let y : s.nodes - n ≡ suc (s.nodes - (n + 1)) = omega arith in
          let x : concat_map (node_units (drawn_in T g s m)) (upto (s.nodes - n) n) ≡ node_units (drawn_in T g s m) n
          ++ concat_map (node_units (drawn_in T g s m)) (upto (s.nodes - (n + 1)) (n + 1)) =
          rw (y, add-one) in
          left_next (all_units (drawn_in T g s m)) a p (concat_map (node_units (drawn_in T g s m)) (upto (s.nodes - (n + 1)) (n + 1))) b q
          (node_units (drawn_in T g s m) n) c r (rw x at I.left) A

      pub noding_next : (v : List ℕ) → Stamped v (n + 1) → r.number ≡ 0 → Noding T g s ls m a p v (n + 1) c r
      noding_next v S z = record { ready = I.ready; stamped = S; goes = z; left = next_nodes }

      pub noding_stop : (r.number ≡ 0 → ⊥) → Adds (all_units (drawn_in T g s m)) a p c r
      noding_stop f = left_stop (all_units (drawn_in T g s m)) a p (concat_map (node_units (drawn_in T g s m)) (upto (s.nodes - (n + 1)) (n + 1))) c r next_nodes f

    pub noding_end : s.nodes ≤ n → Adds (all_units (drawn_in T g s m)) a p b q
    noding_end h =
        let y : s.nodes - n ≡ 0 = omega arith in
        left_end (all_units (drawn_in T g s m)) a p (concat_map (node_units (drawn_in T g s m)) (upto (s.nodes - n) n)) b q (rw y) I.left

-- ---- the whole

pub fine_none : (a : List ℕ) → Fine a (record { number = 0; place = 0; bytes = 0; units = 0; depth = 0 })
fine_none a = record { low = omega arith; few = omega arith; whole = λ f. absurd (f refl) }

module _ (D : Sketch) (a : List ℕ) (p : PenAnswer) (b : List ℕ) (q : PenAnswer) (A : Adds (all_units D) a p b q) (F : Fine a p) where
  noded : PenLeft (rest_units D) a p (utf8 "}" ∷ []) b q
  unfolding rest_units
  noded = left_next (rest_units D) a p (utf8 "}" ∷ []) a p (all_units D) b q (left_start (rest_units D) a p F) A

  pub rest_stop : (q.number ≡ 0 → ⊥) → Adds (rest_units D) a p b q
  rest_stop f = left_stop (rest_units D) a p (utf8 "}" ∷ []) b q noded f

  pub rest_closed : (c : List ℕ) (r : PenAnswer) → Adds (utf8 "}" ∷ []) b q c r → Adds (rest_units D) a p c r
  rest_closed c r C = left_end (rest_units D) a p [] c r refl (left_next (rest_units D) a p [] b q (utf8 "}" ∷ []) c r noded C)

module _ (D : Sketch) (a : List ℕ) (p : PenAnswer) (b : List ℕ) (q : PenAnswer) (O : Adds (utf8 "digraph {" ∷ []) a p b q) (F : Fine a p) where
  opened : PenLeft (drawing_units D) a p (rest_units D) b q
  unfolding drawing_units
  opened = left_next (drawing_units D) a p (rest_units D) a p (utf8 "digraph {" ∷ []) b q (left_start (drawing_units D) a p F) O

  pub whole_stop : (q.number ≡ 0 → ⊥) → Adds (drawing_units D) a p b q
  whole_stop f = left_stop (drawing_units D) a p (rest_units D) b q opened f

  pub whole_rest : (c : List ℕ) (r : PenAnswer) → Adds (rest_units D) b q c r → Adds (drawing_units D) a p c r
  whole_rest c r A = left_end (drawing_units D) a p [] c r refl (left_next (drawing_units D) a p [] b q (rest_units D) c r (rw append-nil opened) A)

pub adds_fine : (us : List (List ℕ)) (a : List ℕ) (p : PenAnswer) (b : List ℕ) (q : PenAnswer) → Adds us a p b q → Fine b q
adds_fine us a p b q A = A.fine
