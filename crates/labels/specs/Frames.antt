-- Post-order by a stack of frames: finishing the frames from here gives the walk of the definition. A frame is a node that is
-- not left yet and where its oldest-first chain goes on: node + 128 × stored link.
use Rattle.std.specs.Prelude.{◌≡◌, refl, Bool, true, false, ℕ, zero, suc, ◌+◌, ◌*◌, ◌-◌, ◌/◌, ◌%◌, ◌<◌, ◌≤◌, eqb, get_or, set, replicate}
use Rattle.std.proofs.Common.{sym, ◌∙◌, not-suc-le-zero, sub-one, eqb-true, get_or-set_same}
use Rattle.std.proofs.Math.Path.{ap}
use mathlib.Core.List.{List, [], ◌∷◌}
use Rattle.std.proofs.Math.Numerals.{add-one}
use native.Mathlib.Omega.{arith}
use Rattle.std.proofs.lemmas.Bool.{eqb-false}
use Rattle.std.proofs.Math.ListN.{length, take, length-set}
use Rattle.std.proofs.lemmas.List.{length-replicate}
use Rattle.std.proofs.Math.Seq.{get_or-set_other, take-suc-set}
use Rattle.basis.specs.Members.{split}
use Rattle.store.specs.declared.Size.{Size}
use Rattle.store.specs.Table.{graph_in, edge_in, Stored, nodes_count}
use Rattle.links.specs.Build.{Chains}
use Rattle.links.specs.Walk.{Old, first_old, next_old, targets_left, old_start, old_all, old_next, old_cons, old_end, old_target}
use Rattle.labels.specs.Order.{Walk, mark, leave, through, visit, postorder}
use Rattle.labels.specs.Walks.{unseen, unseen_le, unseen_some, unseen_mark, visit_past, visit_new, Inner, Ok}
use Rattle.labels.specs.Labels.{targets, order_of}
use Rattle.labels.specs.Facts.{inner, blank}
use Rattle.labels.specs.Bounds.{sound, targets_few}

-- the definition's own visit, of the graph that the table holds
unfoldable pub visit_in : List ℕ → Size → ℕ → Walk → Walk
visit_in g s n w = visit s.nodes (targets (graph_in g s)) n w

-- the targets that a frame has still to take
abbrev pub rest : List ℕ → Size → ℕ → List ℕ
rest g s x = targets_left g s (x % 128) (x / 128)

-- what is left when all frames, the top first, are finished
unfoldable pub fin : List ℕ → Size → List ℕ → Walk → Walk
fin g s [] w = w
fin g s (x ∷ S) w = fin g s S (leave (x % 128) (through (visit_in g s) (rest g s x) w))

unfoldable pub frames_of : List ℕ → ℕ → List ℕ
frames_of fs zero = []
frames_of fs (suc h) = get_or fs h 0 ∷ frames_of fs h

-- how many turns the frames themselves can take
unfoldable pub weight : List ℕ → Size → List ℕ → ℕ
weight g s [] = 0
weight g s (x ∷ S) = length (rest g s x) + 1 + weight g s S

unfoldable pub whole : List ℕ → Size → List ℕ → List ℕ → List ℕ → ℕ → ℕ → Walk
whole g s ms os fs h k = fin g s (frames_of fs h) (record { marks = ms; left = take k os })

-- a node that is not seen yet can bring its own frame and at most 1,024 targets
unfoldable pub turns : List ℕ → Size → List ℕ → List ℕ → ℕ → ℕ
turns g s ms fs h = 1026 * unseen s.nodes ms + weight g s (frames_of fs h)

pub record Inside (g : List ℕ) (s : Size) (ls ms os fs : List ℕ) (h k : ℕ) : Type 0 where
  pub chains : Chains g s ls
  pub mlen : length ms ≡ 128
  pub olen : length os ≡ 128
  pub flen : length fs ≡ 128
  pub room : h + k + unseen s.nodes ms ≤ s.nodes
  pub node : (i : ℕ) → i < h → get_or fs i 0 % 128 < s.nodes
  pub old : (i : ℕ) → i < h → Old g s ls (get_or fs i 0 % 128) (get_or fs i 0 / 128)

pub record PostTurned (g : List ℕ) (s : Size) (ls ms os fs : List ℕ) (h k : ℕ) (ms' os' fs' : List ℕ) (h' k' : ℕ) : Type 0 where
  pub inside : Inside g s ls ms' os' fs' h' k'
  pub same : whole g s ms' os' fs' h' k' ≡ whole g s ms os fs h k
  pub less : turns g s ms' fs' h' < turns g s ms fs h

opened : (fs : List ℕ) (h : ℕ) → frames_of fs (suc h) ≡ get_or fs h 0 ∷ frames_of fs h
unfolding frames_of
opened fs h = refl

frames_set : (fs : List ℕ) (h j v : ℕ) → h ≤ j → frames_of (set fs j v) h ≡ frames_of fs h
unfolding frames_of
frames_set fs zero j v l = refl
frames_set fs (suc h) j v l = rw (get_or-set_other fs j h v 0 (λ q. omega arith), frames_set fs h j v (omega arith))

-- ---- visits of the graph that the table holds

module _ (g : List ℕ) (s : Size) (S : Stored g s) where
  inner_in : Inner (targets (graph_in g s)) s.nodes
  inner_in = rw (nodes_count g s S) at (inner (graph_in g s) (sound g s S))

  in_new : (n : ℕ) (w : Walk) → n < s.nodes → Ok s.nodes s.nodes w → get_or w.marks n 0 ≡ 0
      → visit_in g s n w ≡ leave n (through (visit_in g s) (targets (graph_in g s) n) (mark n w))
  unfolding visit_in
  in_new n w h o e = visit_new s.nodes (targets (graph_in g s)) inner_in n w h o e

in_past : (g : List ℕ) (s : Size) (n : ℕ) (w : Walk) → (get_or w.marks n 0 ≡ 0 → ⊥) → visit_in g s n w ≡ w
unfolding visit_in
in_past g s n w e = visit_past s.nodes (targets (graph_in g s)) n w e

rest_all : (g : List ℕ) (s : Size) (ls : List ℕ) (n r : ℕ) → Chains g s ls → n < s.nodes → r ≡ first_old ls n → targets_left g s n r ≡ targets (graph_in g s) n
unfolding targets
rest_all g s ls n r c h q = old_all g s ls n r c h q

-- ---- the top frame

module _ (g : List ℕ) (s : Size) (ls : List ℕ) (x : ℕ) (S : List ℕ) (w : Walk) where
  fin_leave : x / 128 ≤ 0 → fin g s S (leave (x % 128) w) ≡ fin g s (x ∷ S) w
  unfolding fin through
  fin_leave h = rw (old_end g s (x % 128) (x / 128) h)

  module _ (r : ℕ) (o : Old g s ls (x % 128) (x / 128)) (p : 0 < x / 128) (q : r ≡ next_old ls (x / 128 - 1)) where
    next_node : (x % 128 + 128 * r) % 128 ≡ x % 128
    next_node = omega arith

    next_place : (x % 128 + 128 * r) / 128 ≡ r
    next_place = omega arith

    rest_next : rest g s x ≡ (edge_in g (x / 128 - 1)).target ∷ rest g s (x % 128 + 128 * r)
    rest_next = rw (next_node, next_place) (old_cons g s ls (x % 128) (x / 128) r o p q)

    -- one target more
    fin_one : fin g s ((x % 128 + 128 * r) ∷ S) (visit_in g s (edge_in g (x / 128 - 1)).target w) ≡ fin g s (x ∷ S) w
    unfolding fin through
    fin_one = rw (rest_next, next_node)

    fin_skip : (m : ℕ) → m ≡ (edge_in g (x / 128 - 1)).target → (get_or w.marks m 0 ≡ 0 → ⊥) → fin g s ((x % 128 + 128 * r) ∷ S) w ≡ fin g s (x ∷ S) w
    fin_skip m e f = ap (fin g s ((x % 128 + 128 * r) ∷ S)) (sym (in_past g s m w f) ∙ ap (λ (t : ℕ). visit_in g s t w) e) ∙ fin_one

    fin_push : (m f : ℕ) → Chains g s ls → m ≡ (edge_in g (x / 128 - 1)).target → m < s.nodes → f ≡ first_old ls m → Ok s.nodes s.nodes w
        → get_or w.marks m 0 ≡ 0 → fin g s ((m + 128 * f) ∷ (x % 128 + 128 * r) ∷ S) (mark m w) ≡ fin g s (x ∷ S) w
    unfolding fin
    fin_push m f c e h k ok z =
        let l : s.nodes ≤ 128 = c.stored.nodes_most in
        let a : (m + 128 * f) % 128 ≡ m = omega arith in
        let b : (m + 128 * f) / 128 ≡ f = omega arith in
        rw (a, b, rest_all g s ls m f c h k)
        (ap (fin g s ((x % 128 + 128 * r) ∷ S)) (sym (in_new g s c.stored m w h ok z) ∙ ap (λ (t : ℕ). visit_in g s t w) e) ∙ fin_one)

-- ---- one turn of the code: the three ways out, with the top frame at place j

module _ (g : List ℕ) (s : Size) (ls ms os fs : List ℕ) (k j x : ℕ) (I : Inside g s ls ms os fs (suc j) k) (q : x ≡ get_or fs j 0) where
  top_node : x % 128 < s.nodes
  top_node = rw q (I.node j (omega arith))

  top_old : Old g s ls (x % 128) (x / 128)
  top_old = rw q (I.old j (omega arith))

  below_top : j < length fs
  below_top = omega (arith, I.room, I.chains.stored.nodes_most, I.flen)

  leave_at : x / 128 ≤ 0 → PostTurned g s ls ms os fs (suc j) k ms (set os k (x % 128)) fs j (k + 1)
  unfolding whole frames_of turns weight
  leave_at h =
      let c : k < length os = omega (arith, I.room, I.chains.stored.nodes_most, I.olen) in
      record {
        inside = record {
          chains = I.chains;
          mlen = I.mlen;
          olen = rw length-set I.olen;
          flen = I.flen;
          room = omega (arith, I.room);
          node = λ i l. I.node i (omega arith);
          old = λ i l. I.old i (omega arith);
        };
        same = rw (← q, add-one, take-suc-set os k (x % 128) c) (fin_leave g s ls x (frames_of fs j) (record { marks = ms; left = take k os }) h);
        less = omega arith;
      }

  module _ (m r : ℕ) (p : 0 < x / 128) (qm : m ≡ (edge_in g (x / 128 - 1)).target) (qr : r ≡ next_old ls (x / 128 - 1)) where
    abbrev fs₁ : List ℕ
    fs₁ = set fs j (x % 128 + 128 * r)

    node₁ : (x % 128 + 128 * r) % 128 ≡ x % 128
    node₁ = omega arith

    place₁ : (x % 128 + 128 * r) / 128 ≡ r
    place₁ = omega arith

    target_node : m < s.nodes
    target_node = old_target g s ls (x % 128) (x / 128) m top_old p qm

    at_top : get_or fs₁ j 0 ≡ x % 128 + 128 * r
    at_top = get_or-set_same fs j (x % 128 + 128 * r) 0 below_top

    shorter : length (rest g s x) ≡ suc (length (rest g s (x % 128 + 128 * r)))
    shorter = ap length (rest_next g s ls x [] (record { marks = ms; left = os }) r top_old p qr)

    node_skip : (i : ℕ) → i < suc j → get_or fs₁ i 0 % 128 < s.nodes
    node_skip i h =
        split (eqb i j) (λ t. rw (eqb-true i j t, at_top, node₁) top_node)
        (λ t. rw (get_or-set_other fs j i (x % 128 + 128 * r) 0 (eqb-false i j t)) (I.node i h))

    old_skip : (i : ℕ) → i < suc j → Old g s ls (get_or fs₁ i 0 % 128) (get_or fs₁ i 0 / 128)
    old_skip i h =
        split (eqb i j) (λ t. rw (eqb-true i j t, at_top, node₁, place₁) (old_next g s ls (x % 128) (x / 128) r top_old p qr))
        (λ t. rw (get_or-set_other fs j i (x % 128 + 128 * r) 0 (eqb-false i j t)) (I.old i h))

    skip_at : (get_or ms m 0 ≡ 0 → ⊥) → PostTurned g s ls ms os fs (suc j) k ms os fs₁ (suc j) k
    unfolding whole frames_of turns weight
    skip_at f =
        record {
          inside =
              record { chains = I.chains; mlen = I.mlen; olen = I.olen; flen = rw length-set I.flen; room = I.room; node = node_skip; old = old_skip };
          same = rw (at_top, frames_set fs j j (x % 128 + 128 * r) (omega arith), ← q)
              (fin_skip g s ls x (frames_of fs j) (record { marks = ms; left = take k os }) r top_old p qr m qm f);
          less = rw (at_top, frames_set fs j j (x % 128 + 128 * r) (omega arith), ← q) (omega (arith, shorter));
        }

    module _ (f : ℕ) (qf : f ≡ first_old ls m) (new : get_or ms m 0 ≡ 0) where
      abbrev fs₂ : List ℕ
      fs₂ = set fs₁ (suc j) (m + 128 * f)

      fewer : unseen s.nodes (set ms m 1) + 1 ≡ unseen s.nodes ms
      fewer = unseen_mark s.nodes m ms target_node (omega (arith, target_node, I.chains.stored.nodes_most, I.mlen)) new

      room_top : suc j < length fs₁
      room_top = rw length-set (omega (arith, I.room, I.chains.stored.nodes_most, I.flen, fewer))

      top : get_or fs₂ (suc j) 0 ≡ m + 128 * f
      top = get_or-set_same fs₁ (suc j) (m + 128 * f) 0 room_top

      under : frames_of fs₂ (suc j) ≡ (x % 128 + 128 * r) ∷ frames_of fs j
      unfolding frames_of
      under =
          rw (
            get_or-set_other fs₁ (suc j) j (m + 128 * f) 0 (λ e. omega arith),
            at_top,
            frames_set fs₁ j (suc j) (m + 128 * f) (omega arith),
            frames_set fs j j (x % 128 + 128 * r) (omega arith),
          )

      node₂ : (m + 128 * f) % 128 ≡ m
      node₂ = omega (arith, I.chains.stored.nodes_most, target_node)

      place₂ : (m + 128 * f) / 128 ≡ f
      place₂ = omega (arith, I.chains.stored.nodes_most, target_node)

      node_push : (i : ℕ) → i < suc (suc j) → get_or fs₂ i 0 % 128 < s.nodes
      node_push i h =
          split (eqb i (suc j)) (λ t. rw (eqb-true i (suc j) t, top, node₂) target_node)
          (λ t. let d : i ≡ suc j → ⊥ = eqb-false i (suc j) t in rw (get_or-set_other fs₁ (suc j) i (m + 128 * f) 0 d) (node_skip i (omega (arith, d))))

      old_push : (i : ℕ) → i < suc (suc j) → Old g s ls (get_or fs₂ i 0 % 128) (get_or fs₂ i 0 / 128)
      old_push i h =
          split (eqb i (suc j)) (λ t. rw (eqb-true i (suc j) t, top, node₂, place₂) (old_start g s ls m f I.chains target_node qf))
          (λ t. let d : i ≡ suc j → ⊥ = eqb-false i (suc j) t in rw (get_or-set_other fs₁ (suc j) i (m + 128 * f) 0 d) (old_skip i (omega (arith, d))))

      both : frames_of fs₂ (suc (suc j)) ≡ (m + 128 * f) ∷ (x % 128 + 128 * r) ∷ frames_of fs j
      both = opened fs₂ (suc j) ∙ ap (λ (t : ℕ). t ∷ frames_of fs₂ (suc j)) top ∙ ap (λ (t : List ℕ). (m + 128 * f) ∷ t) under

      short : length (rest g s (m + 128 * f)) ≤ 1024
      short = rw (node₂, place₂, rest_all g s ls m f I.chains target_node qf) (targets_few g s I.chains.stored m)

      less_push : turns g s (set ms m 1) fs₂ (suc (suc j)) < turns g s ms fs (suc j)
      unfolding turns weight
      less_push = rw (both, opened fs j, ← q) (omega (arith, fewer, short, shorter))

      push_at : PostTurned g s ls ms os fs (suc j) k (set ms m 1) os fs₂ (suc (suc j)) k
      unfolding whole
      push_at =
          record {
            inside = record {
              chains = I.chains;
              mlen = rw length-set I.mlen;
              olen = I.olen;
              flen = rw (length-set, length-set) I.flen;
              room = omega (arith, I.room, fewer);
              node = node_push;
              old = old_push;
            };
            same = rw (both, opened fs j, ← q)
                (fin_push g s ls x (frames_of fs j) (record { marks = ms; left = take k os }) r top_old p qr m f I.chains qm target_node qf
                (record { long = omega (arith, I.mlen, I.chains.stored.nodes_most); few = omega (arith, I.room) }) new);
            less = less_push;
          }

-- ---- as the code leaves them

module _ (g : List ℕ) (s : Size) (ls ms os fs : List ℕ) (h k : ℕ) (I : Inside g s ls ms os fs h k) (pos : 0 < h) where
  pub turn_leave : (x : ℕ) → x ≡ get_or fs (h - 1) 0 → x / 128 ≤ 0 → PostTurned g s ls ms os fs h k ms (set os k (x % 128)) fs (h - 1) (k + 1)
  turn_leave x q e = go h I pos q
    where
      go : (h : ℕ) → Inside g s ls ms os fs h k → 0 < h → x ≡ get_or fs (h - 1) 0 → PostTurned g s ls ms os fs h k ms (set os k (x % 128)) fs (h - 1) (k + 1)
      go zero I p q = absurd (not-suc-le-zero p)
      go (suc j) I p q = rw sub-one (leave_at g s ls ms os fs k j x I (rw sub-one at q) e)

  pub turn_skip : (x m r : ℕ) → x ≡ get_or fs (h - 1) 0 → 0 < x / 128 → m ≡ (edge_in g (x / 128 - 1)).target → r ≡ next_old ls (x / 128 - 1) → (get_or ms m 0 ≡ 0 → ⊥)
      → PostTurned g s ls ms os fs h k ms os (set fs (h - 1) (x % 128 + 128 * r)) h k
  turn_skip x m r q p qm qr f = go h I pos q
    where
      go : (h : ℕ) → Inside g s ls ms os fs h k → 0 < h → x ≡ get_or fs (h - 1) 0 → PostTurned g s ls ms os fs h k ms os (set fs (h - 1) (x % 128 + 128 * r)) h k
      go zero I o q = absurd (not-suc-le-zero o)
      go (suc j) I o q = rw sub-one (skip_at g s ls ms os fs k j x I (rw sub-one at q) m r p qm qr f)

  pub turn_push : (x m r f : ℕ) → x ≡ get_or fs (h - 1) 0 → 0 < x / 128 → m ≡ (edge_in g (x / 128 - 1)).target → r ≡ next_old ls (x / 128 - 1) → f ≡ first_old ls m
      → get_or ms m 0 ≡ 0 → PostTurned g s ls ms os fs h k (set ms m 1) os (set (set fs (h - 1) (x % 128 + 128 * r)) h (m + 128 * f)) (h + 1) k
  turn_push x m r f q p qm qr qf new = go h I pos q
    where
      go : (h : ℕ) → Inside g s ls ms os fs h k → 0 < h → x ≡ get_or fs (h - 1) 0
          → PostTurned g s ls ms os fs h k (set ms m 1) os (set (set fs (h - 1) (x % 128 + 128 * r)) h (m + 128 * f)) (h + 1) k
      go zero I o q = absurd (not-suc-le-zero o)
      go (suc j) I o q = rw (sub-one, add-one) (push_at g s ls ms os fs k j x I (rw sub-one at q) m r p qm qr f qf new)

  -- the indices of the code
  old_top : (x : ℕ) → x ≡ get_or fs (h - 1) 0 → Old g s ls (x % 128) (x / 128)
  old_top x q = rw q (I.old (h - 1) (omega arith))

  pub target_in : (x m : ℕ) → x ≡ get_or fs (h - 1) 0 → 0 < x / 128 → m ≡ (edge_in g (x / 128 - 1)).target → m < 128
  target_in x m q p qm = omega (arith, I.chains.stored.nodes_most, old_target g s ls (x % 128) (x / 128) m (old_top x q) p qm)

  pub frame_in_lem : (x m : ℕ) → x ≡ get_or fs (h - 1) 0 → 0 < x / 128 → m ≡ (edge_in g (x / 128 - 1)).target → get_or ms m 0 ≡ 0 → h < 128
  frame_in_lem x m q p qm new =
      let a : m < s.nodes = old_target g s ls (x % 128) (x / 128) m (old_top x q) p qm in
      omega (arith, I.room, I.chains.stored.nodes_most, unseen_some s.nodes m ms a new)

-- ---- the loop

-- no node is seen yet
pub record Fresh (ms os fs : List ℕ) : Type 0 where
  pub none : ms ≡ replicate 128 0
  pub olen : length os ≡ 128
  pub flen : length fs ≡ 128

unfoldable pub left_of : Walk → List ℕ
left_of w = w.left

module _ (g : List ℕ) (s : Size) (ls ms os fs : List ℕ) (f : ℕ) (c : Chains g s ls) (F : Fresh ms os fs) (qf : f ≡ first_old ls 0) where
  mlong : length ms ≡ 128
  mlong = ap length F.none ∙ length-replicate {A = ℕ} 128 0

  mzero : (t : ℕ) → get_or ms t 0 ≡ 0
  mzero t = rw F.none (blank 128 t)

  short_frames : 0 < length fs
  short_frames = omega (arith, F.flen)

  first_node : (128 * f) % 128 ≡ 0
  first_node = omega arith

  first_place : (128 * f) / 128 ≡ f
  first_place = omega arith

  pub start_in : Inside g s ls (set ms 0 1) os (set fs 0 (128 * f)) 1 0
  start_in =
      record {
        chains = c;
        mlen = rw length-set mlong;
        olen = F.olen;
        flen = rw length-set F.flen;
        room = omega (arith, unseen_mark s.nodes 0 ms c.stored.some (omega (arith, mlong)) (mzero 0), unseen_le s.nodes ms);
        node = λ i l. let z : i ≡ 0 = omega arith in rw (z, get_or-set_same fs 0 (128 * f) 0 short_frames, first_node) c.stored.some;
        old =
            λ i l. let z : i ≡ 0 = omega arith in rw (
              z,
              get_or-set_same fs 0 (128 * f) 0 short_frames,
              first_node,
              first_place,
            ) (old_start g s ls 0 f c c.stored.some qf);
      }

  first_whole : whole g s (set ms 0 1) os (set fs 0 (128 * f)) 1 0 ≡ visit_in g s 0 (record { marks = ms; left = [] })
  unfolding whole frames_of fin
  first_whole =
      let o : Ok s.nodes s.nodes (record { marks = ms; left = [] }) =
      record { long = omega (arith, mlong, c.stored.nodes_most); few = unseen_le s.nodes ms } in
      rw (get_or-set_same fs 0 (128 * f) 0 short_frames, first_node, first_place, rest_all g s ls 0 f c c.stored.some qf)
      (sym (in_new g s c.stored 0 (record { marks = ms; left = [] }) c.stored.some o (mzero 0)))

  start_whole : left_of (whole g s (set ms 0 1) os (set fs 0 (128 * f)) 1 0) ≡ order_of (graph_in g s)
  unfolding left_of order_of postorder visit_in
  start_whole = ap left_of first_whole ∙ rw (F.none, nodes_count g s c.stored)

pub turn_on : (g : List ℕ) (s : Size) (ls ms os fs : List ℕ) (h k : ℕ) (P : List ℕ) (ms' os' fs' : List ℕ) (h' k' : ℕ)
    → PostTurned g s ls ms os fs h k ms' os' fs' h' k' → left_of (whole g s ms os fs h k) ≡ P → left_of (whole g s ms' os' fs' h' k') ≡ P
turn_on g s ls ms os fs h k P ms' os' fs' h' k' t e = ap left_of t.same ∙ e

turn_end : (g : List ℕ) (s : Size) (ms os fs : List ℕ) (h k : ℕ) (P : List ℕ) → left_of (whole g s ms os fs h k) ≡ P → h ≤ 0 → take k os ≡ P
unfolding whole frames_of fin left_of
turn_end g s ms os fs zero k P e l = e
turn_end g s ms os fs (suc h) k P e l = absurd (not-suc-le-zero l)

-- the post-order in a table, k nodes
pub record Posted (g : List ℕ) (s : Size) (ls os : List ℕ) (k : ℕ) : Type 0 where
  pub chains : Chains g s ls
  pub is : take k os ≡ order_of (graph_in g s)
  pub long : length os ≡ 128
  pub few : k ≤ 128

-- every frame is finished
pub turn_done : (g : List ℕ) (s : Size) (ls ms os fs : List ℕ) (f : ℕ) (ms' os' fs' : List ℕ) (h k : ℕ) → Inside g s ls ms' os' fs' h k
    → left_of (whole g s ms' os' fs' h k) ≡ left_of (whole g s (set ms 0 1) os (set fs 0 (128 * f)) 1 0) → h ≤ 0 → Fresh ms os fs → f ≡ first_old ls 0
    → Posted g s ls os' k
turn_done g s ls ms os fs f ms' os' fs' h k I e l F qf =
    record {
      chains = I.chains;
      is = turn_end g s ms' os' fs' h k (order_of (graph_in g s)) (e ∙ start_whole g s ls ms os fs f I.chains F qf) l;
      long = I.olen;
      few = omega (arith, I.room, I.chains.stored.nodes_most);
    }
