-- What `group_words` and `nodes` promise determines every number of the tables that were lent.
use Rattle.std.specs.Prelude.{◌≡◌, List, ℕ, zero, suc, ◌+◌, ◌-◌, ◌/◌, ◌%◌, ◌<◌, ◌≤◌, length, get_or, eqb, ltb}
use Rattle.std.proofs.Math.Path.{sym}
use Rattle.std.proofs.Common.{ap, ◌∙◌, arith, ext_get_or}
use borrow.Author.Tests.{eqb-true, eqb-false, lt-ltb, ltb-true, ltb-false}
use Rattle.basis.specs.Lists.{upto}
use Rattle.basis.specs.Members.{split}
use Rattle.store.specs.declared.Edge.{Edge}
use Rattle.plan.specs.Fields.{head_in, tail_in, run_in, run_first, run_end, tag_in, merged_in, lead_in, mate_field, solvable_in, sets_first, sets_end, reason_in, sets_from}
use Rattle.plan.specs.Fields.{runs_from}
use Rattle.planning.specs.Kids.{lead_at, merged_at, next_at}
use Rattle.planning.specs.RunsExact.{only_one, length_upto}
use Rattle.planning.specs.Written.{RunFor}
use Rattle.planning.specs.SortExact.{each_length, SameTiles, tiles_one}
use Rattle.planning.specs.KindsExact.{sets_length, sets_one}
use Rattle.planning.specs.Grouping.{GroupsDone}
use Rattle.planning.specs.Node.{NodeLaid, popping}
use Rattle.planning.specs.Nodes.{edges_of}
use Rattle.planning.specs.Stacked.{Stacked}
use Rattle.planning.specs.Building.{NodesDone}

-- a bit is known from a test of it
bit_one : (x y : ℕ) → x < 2 → y < 2 → eqb x 1 ≡ eqb y 1 → x ≡ y
bit_one x y a b q =
    split (eqb y 1)
    (λ t. eqb-true x 1 (q ∙ t) ∙ sym (eqb-true y 1 t))
    (λ t. omega (arith, eqb-false x 1 (q ∙ t), eqb-false y 1 t))

-- ---- the table of groups

group_word : (v w : ℕ) → v % 128 ≡ w % 128 → v / 128 % 2 ≡ w / 128 % 2 → v / 256 ≡ w / 256 → v ≡ w
group_word v w a b c = let q : v / 128 ≡ w / 128 = omega arith in low a q
  where
    low : v % 128 ≡ w % 128 → v / 128 ≡ w / 128 → v ≡ w
    low a q = omega arith

pub groups_done_one : (ld t gr gs : List ℕ) (m : ℕ) → GroupsDone ld t gr m → GroupsDone ld t gs m → gr ≡ gs
unfolding lead_at merged_at next_at
groups_done_one ld t gr gs m R S =
    only_one t gr gs 0 m R.only S.only
    (λ i a b. group_word (get_or gr i 0) (get_or gs i 0)
    (R.done.lead i a b ∙ sym (S.done.lead i a b))
    (bit_one (get_or gr i 0 / 128 % 2) (get_or gs i 0 / 128 % 2) (omega arith) (omega arith) (R.done.merged i a b ∙ sym (S.done.merged i a b)))
    (R.done.next i a b ∙ sym (S.done.next i a b)))

-- ---- the words of a node

module _ (v w : ℕ) where
  h0 : v % 2048 ≡ w % 2048 → v / 2048 ≡ w / 2048 → v ≡ w
  h0 a b = omega arith

  h1 : v / 2048 % 2048 ≡ w / 2048 % 2048 → v / 4194304 ≡ w / 4194304 → v / 2048 ≡ w / 2048
  h1 a b = omega arith

  h2 : v / 4194304 % 8 ≡ w / 4194304 % 8 → v / 33554432 ≡ w / 33554432 → v / 4194304 ≡ w / 4194304
  h2 a b = omega arith

  h3 : v / 33554432 % 2 ≡ w / 33554432 % 2 → v / 67108864 ≡ w / 67108864 → v / 33554432 ≡ w / 33554432
  h3 a b = omega arith

  h4 : v / 67108864 % 128 ≡ w / 67108864 % 128 → v / 8589934592 ≡ w / 8589934592 → v / 67108864 ≡ w / 67108864
  h4 a b = omega arith

  h5 : v / 8589934592 % 256 ≡ w / 8589934592 % 256 → v / 2199023255552 ≡ w / 2199023255552 → v / 8589934592 ≡ w / 8589934592
  h5 a b = omega arith

  h6 : v < 144115188075855872 → w < 144115188075855872 → v / 2199023255552 % 65536 ≡ w / 2199023255552 % 65536 → v / 2199023255552 ≡ w / 2199023255552
  h6 a b c = omega arith

  t1 : v < 274877906944 → w < 274877906944 → v / 4194304 % 65536 ≡ w / 4194304 % 65536 → v / 4194304 ≡ w / 4194304
  t1 a b c = omega arith

-- the same node
pub record SameNode (p k u v : List ℕ) (n rc re kc ke : ℕ) : Type 0 where
  pub head : head_in p n ≡ head_in u n
  pub tail : tail_in p n ≡ tail_in u n
  pub words : (j : ℕ) → rc ≤ j → j < re → run_in p j ≡ run_in u j
  pub places : (i : ℕ) → kc ≤ i → i < ke → get_or k i 0 ≡ get_or v i 0

module _ (g ms gr : List ℕ) (es : List Edge) (lo hi : ℕ) (p k u v : List ℕ) (n re ke : ℕ) where
  head_one : (rc kc kd : ℕ) → NodeLaid g ms gr es lo p k n rc re kc ke → NodeLaid g ms gr es hi u v n rc re kd ke → head_in p n ≡ head_in u n
  unfolding run_first run_end tag_in merged_in lead_in mate_field solvable_in
  head_one rc kc kd P Q =
      let a : head_in p n % 2048 ≡ head_in u n % 2048 = P.first ∙ sym Q.first in
      let b : head_in p n / 2048 % 2048 ≡ head_in u n / 2048 % 2048 = P.end ∙ sym Q.end in
      h0 (head_in p n) (head_in u n) a
      (h1 (head_in p n) (head_in u n) b
      (h2 (head_in p n) (head_in u n) (P.tag ∙ sym Q.tag)
      (h3 (head_in p n) (head_in u n) (bit_one (head_in p n / 33554432 % 2) (head_in u n / 33554432 % 2) (omega arith) (omega arith) (P.merged ∙ sym Q.merged))
      (h4 (head_in p n) (head_in u n) (P.lead ∙ sym Q.lead)
      (h5 (head_in p n) (head_in u n) (P.mate ∙ sym Q.mate)
      (h6 (head_in p n) (head_in u n) P.short_head Q.short_head (P.solvable ∙ sym Q.solvable)))))))

  tail_one : (rc kc kd : ℕ) → NodeLaid g ms gr es lo p k n rc re kc ke → NodeLaid g ms gr es hi u v n rc re kd ke → kc ≡ kd → sets_end p n ≡ sets_end u n
      → tail_in p n ≡ tail_in u n
  unfolding sets_first sets_end reason_in
  tail_one rc kc kd P Q e f =
      h0 (tail_in p n) (tail_in u n) (P.low ∙ e ∙ sym Q.low)
      (h1 (tail_in p n) (tail_in u n) f (t1 (tail_in p n) (tail_in u n) P.short_tail Q.short_tail (P.reason ∙ sym Q.reason)))

  laid_runs : (rc rd kc kd : ℕ) → NodeLaid g ms gr es lo p k n rc re kc ke → NodeLaid g ms gr es hi u v n rd re kd ke → rd ≡ rc
  unfolding runs_from
  laid_runs rc rd kc kd P Q =
      let l : re - rc ≡ re - rd =
      sym (length_upto (re - rc) rc) ∙ each_length (RunFor g ms gr p k lo) (upto (re - rc) rc) (popping ms es) P.runs
      ∙ sym (each_length (RunFor g ms gr u v hi) (upto (re - rd) rd) (popping ms es) Q.runs) ∙ length_upto (re - rd) rd in
      omega (arith, P.down, Q.down)

  laid_tiles : (rc kc kd : ℕ) → NodeLaid g ms gr es lo p k n rc re kc ke → NodeLaid g ms gr es hi u v n rc re kd ke
      → SameTiles p k u v (re - rc) rc (sets_end p n) (sets_end u n) ke
  unfolding runs_from
  laid_tiles rc kc kd P Q =
      tiles_one g ms gr p k u v lo hi (re - rc) rc (sets_end p n) (sets_end u n) ke (popping ms es) P.runs Q.runs P.tiled Q.tiled P.small
      Q.small

  laid_sets : (rc kc kd : ℕ) → NodeLaid g ms gr es lo p k n rc re kc ke → NodeLaid g ms gr es hi u v n rc re kd ke → sets_end p n ≡ sets_end u n → kc ≡ kd
  laid_sets rc kc kd P Q e =
      let l : sets_end p n - kc ≡ sets_end u n - kd = sym (sets_length k kc (sets_end p n)) ∙ ap length (P.sets ∙ sym Q.sets)
      ∙ sets_length v kd (sets_end u n) in
      omega (arith, P.under, Q.under)

  laid_one : (rc kc kd : ℕ) → NodeLaid g ms gr es lo p k n rc re kc ke → NodeLaid g ms gr es hi u v n rc re kd ke → (kc ≡ kd) × SameNode p k u v n rc re kc ke
  laid_one rc kc kd P Q =
      let s = laid_tiles rc kc kd P Q in
      let e : kc ≡ kd = laid_sets rc kc kd P Q s.from in
      let q : sets_from k kc (sets_end p n) ≡ sets_from v kc (sets_end p n) = rw (e, s.from) (rw (e, s.from) at P.sets ∙ sym Q.sets) in (
        e,
        record {
          head = head_one rc kc kd P Q;
          tail = tail_one rc kc kd P Q e s.from;
          words = λ j a b. s.words j a (omega arith);
          places = λ i a b. split (ltb i (sets_end p n))
              (λ t. sets_one k v kc (sets_end p n) q i a (ltb-true i (sets_end p n) t))
              (λ t. s.places i (ltb-false i (sets_end p n) t) b);
        },
      )

-- ---- all nodes

pub record SameStack (p k u v : List ℕ) (n rc rd kc kd : ℕ) : Type 0 where
  pub run : rc ≡ rd
  pub place : kc ≡ kd
  pub nodes : (m : ℕ) → m < n → (head_in p m ≡ head_in u m) × (tail_in p m ≡ tail_in u m)
  pub words : (j : ℕ) → rc ≤ j → j < 1024 → run_in p j ≡ run_in u j
  pub places : (i : ℕ) → kc ≤ i → i < 1024 → get_or k i 0 ≡ get_or v i 0

module _ (g ls ms gr : List ℕ) (lo hi : ℕ) (p k u v : List ℕ) where
  stack_one : (n rc rd kc kd : ℕ) → Stacked g ls ms gr lo p k n rc kc → Stacked g ls ms gr hi u v n rd kd → SameStack p k u v n rc rd kc kd
  stack_one zero rc rd kc kd P Q =
      record {
        run = P.0 ∙ sym Q.0;
        place = P.1 ∙ sym Q.1;
        nodes = λ m h. absurd (never m h);
        words = λ j a b. absurd (past j rc P.0 a b);
        places = λ i a b. absurd (past i kc P.1 a b);
      }
    where
      never : (m : ℕ) → m < 0 → ⊥
      never m h = omega arith

      past : (j c : ℕ) → c ≡ 1024 → c ≤ j → j < 1024 → ⊥
      past j c q a b = omega arith
  stack_one (suc n) rc rd kc kd P Q =
      let ih = stack_one n P.0 Q.0 P.1 Q.1 P.3 Q.3 in
      let re : Q.0 ≡ P.0 = sym ih.run in
      let ke : Q.1 ≡ P.1 = sym ih.place in
      let y : NodeLaid g ms gr (edges_of g ls n) hi u v n rd P.0 kd P.1 = rw (re, ke) at Q.2 in
      let e : rd ≡ rc = laid_runs g ms gr (edges_of g ls n) lo hi p k u v n P.0 P.1 rc rd kc kd P.2 y in
      let x = laid_one g ms gr (edges_of g ls n) lo hi p k u v n P.0 P.1 rc kc kd P.2 (rw e at y) in
      record {
        run = sym e;
        place = x.0;
        nodes = λ m h. split (eqb m n)
            (λ t. rw (eqb-true m n t) (x.1.head, x.1.tail))
            (λ t. ih.nodes m (omega (arith, eqb-false m n t)));
        words = λ j a b. split (ltb j P.0) (λ t. x.1.words j a (ltb-true j P.0 t)) (λ t. ih.words j (ltb-false j P.0 t) b);
        places = λ i a b. split (ltb i P.1) (λ t. x.1.places i a (ltb-true i P.1 t)) (λ t. ih.places i (ltb-false i P.1 t) b);
      }

module _ (g ls ms gr : List ℕ) (count : ℕ) (p₀ k₀ p k u v : List ℕ) (P : NodesDone g ls ms gr count p₀ k₀ p k) (Q : NodesDone g ls ms gr count p₀ k₀ u v) where
  same : SameStack p k u v count P.runs Q.runs P.places Q.places
  same = stack_one g ls ms gr P.places Q.places p k u v count P.runs Q.runs P.places Q.places P.stack Q.stack

  node_words_lem : (m : ℕ) → m < 128 → (get_or p m 0 ≡ get_or u m 0) × (get_or p (128 + m) 0 ≡ get_or u (128 + m) 0)
  unfolding head_in tail_in
  node_words_lem m h =
      split (ltb m count)
      (λ t. rw (lt-ltb m 128 h) at (same.nodes m (ltb-true m count t)))
      (λ t. let a = P.rest m (ltb-false m count t) h in let b = Q.rest m (ltb-false m count t) h in (a.0 ∙ sym b.0, a.1 ∙ sym b.1))

  run_at : (r : ℕ) → r < 1024 → get_or p (256 + r) 0 ≡ get_or u (256 + r) 0
  unfolding run_in
  run_at r h =
      split (ltb r P.runs)
      (λ t. let l : r < P.runs = ltb-true r P.runs t in P.blank r l ∙ sym (Q.blank r (omega (arith, same.run))))
      (λ t. rw (lt-ltb r 1024 h) at (same.words r (ltb-false r P.runs t) h))

  p_at : (i : ℕ) → i < 1280 → get_or p i 0 ≡ get_or u i 0
  p_at i h =
      split (ltb i 128)
      (λ t. (node_words_lem i (ltb-true i 128 t)).0)
      (λ t. let a : 128 ≤ i = ltb-false i 128 t in
      split (ltb i 256)
      (λ s. let b : i < 256 = ltb-true i 256 s in let e : 128 + (i - 128) ≡ i = omega arith in rw e at (node_words_lem (i - 128) (omega arith)).1)
      (λ s. let b : 256 ≤ i = ltb-false i 256 s in let e : 256 + (i - 256) ≡ i = omega arith in rw e at (run_at (i - 256) (omega arith))))

  k_at : (i : ℕ) → i < 1024 → get_or k i 0 ≡ get_or v i 0
  k_at i h =
      split (ltb i P.places)
      (λ t. let l : i < P.places = ltb-true i P.places t in P.under i l ∙ sym (Q.under i (omega (arith, same.place))))
      (λ t. same.places i (ltb-false i P.places t) h)

  pub nodes_done_one : (p ≡ u) × (k ≡ v)
  nodes_done_one = (
    ext_get_or 0 p u (P.p_long ∙ sym Q.p_long) (λ i h. p_at i (omega (arith, P.p_long))),
    ext_get_or 0 k v (P.k_long ∙ sym Q.k_long) (λ i h. k_at i (omega (arith, P.k_long))),
  )
