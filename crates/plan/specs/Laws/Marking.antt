-- Marking a plan sets the bit of every head, and changes no other field.
use Rattle.std.specs.Prelude.{◌≡◌, refl, Bool, true, false, ◌||◌, List, ℕ, zero, suc, ◌+◌, ◌/◌, ◌%◌, ◌≤◌, ◌<◌, length, get_or, set, eqb, ltb}
use Rattle.std.proofs.Common.{sym, ◌∙◌, not-suc-le-zero, add-one, arith, length-set, get_or-set_same, get_or-set_other, eqb-true, eq-eqb, ne_eqb, lt-ltb, ltb-true}
use Rattle.std.proofs.Math.Path.{ap}
use Rattle.std.proofs.Math.Bool.{cond}
use Rattle.std.proofs.lemmas.Bool.{eqb-false}
use Rattle.basis.specs.Members.{split}
use Rattle.plan.specs.Fields.{head_in, tail_in, run_in, run_first, run_end, tag_in, merged_in, lead_in, mate_field, solvable_in}
use Rattle.plan.specs.Marking.{marked, mark_to, read_as}

-- ---- a head, as code marks it

pub mark_set : (w : ℕ) → w / 33554432 % 2 ≡ 1 → w ≡ marked w
unfolding marked
mark_set w e = rw (eq-eqb (w / 33554432 % 2) 1 e)

pub mark_new : (w : ℕ) → (w / 33554432 % 2 ≡ 1 → ⊥) → w + 33554432 ≡ marked w
unfolding marked
mark_new w e = rw (ne_eqb (w / 33554432 % 2) 1 e)

-- ---- the loop

pub mark_other : (n : ℕ) (p : List ℕ) (i : ℕ) → n ≤ i → get_or (mark_to n p) i 0 ≡ get_or p i 0
unfolding mark_to
mark_other zero p i h = refl
mark_other (suc n) p i h = get_or-set_other (mark_to n p) n i (marked (get_or p n 0)) 0 (λ q. omega arith) ∙ mark_other n p i (omega arith)

-- p has become u at node n
pub record Marking (p u : List ℕ) (n : ℕ) : Type 0 where
  pub is : u ≡ mark_to n p
  pub few : n ≤ 128

pub marking_none : (p : List ℕ) → Marking p p 0
unfolding mark_to
marking_none p = record { is = refl; few = omega arith }

pub marking_step : (p u u' : List ℕ) (n w v : ℕ) → Marking p u n → n < 128 → u' ≡ set u n v → v ≡ marked w → w ≡ get_or u n 0 → Marking p u' (n + 1)
unfolding mark_to
marking_step p u u' n w v m h s q r =
    let a : w ≡ get_or p n 0 = r ∙ ap (λ (l : List ℕ). get_or l n 0) m.is ∙ mark_other n p n (omega arith) in
    record { is = rw (add-one, s, q, a, m.is); few = omega arith }

pub marking_end : (p u : List ℕ) (n : ℕ) → Marking p u n → 128 ≤ n → u ≡ mark_to 128 p
marking_end p u n m h = let q : n ≡ 128 = omega (arith, m.few) in rw (sym q) m.is

pub read_every : (p u : List ℕ) (b : Bool) → b ≡ true → u ≡ mark_to 128 p → u ≡ read_as b p
unfolding read_as
read_every p u b e m = rw e m

pub read_as_it_is : (p : List ℕ) (b : Bool) → b ≡ false → p ≡ read_as b p
unfolding read_as
read_as_it_is p b e = rw e

-- ---- the words

mark_length : (n : ℕ) (p : List ℕ) → length (mark_to n p) ≡ length p
unfolding mark_to
mark_length zero p = refl
mark_length (suc n) p = length-set (mark_to n p) n (marked (get_or p n 0)) ∙ mark_length n p

mark_at_lem : (n : ℕ) (p : List ℕ) (i : ℕ) → i < n → n ≤ length p → get_or (mark_to n p) i 0 ≡ marked (get_or p i 0)
unfolding mark_to
mark_at_lem zero p i l h = absurd (not-suc-le-zero l)
mark_at_lem (suc n) p i l h =
    split (eqb i n)
    (λ q. rw (eqb-true i n q) (get_or-set_same (mark_to n p) n (marked (get_or p n 0)) 0 (omega (arith, mark_length n p))))
    (λ q. get_or-set_other (mark_to n p) n i (marked (get_or p n 0)) 0 (eqb-false i n q) ∙ mark_at_lem n p i (omega (arith, eqb-false i n q)) (omega arith))

-- p is marked, and is q then
pub record Marked (p q : List ℕ) : Type 0 where
  pub heads : (n : ℕ) → n < 128 → get_or q n 0 ≡ marked (get_or p n 0)
  pub rest : (i : ℕ) → 128 ≤ i → get_or q i 0 ≡ get_or p i 0

pub all_marked : (p : List ℕ) → length p ≡ 1280 → Marked p (mark_to 128 p)
all_marked p h = record { heads = λ n l. mark_at_lem 128 p n l (omega arith); rest = λ i l. mark_other 128 p i l }

-- ---- the fields of a head

by_mark : {X : Type 0} (w : ℕ) → (marked w ≡ w → w / 33554432 % 2 ≡ 1 → X) → (marked w ≡ w + 33554432 → w / 33554432 % 2 ≡ 0 → X) → X
by_mark w f g =
    split (eqb (w / 33554432 % 2) 1)
    (λ q. let e = eqb-true (w / 33554432 % 2) 1 q in f (sym (mark_set w e)) e)
    (λ q. let e = eqb-false (w / 33554432 % 2) 1 q in g (sym (mark_new w e)) (omega (arith, e)))

mark_merged : (w : ℕ) → marked w / 33554432 % 2 ≡ 1
mark_merged w = by_mark w (λ e q. rw e q) (λ e q. rw e (let a : (w + 33554432) / 33554432 ≡ w / 33554432 + 1 = omega arith in rw a (omega arith)))

-- below the bit
mark_first : (w : ℕ) → marked w % 2048 ≡ w % 2048
mark_first w = by_mark w (λ e q. rw e) (λ e q. rw e (omega arith))

mark_last : (w : ℕ) → marked w / 2048 % 2048 ≡ w / 2048 % 2048
mark_last w = by_mark w (λ e q. rw e) (λ e q. rw e (let a : (w + 33554432) / 2048 ≡ w / 2048 + 16384 = omega arith in rw a (omega arith)))

mark_tag : (w : ℕ) → marked w / 4194304 % 8 ≡ w / 4194304 % 8
mark_tag w = by_mark w (λ e q. rw e) (λ e q. rw e (let a : (w + 33554432) / 4194304 ≡ w / 4194304 + 8 = omega arith in rw a (omega arith)))

-- above it
mark_above : (w : ℕ) → marked w / 67108864 ≡ w / 67108864
mark_above w = by_mark w (λ e q. rw e) (λ e q. rw e (omega arith))

mark_mate : (w : ℕ) → marked w / 8589934592 ≡ w / 8589934592
mark_mate w = let a = mark_above w in omega arith

mark_solvable : (w : ℕ) → marked w / 2199023255552 ≡ w / 2199023255552
mark_solvable w = let a = mark_above w in omega arith

-- ---- the fields of a plan

-- q reads as p does, but for which packages are reported: all where `every`
pub record Reads (every : Bool) (p q : List ℕ) : Type 0 where
  pub merged : (n : ℕ) → n < 128 → merged_in q n ≡ every || merged_in p n
  pub first : (n : ℕ) → run_first q n ≡ run_first p n
  pub end : (n : ℕ) → run_end q n ≡ run_end p n
  pub tag : (n : ℕ) → tag_in q n ≡ tag_in p n
  pub lead : (n : ℕ) → lead_in q n ≡ lead_in p n
  pub mate : (n : ℕ) → mate_field q n ≡ mate_field p n
  pub solvable : (n : ℕ) → solvable_in q n ≡ solvable_in p n
  pub tails : (n : ℕ) → tail_in q n ≡ tail_in p n
  pub runs : (r : ℕ) → run_in q r ≡ run_in p r

module _ (p q : List ℕ) (m : Marked p q) where
  head_marked : (n : ℕ) → n < 128 → head_in q n ≡ marked (head_in p n)
  unfolding head_in
  head_marked n h = rw (lt-ltb n 128 h) (m.heads n h)

  all_merged : (n : ℕ) → n < 128 → merged_in q n ≡ true
  unfolding merged_in
  all_merged n h = rw (head_marked n h) (eq-eqb (marked (head_in p n) / 33554432 % 2) 1 (mark_merged (head_in p n)))

  -- a field of the head that the bit is no part of
  head_field : {A : Type 0} (f : ℕ → A) → ((w : ℕ) → f (marked w) ≡ f w) → (n : ℕ) → f (head_in q n) ≡ f (head_in p n)
  unfolding head_in
  head_field f s n =
      split (ltb n 128)
      (λ l. rw l (ap f (m.heads n (ltb-true n 128 l)) ∙ s (get_or p n 0)))
      (λ l. rw l)

  tails_same : (n : ℕ) → tail_in q n ≡ tail_in p n
  unfolding tail_in
  tails_same n = ap (λ (x : ℕ). cond (ltb n 128) x 0) (m.rest (128 + n) (omega arith))

  runs_same : (r : ℕ) → run_in q r ≡ run_in p r
  unfolding run_in
  runs_same r = ap (λ (x : ℕ). cond (ltb r 1024) x 0) (m.rest (256 + r) (omega arith))

  marked_reads : Reads true p q
  unfolding run_first run_end tag_in lead_in mate_field solvable_in
  marked_reads =
      record {
        merged = all_merged;
        first = head_field (λ w. w % 2048) mark_first;
        end = head_field (λ w. w / 2048 % 2048) mark_last;
        tag = head_field (λ w. w / 4194304 % 8) mark_tag;
        lead = head_field (λ w. w / 67108864 % 128) (λ w. ap (λ (x : ℕ). x % 128) (mark_above w));
        mate = head_field (λ w. w / 8589934592 % 256) (λ w. ap (λ (x : ℕ). x % 256) (mark_mate w));
        solvable = head_field (λ w. w / 2199023255552 % 65536) (λ w. ap (λ (x : ℕ). x % 65536) (mark_solvable w));
        tails = tails_same;
        runs = runs_same;
      }

pub read_reads : (every : Bool) (p : List ℕ) → length p ≡ 1280 → Reads every p (read_as every p)
unfolding read_as
read_reads true p h = marked_reads p (mark_to 128 p) (all_marked p h)
read_reads false p h =
    record {
      merged = λ n l. refl;
      first = λ n. refl;
      end = λ n. refl;
      tag = λ n. refl;
      lead = λ n. refl;
      mate = λ n. refl;
      solvable = λ n. refl;
      tails = λ n. refl;
      runs = λ r. refl;
    }
