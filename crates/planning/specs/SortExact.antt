-- The words of runs are known from what they say: part of why the plan is determined.
use Rattle.std.specs.Prelude.{◌≡◌, refl, List, [], ◌∷◌, length, get_or, eqb, ltb}
use Rattle.std.proofs.Common.{sym, ap, ◌∙◌, eqb-true, lt-ltb, ltb-true, ltb-false}
use Prim.Native.Nat.{ℕ, zero, suc, ◌+◌, ◌-◌, ◌/◌, ◌%◌, ◌<◌, ◌≤◌}
use native.Mathlib.Omega.{arith}
use Rattle.std.proofs.lemmas.Bool.{eqb-false}
use Rattle.basis.specs.Lists.{upto}
use Rattle.basis.specs.Members.{split}
use Rattle.labels.specs.Runs.{Run}
use Rattle.plan.specs.Like.{Each}
use Rattle.plan.specs.Fields.{run_in, kid_first, kid_end, requirement_in, wording_in, kids_in, kids_from}
use Rattle.planning.specs.Along.{Nodes}
use Rattle.planning.specs.RunsExact.{kids_length, kids_one}
use Rattle.planning.specs.Written.{RunFor, Tiled, tiled_under}

pub each_length : {A B : Type 0} (Is : A → B → Type 0) (xs : List A) (ys : List B) → Each Is xs ys → length xs ≡ length ys
each_length Is [] [] h = refl
each_length Is [] (y ∷ ys) h = absurd h
each_length Is (x ∷ xs) [] h = absurd h
each_length Is (x ∷ xs) (y ∷ ys) h = ap suc (each_length Is xs ys h.1)

-- a word is known from its fields
module _ (v w : ℕ) where
  upper : v / 4194304 % 65536 ≡ w / 4194304 % 65536 → v / 274877906944 ≡ w / 274877906944 → v / 4194304 ≡ w / 4194304
  upper a b = omega arith

  middle : v / 2048 % 2048 ≡ w / 2048 % 2048 → v / 4194304 ≡ w / 4194304 → v / 2048 ≡ w / 2048
  middle a b = omega arith

  lower : v % 2048 ≡ w % 2048 → v / 2048 ≡ w / 2048 → v ≡ w
  lower a b = omega arith

  top : v < 1099511627776 → w < 1099511627776 → v / 274877906944 % 4 ≡ w / 274877906944 % 4 → v / 274877906944 ≡ w / 274877906944
  top a b c = omega arith

  word_one : v < 1099511627776 → w < 1099511627776 → v % 2048 ≡ w % 2048 → v / 2048 % 2048 ≡ w / 2048 % 2048 → v / 4194304 % 65536 ≡ w / 4194304 % 65536
      → v / 274877906944 % 4 ≡ w / 274877906944 % 4 → v ≡ w
  word_one a b c d e f = lower c (middle d (upper e (top a b f)))

run_one : (g ms gr p k u v : List ℕ) (x y r : ℕ) (q : Run) → RunFor g ms gr p k x r q → RunFor g ms gr u v y r q → kid_first p r ≡ kid_first u r
    → kid_end p r ≡ kid_end u r → run_in p r ≡ run_in u r
unfolding kid_first kid_end requirement_in wording_in
run_one g ms gr p k u v x y r q E F a b =
    word_one (run_in p r) (run_in u r) E.short F.short a b (E.requirement ∙ sym F.requirement) (E.wording ∙ sym F.wording)

-- the same runs, with their kids up to the same place
pub record SameTiles (p k u v : List ℕ) (c r a a' b : ℕ) : Type 0 where
  pub from : a ≡ a'
  pub words : (j : ℕ) → r ≤ j → j < r + c → run_in p j ≡ run_in u j
  pub places : (i : ℕ) → a ≤ i → i < b → get_or k i 0 ≡ get_or v i 0

module _ (g ms gr p k u v : List ℕ) (x y : ℕ) where
  pub tiles_one : (c r a a' b : ℕ) (qs : List Run) → Each (RunFor g ms gr p k x) (upto c r) qs → Each (RunFor g ms gr u v y) (upto c r) qs → Tiled p c r a b
      → Tiled u c r a' b
      → Nodes k a b → Nodes v a' b → SameTiles p k u v c r a a' b
  unfolding kids_in
  tiles_one zero r a a' b qs E F S T N M =
      record { from = omega arith; words = λ j h l. absurd (never j (r + 0) h (omega arith)); places = λ i h l. absurd (past i h l) }
    where
      never : (j e : ℕ) → r ≤ j → j < r → ⊥
      never j e h l = omega arith

      past : (i : ℕ) → a ≤ i → i < b → ⊥
      past i h l = omega arith
  tiles_one (suc c) r a a' b [] E F S T N M = absurd E
  tiles_one (suc c) r a a' b (q ∷ qs) E F S T N M =
      let m : ℕ = kid_end p r in
      let o : ℕ = kid_end u r in
      let sb : m ≤ b = tiled_under p c (suc r) m b S.2 in
      let tb : o ≤ b = tiled_under u c (suc r) o b T.2 in
      let ih : SameTiles p k u v c (suc r) m o b =
      tiles_one c (suc r) m o b qs E.1 F.1 S.2 T.2 (λ i h l. N i (omega (arith, S.1)) l) (λ i h l. M i (omega (arith, T.1)) l) in
      let mo : m ≡ o = ih.from in
      let ks : kids_from k (kid_first p r) m ≡ kids_from v (kid_first u r) o = E.0.kids ∙ sym F.0.kids in
      let l : m - kid_first p r ≡ o - kid_first u r = sym (kids_length k (kid_first p r) m) ∙ ap length ks ∙ kids_length v (kid_first u r) o in
      let e : a ≡ a' = omega (arith, S.0, S.1, T.0, T.1) in
      let f : kid_first p r ≡ kid_first u r = S.0 ∙ e ∙ sym T.0 in
      record {
        from = e;
        words = λ j h i. split (eqb j r)
            (λ t. rw (eqb-true j r t) (run_one g ms gr p k u v x y r q E.0 F.0 f mo))
            (λ t. ih.words j (omega (arith, eqb-false j r t)) (omega arith));
        places = λ i h w. split (ltb i m)
            (λ t. kids_one k v a m (rw (S.0, T.0, ← e, ← mo) at ks) (λ j s n. N j s (omega arith)) (λ j s n. M j (omega arith) (omega arith)) i h
            (ltb-true i m t))
            (λ t. ih.places i (ltb-false i m t) w);
      }

-- words of runs stand behind those of nodes
pub run_words : (p u : List ℕ) (rc rd : ℕ) → rd ≤ 1024 → ((j : ℕ) → rc ≤ j → j < rd → run_in p j ≡ run_in u j) → (i : ℕ) → 256 + rc ≤ i → i < 256 + rd
    → get_or p i 0 ≡ get_or u i 0
unfolding run_in
run_words p u rc rd h f i a b =
    let j : 256 + (i - 256) ≡ i = omega arith in
    rw (lt-ltb (i - 256) 1024 (omega arith), j) at (f (i - 256) (omega arith) (omega arith))
