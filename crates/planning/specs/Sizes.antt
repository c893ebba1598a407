-- The lengths of all nodes' display texts, and their places in the tails.
use Rattle.std.specs.Prelude.{◌≡◌, refl, List, ℕ, ◌+◌, ◌*◌, ◌<◌, ◌≤◌, length, get_or, set, eqb}
use Rattle.std.proofs.Common.{ap, ◌∙◌, arith, length-set, get_or-set_same, get_or-set_other, eqb-true}
use Rattle.std.proofs.lemmas.Bool.{eqb-false}
use Rattle.basis.specs.Members.{split}
use Rattle.records.specs.Tables.{Tables}
use Rattle.display.specs.PackageLengths.{size_in}

-- ---- the lengths in a table of their own

pub record Measured (T : Tables) (p sz : List ℕ) (n : ℕ) : Type 0 where
  pub each : (i : ℕ) → i < n → (get_or sz i 0 ≡ size_in T p i) × (get_or sz i 0 < 65536)
  pub long : length sz ≡ 128

pub measured_none : (T : Tables) (p sz : List ℕ) → length sz ≡ 128 → Measured T p sz 0
measured_none T p sz l = record { each = λ i h. absurd (never i h); long = l }
  where
    never : (i : ℕ) → i < 0 → ⊥
    never i h = omega arith

pub measured_more : (T : Tables) (p sz : List ℕ) (n m v : ℕ) → Measured T p sz n → n < m → m ≤ 128 → (v ≡ size_in T p n) × (v < 65536)
    → Measured T p (set sz n v) (n + 1)
measured_more T p sz n m v z h l q =
    record {
      each = λ i a. split (eqb i n)
          (λ t. rw (eqb-true i n t, get_or-set_same sz n v 0 (omega (arith, z.long))) q)
          (λ t. rw (get_or-set_other sz n i v 0 (eqb-false i n t)) (z.each i (omega (arith, eqb-false i n t))));
      long = rw length-set z.long;
    }

pub measured_end : (T : Tables) (p sz : List ℕ) (m n : ℕ) → Measured T p sz n → m ≤ n → Measured T p sz m
measured_end T p sz m n z h = record { each = λ i a. z.each i (omega arith); long = z.long }

-- ---- added to the tails

-- tails are short as the loop over the nodes leaves them
pub record Short (p : List ℕ) (m : ℕ) : Type 0 where
  pub each : (i : ℕ) → i < m → get_or p (128 + i) 0 < 274877906944
  pub few : m ≤ 128
  pub long : length p ≡ 1280

pub record Adding (p sz u : List ℕ) (m n : ℕ) : Type 0 where
  pub done : (i : ℕ) → i < n → get_or u (128 + i) 0 ≡ get_or p (128 + i) 0 + 274877906944 * get_or sz i 0
  pub left : (i : ℕ) → n ≤ i → i < 128 → get_or u (128 + i) 0 ≡ get_or p (128 + i) 0
  pub heads : (i : ℕ) → i < 128 → get_or u i 0 ≡ get_or p i 0
  pub runs : (r : ℕ) → get_or u (256 + r) 0 ≡ get_or p (256 + r) 0
  pub long : length u ≡ length p
  pub under : n ≤ m

pub adding_none : (p sz : List ℕ) (m : ℕ) → Adding p sz p m 0
adding_none p sz m = record { done = λ i h. absurd (never i h); left = λ i a h. refl; heads = λ i h. refl; runs = λ r. refl; long = refl; under = omega arith }
  where
    never : (i : ℕ) → i < 0 → ⊥
    never i h = omega arith

module _ (p sz u : List ℕ) (m n : ℕ) (z : Adding p sz u m n) (o : Short p m) (h : n < m) where
  pub adding_fits : (t : ℕ) → t ≡ get_or u (128 + n) 0 → t < 274877906944
  adding_fits t q = omega (arith, z.left n (omega arith) (omega (arith, o.few)), o.each n h)

  pub adding_step : (t x v w : ℕ) → t ≡ get_or u (128 + n) 0 → x ≡ get_or sz n 0 → v ≡ x → w ≡ t + 274877906944 * v → Adding p sz (set u (128 + n) w) m (n + 1)
  adding_step t x v w tq xq vx wq =
      let vq : v ≡ get_or sz n 0 = vx ∙ xq in
      let e : get_or u (128 + n) 0 ≡ get_or p (128 + n) 0 = z.left n (omega arith) (omega (arith, o.few)) in
      record {
        done = λ i a. split (eqb i n)
            (λ q. rw (eqb-true i n q, get_or-set_same u (128 + n) w 0 (omega (arith, o.few, o.long, z.long)), wq, tq, vq, e))
            (λ q. get_or-set_other u (128 + n) (128 + i) w 0 (λ y. eqb-false i n q (omega arith)) ∙ z.done i (omega (arith, eqb-false i n q)));
        left = λ i a b. get_or-set_other u (128 + n) (128 + i) w 0 (λ y. omega arith) ∙ z.left i (omega arith) b;
        heads = λ i a. get_or-set_other u (128 + n) i w 0 (λ y. omega arith) ∙ z.heads i a;
        runs = λ r. get_or-set_other u (128 + n) (256 + r) w 0 (λ y. omega (arith, o.few)) ∙ z.runs r;
        long = rw length-set z.long;
        under = omega arith;
      }

pub adding_end : (p sz u : List ℕ) (m n : ℕ) → Adding p sz u m n → m ≤ n → Adding p sz u m m
adding_end p sz u m n z h = let q : n ≡ m = omega (arith, z.under) in rw q at z

-- ---- both

pub record SizesDone (T : Tables) (p u : List ℕ) (m : ℕ) : Type 0 where
  pub tails : (i : ℕ) → i < m → get_or u (128 + i) 0 ≡ get_or p (128 + i) 0 + 274877906944 * size_in T p i
  pub small : (i : ℕ) → i < m → size_in T p i < 65536
  pub rest : (i : ℕ) → m ≤ i → i < 128 → get_or u (128 + i) 0 ≡ get_or p (128 + i) 0
  pub heads : (i : ℕ) → i < 128 → get_or u i 0 ≡ get_or p i 0
  pub runs : (r : ℕ) → get_or u (256 + r) 0 ≡ get_or p (256 + r) 0
  pub long : length u ≡ length p

pub sizes_done : (T : Tables) (p sz u : List ℕ) (m : ℕ) → Measured T p sz m → Adding p sz u m m → SizesDone T p u m
sizes_done T p sz u m z y =
    record {
      tails = λ i h. y.done i h ∙ ap (λ (v : ℕ). get_or p (128 + i) 0 + 274877906944 * v) (z.each i h).0;
      small = λ i h. rw (← (z.each i h).0) (z.each i h).1;
      rest = y.left;
      heads = y.heads;
      runs = y.runs;
      long = y.long;
    }
