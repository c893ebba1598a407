-- The direct table: what an entry changes, and that an edge does not see it.
use Rattle.std.specs.Prelude.{◌≡◌, refl, true, false, List, [], ◌∷◌, map, ℕ, zero, suc, ◌+◌, ◌*◌, ◌/◌, ◌%◌, ◌<◌, ◌≤◌, length, get_or, take, drop, set, leb, eqb}
use Rattle.std.proofs.Common.{sym, ap, ◌∙◌, arith, length-set, drop-set-lt, get_or-set_same, get_or-set_other}
use borrow.Author.Tests.{eqb-true, eqb-false, eq-eqb, ne_eqb, le-leb, lt-leb, leb-true, leb-false, lt-ltb, le-ltb}
use Rattle.basis.specs.Members.{split}
use Rattle.store.specs.declared.Edge.{Edge}
use Rattle.store.specs.Words.{edge_of}
use Rattle.store.specs.Direct.{entry_in, Direct, entered, more}

-- ---- an edge is read off the lower 56 bits

edge_under : (a b : ℕ) → edge_of (a + 72057594037927936 * b) ≡ edge_of a
edge_under a b =
    let x : (a + 72057594037927936 * b) % 256 ≡ a % 256 = omega arith in
    let p : (a + 72057594037927936 * b) / 256 ≡ a / 256 + 281474976710656 * b = omega arith in
    let q : (a / 256 + 281474976710656 * b) % 256 ≡ a / 256 % 256 = omega arith in
    let r : (a + 72057594037927936 * b) / 65536 ≡ a / 65536 + 1099511627776 * b = omega arith in
    let s : (a / 65536 + 1099511627776 * b) % 256 ≡ a / 65536 % 256 = omega arith in
    let t : (a + 72057594037927936 * b) / 16777216 ≡ a / 16777216 + 4294967296 * b = omega arith in
    let u : (a / 16777216 + 4294967296 * b) % 65536 ≡ a / 16777216 % 65536 = omega arith in
    let v : (a + 72057594037927936 * b) / 1099511627776 ≡ a / 1099511627776 + 65536 * b = omega arith in
    let z : (a / 1099511627776 + 65536 * b) % 65536 ≡ a / 1099511627776 % 65536 = omega arith in
    rw (x, p, q, r, s, t, u, v, z)

edge_low : (v : ℕ) → edge_of v ≡ edge_of (v % 72057594037927936)
edge_low v =
    let z : v % 72057594037927936 + 72057594037927936 * (v / 72057594037927936) ≡ v = omega arith in
    ap edge_of (sym z) ∙ edge_under (v % 72057594037927936) (v / 72057594037927936)

pub edge_same : (v w : ℕ) → v % 72057594037927936 ≡ w % 72057594037927936 → edge_of v ≡ edge_of w
edge_same v w q = edge_low v ∙ ap edge_of q ∙ sym (edge_low w)

-- an edge's word a below an entry b
module _ (a b : ℕ) (h : a < 72057594037927936) where
  pub under_low : (a + 72057594037927936 * b) % 72057594037927936 ≡ a
  under_low = omega arith

  pub under_entry : (a + 72057594037927936 * b) / 72057594037927936 ≡ b
  under_entry = omega arith

pub under_edge : (a b : ℕ) → edge_of (a + 72057594037927936 * b) ≡ edge_of a
under_edge a b = edge_under a b

-- a word is its two parts
pub both_parts : (v w : ℕ) → v % 72057594037927936 ≡ w % 72057594037927936 → v / 72057594037927936 ≡ w / 72057594037927936 → v ≡ w
both_parts v w p q = omega arith

take_set_edge : (l : List ℕ) (m k v : ℕ) → edge_of v ≡ edge_of (get_or l k 0) → map edge_of (take m (set l k v)) ≡ map edge_of (take m l)
take_set_edge [] m k v q = refl
take_set_edge (x ∷ l) zero k v q = refl
take_set_edge (x ∷ l) (suc m) zero v q = rw q
take_set_edge (x ∷ l) (suc m) (suc k) v q = rw (take_set_edge l m k v q)

-- ---- an entry made

module _ (g : List ℕ) (w n : ℕ) where
  abbrev v : ℕ
  v = get_or g (w / 2) 0 % 72057594037927936 + 72057594037927936 * n

  pub entered_past : 2048 ≤ w → g ≡ entered g w n
  unfolding entered
  entered_past h = rw (le-leb 2048 w h)

  pub entered_even : w < 2048 → w % 2 ≡ 0 → g ≡ entered g w n
  unfolding entered
  entered_even h e = rw (lt-leb 2048 w h, eq-eqb (w % 2) 0 e)

  pub entered_put : w < 2048 → (w % 2 ≡ 0 → ⊥) → set g (w / 2) (get_or g (w / 2) 0 % 72057594037927936 + 72057594037927936 * n) ≡ entered g w n
  unfolding entered
  entered_put h e = rw (lt-leb 2048 w h, ne_eqb (w % 2) 0 e)

  -- what holds of the table as it was where w has no entry, and of the new one where it has, holds of what is entered
  by : (P : List ℕ → Type 0) → ((w < 2048 → (w % 2 ≡ 0 → ⊥) → ⊥) → P g) → (w < 2048 → (w % 2 ≡ 0 → ⊥) → P (set g (w / 2) v)) → P (entered g w n)
  unfolding entered
  by P a b =
      split (leb 2048 w)
      (λ t. rw t (a (λ h e. omega (arith, leb-true 2048 w t))))
      (λ t. let h : w < 2048 = leb-false 2048 w t in
      split (eqb (w % 2) 0)
      (λ z. rw (t, z) (a (λ h e. e (eqb-true (w % 2) 0 z))))
      (λ z. rw (t, z) (b h (eqb-false (w % 2) 0 z))))

  pub entered_length : length (entered g w n) ≡ length g
  entered_length = by (λ (l : List ℕ). length l ≡ length g) (λ f. refl) (λ h e. length-set g (w / 2) v)

  pub entered_node : (j : ℕ) → get_or (entered g w n) (1024 + j) 0 ≡ get_or g (1024 + j) 0
  entered_node j =
      by (λ (l : List ℕ). get_or l (1024 + j) 0 ≡ get_or g (1024 + j) 0) (λ f. refl)
      (λ h e. get_or-set_other g (w / 2) (1024 + j) v 0 (λ q. omega arith))

  pub entered_nodes : drop 1024 (entered g w n) ≡ drop 1024 g
  entered_nodes =
      by (λ (l : List ℕ). drop 1024 l ≡ drop 1024 g) (λ f. refl) (λ h e. drop-set-lt 1024 g (w / 2) v (omega arith))

  pub entered_edges : (m : ℕ) → map edge_of (take m (entered g w n)) ≡ map edge_of (take m g)
  entered_edges m =
      by (λ (l : List ℕ). map edge_of (take m l) ≡ map edge_of (take m g)) (λ f. refl)
      (λ h e. take_set_edge g m (w / 2) v (under_edge (get_or g (w / 2) 0 % 72057594037927936) n ∙ sym (edge_low (get_or g (w / 2) 0))))

  module _ (long : length g ≡ 1152) where
    pub entered_low : (k : ℕ) → get_or (entered g w n) k 0 % 72057594037927936 ≡ get_or g k 0 % 72057594037927936
    entered_low k =
        by (λ (l : List ℕ). get_or l k 0 % 72057594037927936 ≡ get_or g k 0 % 72057594037927936) (λ f. refl)
        (λ h e.
        split (eqb k (w / 2))
        (λ t. rw (eqb-true k (w / 2) t, get_or-set_same g (w / 2) v 0 (omega arith))
        (under_low (get_or g (w / 2) 0 % 72057594037927936) n (omega arith)))
        (λ t. rw (get_or-set_other g (w / 2) k v 0 (eqb-false k (w / 2) t))))

    pub entered_own : (k : ℕ) → k < 1024 → w ≡ 1 + 2 * k → entry_in (entered g w n) k ≡ n
    entered_own k l q =
        by (λ (l : List ℕ). entry_in l k ≡ n) (λ f. absurd (f (omega arith) (λ z. omega arith)))
        (λ h e. let t : k ≡ w / 2 = omega arith in
        rw (t, get_or-set_same g (w / 2) v 0 (omega arith)) (under_entry (get_or g (w / 2) 0 % 72057594037927936) n (omega arith)))

  pub entered_other : (k : ℕ) → (w ≡ 1 + 2 * k → ⊥) → entry_in (entered g w n) k ≡ entry_in g k
  entered_other k d =
      by (λ (l : List ℕ). entry_in l k ≡ entry_in g k) (λ f. refl)
      (λ h e. rw (get_or-set_other g (w / 2) k v 0 (λ q. d (odd k q e))))
    where
      odd : (k : ℕ) → k ≡ w / 2 → (w % 2 ≡ 0 → ⊥) → w ≡ 1 + 2 * k
      odd k q e = omega (arith, e)

pub ruleset enters = (entered_past, entered_even, entered_put)

-- ---- the promise about it, where entries and nodes stay

pub direct_same : (g h : List ℕ) (n : ℕ) → Direct g n → ((k : ℕ) → k < 1024 → entry_in h k ≡ entry_in g k) → ((i : ℕ) → get_or h (1024 + i) 0 ≡ get_or g (1024 + i) 0)
    → Direct h n
direct_same g h n D p q =
    record {
      told = λ i k l m e. p k m ∙ D.told i k l m (ap low (sym (q i)) ∙ e);
      stands = λ i k m e. let z = D.stands i k m (sym (p k m) ∙ e) in (z.0, ap low (q i) ∙ z.1);
    }
  where
    low : ℕ → ℕ
    low v = v % 262144

-- two numbers that name the same successors are one
pub entry_one : (a b : ℕ) → ((i : ℕ) → a ≡ i + 1 → b ≡ i + 1) → ((i : ℕ) → b ≡ i + 1 → a ≡ i + 1) → a ≡ b
entry_one zero zero p q = refl
entry_one zero (suc b) p q = q b (omega arith) ∙ omega arith
entry_one (suc a) b p q = let z : b ≡ a + 1 = p a (omega arith) in omega arith

-- ---- how many nodes there are

pub more_old : (k i : ℕ) → i < k → k ≡ more k i
more_old k i h = rw (lt-ltb i k h)

pub more_new : (k i : ℕ) → k ≤ i → k + 1 ≡ more k i
more_new k i h = rw (le-ltb i k h)
