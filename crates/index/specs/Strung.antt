-- Chains put together from the first item on: each item goes behind the last one of its key. `tl` holds for each key one more than its last item.
-- What stands then is what `Hangs` says.
use Rattle.std.specs.Prelude.{◌≡◌, refl, true, false, cond, List, length, get_or, set, eqb, ltb}
use Rattle.std.proofs.Math.Path.{sym}
use Rattle.std.proofs.Common.{ap, ◌∙◌, arith, not-suc-le-zero, get_or-set_same}
use Prim.Native.Nat.{ℕ, zero, suc, ◌+◌, ◌-◌, ◌≤◌, ◌<◌}
use Rattle.std.proofs.Math.Numerals.{add-one}
use Rattle.std.proofs.Math.ListN.{length-set}
use Rattle.std.proofs.Math.Seq.{get_or-set_other}
use borrow.Author.Tests.{eqb-true, eqb-false, eq-eqb, ne_eqb, ltb-true, ltb-false, lt-ltb}
use Rattle.basis.specs.Members.{split}
use Rattle.basis.specs.Chains.{Layout, Fits, oldest, oldest_hit, oldest_miss, oldest_past, newest, newest_zero, newest_hit, newest_miss}
use Rattle.index.specs.Index.{Hangs, link_of}

-- item k of key n goes behind the item t - 1, the last of its key, or to the head where t is 0
unfoldable pub behind_last : Layout → ℕ → List ℕ → ℕ → ℕ → List ℕ
behind_last L t ix k n = cond (eqb t 0) (set ix (L.heads + n) (k + 1)) (set ix (L.links + (t - 1)) (k + 1))

-- the same where the key has a chain, and the last items then
unfoldable pub strung : Layout → ℕ → List ℕ → List ℕ → ℕ → List ℕ
unfolding behind_last
strung L n ix tl k = cond (ltb n L.keys) (behind_last L (get_or tl n 0) ix k n) ix

unfoldable pub tailed : Layout → ℕ → List ℕ → ℕ → List ℕ
tailed L n tl k = cond (ltb n L.keys) (set tl n (k + 1)) tl

-- the items below k are in
pub record Strung (L : Layout) (key : ℕ → ℕ) (k : ℕ) (ix tl : List ℕ) : Type 0 where
  pub wide : length ix ≡ L.size
  pub long : length tl ≡ L.keys
  pub most : k ≤ L.items
  pub head : (n : ℕ) → n < L.keys → get_or ix (L.heads + n) 0 ≡ oldest key 0 k n
  pub link : (e : ℕ) → e < L.items → get_or ix (L.links + e) 0 ≡ link_of key L.keys k e
  pub tail : (n : ℕ) → n < L.keys → get_or tl n 0 ≡ newest key k n

-- ---- the first item of a key, where one item more is looked at

module _ (key : ℕ → ℕ) (m n : ℕ) where
  oldest_other : (d e : ℕ) → e + d ≡ m → eqb (key m) n ≡ false → oldest key e (suc m) n ≡ oldest key e m n
  oldest_other zero e q f =
      let z : e ≡ m = omega arith in
      oldest_miss key e (suc m) n (omega arith) (rw z f) ∙ oldest_past key (suc e) (suc m) n (omega arith) ∙ sym (oldest_past key e m n (omega arith))
  oldest_other (suc d) e q f =
      split (eqb (key e) n)
      (λ t. oldest_hit key e (suc m) n (omega arith) t ∙ sym (oldest_hit key e m n (omega arith) t))
      (λ t. oldest_miss key e (suc m) n (omega arith) t ∙ oldest_other d (suc e) (omega arith) f ∙ sym (oldest_miss key e m n (omega arith) t))

  oldest_first : (d e : ℕ) → e + d ≡ m → oldest key e m n ≡ 0 → eqb (key m) n ≡ true → oldest key e (suc m) n ≡ suc m
  oldest_first zero e q z f =
      let s : e ≡ m = omega arith in
      oldest_hit key e (suc m) n (omega arith) (rw s f) ∙ ap suc s
  oldest_first (suc d) e q z f =
      split (eqb (key e) n)
      (λ t. let b : ⊥ = omega (arith, oldest_hit key e m n (omega arith) t) in absurd b)
      (λ t. oldest_miss key e (suc m) n (omega arith) t ∙ oldest_first d (suc e) (omega arith) (sym (oldest_miss key e m n (omega arith) t) ∙ z) f)

  oldest_kept : (d e : ℕ) → e + d ≡ m → (oldest key e m n ≡ 0 → ⊥) → oldest key e (suc m) n ≡ oldest key e m n
  oldest_kept zero e q z = absurd (z (oldest_past key e m n (omega arith)))
  oldest_kept (suc d) e q z =
      split (eqb (key e) n)
      (λ t. oldest_hit key e (suc m) n (omega arith) t ∙ sym (oldest_hit key e m n (omega arith) t))
      (λ t. oldest_miss key e (suc m) n (omega arith) t ∙ oldest_kept d (suc e) (omega arith) (λ y. z (oldest_miss key e m n (omega arith) t ∙ y))
      ∙ sym (oldest_miss key e m n (omega arith) t))

  -- none is found: none is there, and the other way round
  oldest_none : (d e j : ℕ) → e + d ≡ j → j < m → oldest key e m n ≡ 0 → key j ≡ n → ⊥
  oldest_none zero e j q h z f =
      let s : e ≡ j = omega arith in
      omega (arith, z, oldest_hit key e m n (omega arith) (rw s (eq-eqb (key j) n f)))
  oldest_none (suc d) e j q h z f =
      split (eqb (key e) n)
      (λ t. omega (arith, z, oldest_hit key e m n (omega arith) t))
      (λ t. oldest_none d (suc e) j (omega arith) h (sym (oldest_miss key e m n (omega arith) t) ∙ z) f)

  none_oldest : (d e : ℕ) → e + d ≡ m → ((j : ℕ) → e ≤ j → j < m → key j ≡ n → ⊥) → oldest key e m n ≡ 0
  none_oldest zero e q f = oldest_past key e m n (omega arith)
  none_oldest (suc d) e q f =
      split (eqb (key e) n)
      (λ t. absurd (f e (omega arith) (omega arith) (eqb-true (key e) n t)))
      (λ t. oldest_miss key e m n (omega arith) t ∙ none_oldest d (suc e) (omega arith) (λ j a b. f j (omega arith) b))

-- ---- the last item of a key

record Last (key : ℕ → ℕ) (k n x : ℕ) : Type 0 where
  below : x < k
  own : key x ≡ n
  last : (e : ℕ) → x < e → e < k → key e ≡ n → ⊥

newest_none : (key : ℕ → ℕ) (k n : ℕ) → newest key k n ≡ 0 → (e : ℕ) → e < k → key e ≡ n → ⊥
newest_none key zero n z e h f = not-suc-le-zero h
newest_none key (suc k) n z e h f =
    split (eqb (key k) n)
    (λ t. omega (arith, z, newest_hit key k n t))
    (λ t. split (eqb e k)
    (λ s. eqb-false (key k) n t (rw (eqb-true e k s) at f))
    (λ s. newest_none key k n (sym (newest_miss key k n t) ∙ z) e (omega (arith, eqb-false e k s)) f))

newest_some : (key : ℕ → ℕ) (k n x : ℕ) → newest key k n ≡ suc x → Last key k n x
newest_some key zero n x z = let b : ⊥ = omega (arith, z, newest_zero key n) in absurd b
newest_some key (suc k) n x z =
    split (eqb (key k) n)
    (λ t. let s : x ≡ k = omega (arith, z, newest_hit key k n t) in
    record { below = omega arith; own = rw s (eqb-true (key k) n t); last = λ e a b f. omega arith })
    (λ t. let l = newest_some key k n x (sym (newest_miss key k n t) ∙ z) in
    record {
      below = omega (arith, l.below);
      own = l.own;
      last = λ e a b f.
          split (eqb e k)
          (λ s. eqb-false (key k) n t (rw (eqb-true e k s) at f))
          (λ s. l.last e a (omega (arith, eqb-false e k s)) f);
    })

suc_last : (L : Layout) (ix : List ℕ) (k n x : ℕ) → behind_last L (suc x) ix k n ≡ set ix (L.links + x) (k + 1)
unfolding behind_last
suc_last L ix k n x = let z : suc x - 1 ≡ x = omega arith in rw (ne_eqb (suc x) 0 (λ z. omega arith), z)

-- ---- links that stay as they are

link_kept : (key : ℕ → ℕ) (keys k e : ℕ) → (e < k → key e ≡ key k → key e < keys → oldest key (suc e) k (key e) ≡ 0 → ⊥)
    → link_of key keys k e ≡ link_of key keys (suc k) e
unfolding link_of
link_kept key keys k e d =
    split (ltb (key e) keys)
    (λ t. rw t (split (ltb e k)
    (λ l. let h : e < k = ltb-true e k l in
    split (eqb (key k) (key e))
    (λ s. sym (oldest_kept key k (key e) (k - suc e) (suc e) (omega arith) (d h (sym (eqb-true (key k) (key e) s)) (ltb-true (key e) keys t))))
    (λ s. sym (oldest_other key k (key e) (k - suc e) (suc e) (omega arith) s)))
    (λ l. let h : k ≤ e = ltb-false e k l in
    oldest_past key (suc e) k (key e) (omega arith) ∙ sym (oldest_past key (suc e) (suc k) (key e) (omega arith)))))
    (λ t. rw t)

-- ---- before the first item, and at the end

pub strung_none : (L : Layout) (key : ℕ → ℕ) (ix tl : List ℕ) → length ix ≡ L.size → length tl ≡ L.keys
    → ((n : ℕ) → n < L.keys → get_or ix (L.heads + n) 0 ≡ 0) → ((e : ℕ) → e < L.items → get_or ix (L.links + e) 0 ≡ 0)
    → ((n : ℕ) → n < L.keys → get_or tl n 0 ≡ 0) → Strung L key 0 ix tl
unfolding link_of
strung_none L key ix tl w l h k t =
    record {
      wide = w;
      long = l;
      most = omega arith;
      head = λ n a. h n a ∙ sym (oldest_past key 0 0 n (omega arith));
      link = λ e a. k e a ∙ sym (none e);
      tail = λ n a. t n a ∙ sym (newest_zero key n);
    }
  where
    none : (e : ℕ) → link_of key L.keys 0 e ≡ 0
    none e = split (ltb (key e) L.keys) (λ q. rw q (oldest_past key (suc e) 0 (key e) (omega arith))) (λ q. rw q)

pub strung_hangs : (L : Layout) (key : ℕ → ℕ) (k : ℕ) (ix tl : List ℕ) → Strung L key k ix tl → Hangs L key k ix
strung_hangs L key k ix tl S = record { head = S.head; link = S.link }

-- ---- one item more

-- what is asked of the table
record Put (L : Layout) (key : ℕ → ℕ) (k : ℕ) (iy : List ℕ) : Type 0 where
  wide : length iy ≡ L.size
  head : (n : ℕ) → n < L.keys → get_or iy (L.heads + n) 0 ≡ oldest key 0 (suc k) n
  link : (e : ℕ) → e < L.items → get_or iy (L.links + e) 0 ≡ link_of key L.keys (suc k) e

module _ (L : Layout) (F : Fits L) (key : ℕ → ℕ) (k : ℕ) (ix tl : List ℕ) (S : Strung L key k ix tl) (room : k < L.items) where
  put_out : L.keys ≤ key k → Put L key k ix
  put_out past =
      record {
        wide = S.wide;
        head = λ n h. S.head n h ∙ sym (oldest_other key k n k 0 (omega arith) (ne_eqb (key k) n (λ z. omega arith)));
        link = λ e h. S.link e h ∙ link_kept key L.keys k e (λ a b c z. omega arith);
      }

  put_first : key k < L.keys → newest key k (key k) ≡ 0 → Put L key k (set ix (L.heads + key k) (k + 1))
  put_first known z = record { wide = length-set ix (L.heads + key k) (k + 1) ∙ S.wide; head = heads; link = links }
    where
      heads : (n : ℕ) → n < L.keys → get_or (set ix (L.heads + key k) (k + 1)) (L.heads + n) 0 ≡ oldest key 0 (suc k) n
      heads n h =
          split (eqb (key k) n)
          (λ t. let s : n ≡ key k = sym (eqb-true (key k) n t) in
          rw s (get_or-set_same ix (L.heads + key k) (k + 1) 0 (omega (arith, F.heads_in, S.wide)) ∙ add-one k
          ∙ sym (oldest_first key k (key k) k 0 (omega arith)
          (none_oldest key k (key k) k 0 (omega arith) (λ j a b. newest_none key k (key k) z j b)) (eq-eqb (key k) (key k) refl))))
          (λ t. get_or-set_other ix (L.heads + key k) (L.heads + n) (k + 1) 0 (λ y. eqb-false (key k) n t (omega arith))
          ∙ S.head n h ∙ sym (oldest_other key k n k 0 (omega arith) t))

      links : (e : ℕ) → e < L.items → get_or (set ix (L.heads + key k) (k + 1)) (L.links + e) 0 ≡ link_of key L.keys (suc k) e
      links e h =
          get_or-set_other ix (L.heads + key k) (L.links + e) (k + 1) 0 (F.apart e (key k) h known)
          ∙ S.link e h ∙ link_kept key L.keys k e (λ a b c y. newest_none key k (key k) z e a b)

  put_behind : key k < L.keys → (x : ℕ) → newest key k (key k) ≡ suc x → Put L key k (set ix (L.links + x) (k + 1))
  unfolding link_of
  put_behind known x z = record { wide = length-set ix (L.links + x) (k + 1) ∙ S.wide; head = heads; link = links }
    where
      l : Last key k (key k) x
      l = newest_some key k (key k) x z

      small : x < L.items
      small = omega (arith, l.below)

      heads : (n : ℕ) → n < L.keys → get_or (set ix (L.links + x) (k + 1)) (L.heads + n) 0 ≡ oldest key 0 (suc k) n
      heads n h =
          get_or-set_other ix (L.links + x) (L.heads + n) (k + 1) 0 (λ y. F.apart x n small h (sym y))
          ∙ S.head n h
          ∙ split (eqb (key k) n)
          (λ t. sym (oldest_kept key k n k 0 (omega arith) (λ y. oldest_none key k n x 0 x (omega arith) l.below y (l.own ∙ eqb-true (key k) n t))))
          (λ t. sym (oldest_other key k n k 0 (omega arith) t))

      becomes : link_of key L.keys (suc k) x ≡ suc k
      becomes =
          rw (l.own, lt-ltb (key k) L.keys known)
          (oldest_first key k (key k) (k - suc x) (suc x) (omega (arith, l.below))
          (none_oldest key k (key k) (k - suc x) (suc x) (omega (arith, l.below)) (λ j a b. l.last j a b)) (eq-eqb (key k) (key k) refl))

      links : (e : ℕ) → e < L.items → get_or (set ix (L.links + x) (k + 1)) (L.links + e) 0 ≡ link_of key L.keys (suc k) e
      links e h =
          split (eqb e x)
          (λ t. rw (eqb-true e x t)
          (get_or-set_same ix (L.links + x) (k + 1) 0 (omega (arith, F.links_in, S.wide, small)) ∙ add-one k ∙ sym becomes))
          (λ t. get_or-set_other ix (L.links + x) (L.links + e) (k + 1) 0 (λ y. eqb-false e x t (omega arith))
          ∙ S.link e h ∙ link_kept key L.keys k e (λ a b c y.
          split (ltb x e)
          (λ s. l.last e (ltb-true x e s) a b)
          (λ s. oldest_none key k (key e) (x - suc e) (suc e) x (omega (arith, ltb-false x e s, eqb-false e x t)) l.below y (l.own ∙ sym b))))

  put_last : key k < L.keys → (t : ℕ) → newest key k (key k) ≡ t → Put L key k (behind_last L t ix k (key k))
  unfolding behind_last
  put_last known zero z = put_first known z
  put_last known (suc x) z = rw (suc_last L ix k (key k) x) (put_behind known x z)

  put_strung : Put L key k (strung L (key k) ix tl k)
  unfolding strung
  put_strung =
      split (ltb (key k) L.keys)
      (λ t. let h : key k < L.keys = ltb-true (key k) L.keys t in rw t (put_last h (get_or tl (key k) 0) (sym (S.tail (key k) h))))
      (λ t. rw t (put_out (ltb-false (key k) L.keys t)))

  tail_long : length (tailed L (key k) tl k) ≡ L.keys
  unfolding tailed
  tail_long = split (ltb (key k) L.keys) (λ t. rw t (length-set tl (key k) (k + 1) ∙ S.long)) (λ t. rw t S.long)

  tail_more : (n : ℕ) → n < L.keys → get_or (tailed L (key k) tl k) n 0 ≡ newest key (suc k) n
  unfolding tailed
  tail_more n h =
      split (ltb (key k) L.keys)
      (λ t. rw t (split (eqb (key k) n)
      (λ s. let z : n ≡ key k = sym (eqb-true (key k) n s) in
      rw (newest_hit key k n s, z) (get_or-set_same tl (key k) (k + 1) 0 (omega (arith, S.long, ltb-true (key k) L.keys t)) ∙ add-one k))
      (λ s. get_or-set_other tl (key k) n (k + 1) 0 (λ y. eqb-false (key k) n s (sym y)) ∙ S.tail n h ∙ sym (newest_miss key k n s))))
      (λ t. rw t (S.tail n h ∙ sym (newest_miss key k n (ne_eqb (key k) n (λ z. omega (arith, ltb-false (key k) L.keys t))))))

  strung_in : Strung L key (suc k) (strung L (key k) ix tl k) (tailed L (key k) tl k)
  strung_in =
      record { wide = put_strung.wide; long = tail_long; most = room; head = put_strung.head; link = put_strung.link; tail = tail_more }

pub strung_more : (L : Layout) → Fits L → (key : ℕ → ℕ) (k n : ℕ) (ix tl : List ℕ) → Strung L key k ix tl → k < L.items → n ≡ key k
    → Strung L key (suc k) (strung L n ix tl k) (tailed L n tl k)
strung_more L F key k n ix tl S h q = rw q (strung_in L F key k ix tl S h)

-- ---- what is left alone: a slot that is neither a link nor a head

last_else : (L : Layout) (key : ℕ → ℕ) (k n : ℕ) (ix : List ℕ) (a t : ℕ) → k < L.items → n < L.keys → newest key k n ≡ t
    → ((e : ℕ) → e < L.items → a ≡ L.links + e → ⊥) → ((m : ℕ) → m < L.keys → a ≡ L.heads + m → ⊥)
    → get_or (behind_last L t ix k n) a 0 ≡ get_or ix a 0
unfolding behind_last
last_else L key k n ix a zero h f z p q = get_or-set_other ix (L.heads + n) a (k + 1) 0 (q n f)
last_else L key k n ix a (suc x) h f z p q =
    rw (suc_last L ix k n x) (get_or-set_other ix (L.links + x) a (k + 1) 0 (p x (omega (arith, (newest_some key k n x z).below))))

pub strung_else : (L : Layout) (key : ℕ → ℕ) (k n : ℕ) (ix tl : List ℕ) → Strung L key k ix tl → k < L.items → n ≡ key k → (a : ℕ)
    → ((e : ℕ) → e < L.items → a ≡ L.links + e → ⊥) → ((m : ℕ) → m < L.keys → a ≡ L.heads + m → ⊥)
    → get_or (strung L n ix tl k) a 0 ≡ get_or ix a 0
unfolding strung
strung_else L key k n ix tl S h y a p q =
    split (ltb n L.keys)
    (λ t. let f : n < L.keys = ltb-true n L.keys t in rw t (last_else L key k n ix a (get_or tl n 0) h f (sym (S.tail n f)) p q))
    (λ t. rw t)

-- a store elsewhere leaves the chains
pub strung_set : (L : Layout) (key : ℕ → ℕ) (k : ℕ) (ix tl : List ℕ) (a v : ℕ) → Strung L key k ix tl
    → ((e : ℕ) → e < L.items → a ≡ L.links + e → ⊥) → ((m : ℕ) → m < L.keys → a ≡ L.heads + m → ⊥)
    → Strung L key k (set ix a v) tl
strung_set L key k ix tl a v S p q =
    record {
      wide = length-set ix a v ∙ S.wide;
      long = S.long;
      most = S.most;
      head = λ n h. get_or-set_other ix a (L.heads + n) v 0 (λ z. q n h (sym z)) ∙ S.head n h;
      link = λ e h. get_or-set_other ix a (L.links + e) v 0 (λ z. p e h (sym z)) ∙ S.link e h;
      tail = S.tail;
    }
