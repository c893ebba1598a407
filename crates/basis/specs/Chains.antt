-- Chains through a fixed table: lists linked by index, many in one table of 16-bit numbers. Items have numbers 0, 1, ..; `key`
-- gives each item's key, and the items of one key hang together. The link of item e stands at `links + e`, the head of key n at
-- `heads + n`; what is stored is an item's number plus one, and 0 for none. An item whose key is not below `keys` is in no chain.
-- `Chained` runs newest first (items put in upwards), `Risen` oldest first (items put in downwards).
use Rattle.std.specs.Prelude.{◌≡◌, refl, Bool, true, false, List, [], ◌∷◌, ℕ, zero, suc, ◌+◌, ◌-◌, ◌<◌, ◌≤◌, length, get_or, set, replicate, eqb}
use Rattle.std.proofs.Common.{sym, ap, ◌∙◌, not-suc-le-zero, add-one, sub-one, arith, length-set, get_or-set_same, get_or-set_other, eqb-true, ne_eqb}
use Rattle.std.proofs.lemmas.List.{length-replicate, get_or-replicate}
use Rattle.std.proofs.lemmas.Bool.{eqb-false}
use Rattle.basis.specs.Members.{split}

-- ---- where the links and the heads stand

-- `items` links from `links` on and `keys` heads from `heads` on, in a table of `size` numbers
pub record Layout : Type 0 where
  pub links : ℕ
  pub items : ℕ
  pub heads : ℕ
  pub keys : ℕ
  pub size : ℕ

-- place i of the part that starts at b, as code writes it: `i` where b is 0, else `b + i`
abbrev pub slot : ℕ → ℕ → ℕ
slot zero i = i
slot (suc b) i = suc b + i

-- both parts are inside the table, and no place belongs to both
pub record Fits (L : Layout) : Type 0 where
  pub links_in : L.links + L.items ≤ L.size
  pub heads_in : L.heads + L.keys ≤ L.size
  pub apart : (e n : ℕ) → e < L.items → n < L.keys → L.links + e ≡ L.heads + n → ⊥

pub fits_before : (L : Layout) → L.links + L.items ≤ L.heads → L.heads + L.keys ≤ L.size → Fits L
fits_before L a b = record { links_in = omega arith; heads_in = b; apart = λ e n h k q. omega arith }

pub fits_after : (L : Layout) → L.heads + L.keys ≤ L.links → L.links + L.items ≤ L.size → Fits L
fits_after L a b = record { links_in = b; heads_in = omega arith; apart = λ e n h k q. omega arith }

-- ---- what the chains hold

-- one more than the last item below j whose key is n, or 0
unfoldable pub newest : (ℕ → ℕ) → ℕ → ℕ → ℕ
newest key zero n = 0
newest key (suc j) n = elim (eqb (key j) n) [ true ↦ suc j | false ↦ newest key j n ]

-- the items below j whose key is n, newest first
unfoldable pub downs : (ℕ → ℕ) → ℕ → ℕ → List ℕ
downs key zero n = []
downs key (suc j) n = elim (eqb (key j) n) [ true ↦ j ∷ downs key j n | false ↦ downs key j n ]

-- the other way round, of the k items from e on: one more than the first whose key is n, or 0; those whose key is n
unfoldable pub oldest_in : (ℕ → ℕ) → ℕ → ℕ → ℕ → ℕ
oldest_in key zero e n = 0
oldest_in key (suc k) e n = elim (eqb (key e) n) [ true ↦ suc e | false ↦ oldest_in key k (suc e) n ]

unfoldable pub ups_in : (ℕ → ℕ) → ℕ → ℕ → ℕ → List ℕ
ups_in key zero e n = []
ups_in key (suc k) e n = elim (eqb (key e) n) [ true ↦ e ∷ ups_in key k (suc e) n | false ↦ ups_in key k (suc e) n ]

-- one more than the first item from e on, below m, whose key is n, or 0
unfoldable pub oldest : (ℕ → ℕ) → ℕ → ℕ → ℕ → ℕ
oldest key e m n = oldest_in key (m - e) e n

-- the items from e on, below m, whose key is n, oldest first
unfoldable pub ups : (ℕ → ℕ) → ℕ → ℕ → ℕ → List ℕ
ups key e m n = ups_in key (m - e) e n

-- ---- the promises about a table

-- newest first: the items below m are in
pub record Chained (L : Layout) (key : ℕ → ℕ) (ls : List ℕ) (m : ℕ) : Type 0 where
  pub fits : Fits L
  pub wide : length ls ≡ L.size
  pub most : m ≤ L.items
  pub head : (n : ℕ) → n < L.keys → get_or ls (slot L.heads n) 0 ≡ newest key m n
  pub link : (e : ℕ) → e < m → key e < L.keys → get_or ls (slot L.links e) 0 ≡ newest key e (key e)

-- oldest first: the items from j up to m are in
pub record Risen (L : Layout) (key : ℕ → ℕ) (ls : List ℕ) (m j : ℕ) : Type 0 where
  pub fits : Fits L
  pub wide : length ls ≡ L.size
  pub most : m ≤ L.items
  pub head : (n : ℕ) → n < L.keys → get_or ls (slot L.heads n) 0 ≡ oldest key j m n
  pub link : (e : ℕ) → j ≤ e → e < m → key e < L.keys → get_or ls (slot L.links e) 0 ≡ oldest key (suc e) m (key e)

-- ---- the definitions, one step further

pub newest_zero : (key : ℕ → ℕ) (n : ℕ) → newest key 0 n ≡ 0
unfolding newest
newest_zero key n = refl

pub downs_zero : (key : ℕ → ℕ) (n : ℕ) → downs key 0 n ≡ []
unfolding downs
downs_zero key n = refl

pub newest_hit : (key : ℕ → ℕ) (j n : ℕ) → eqb (key j) n ≡ true → newest key (suc j) n ≡ suc j
unfolding newest
newest_hit key j n t = rw (t, newest)

pub newest_miss : (key : ℕ → ℕ) (j n : ℕ) → eqb (key j) n ≡ false → newest key (suc j) n ≡ newest key j n
unfolding newest
newest_miss key j n t = rw (t, newest)

pub downs_hit : (key : ℕ → ℕ) (j n : ℕ) → eqb (key j) n ≡ true → downs key (suc j) n ≡ j ∷ downs key j n
unfolding downs
downs_hit key j n t = rw (t, downs)

pub downs_miss : (key : ℕ → ℕ) (j n : ℕ) → eqb (key j) n ≡ false → downs key (suc j) n ≡ downs key j n
unfolding downs
downs_miss key j n t = rw (t, downs)

pub oldest_hit : (key : ℕ → ℕ) (e m n : ℕ) → e < m → eqb (key e) n ≡ true → oldest key e m n ≡ suc e
unfolding oldest oldest_in
oldest_hit key e m n h t = let z : m - e ≡ suc (m - suc e) = omega arith in rw (z, t, oldest_in)

pub oldest_miss : (key : ℕ → ℕ) (e m n : ℕ) → e < m → eqb (key e) n ≡ false → oldest key e m n ≡ oldest key (suc e) m n
unfolding oldest oldest_in
oldest_miss key e m n h t = let z : m - e ≡ suc (m - suc e) = omega arith in rw (z, t, oldest_in)

pub oldest_past : (key : ℕ → ℕ) (e m n : ℕ) → m ≤ e → oldest key e m n ≡ 0
unfolding oldest oldest_in
oldest_past key e m n h = let z : m - e ≡ 0 = omega arith in rw z

pub ups_hit : (key : ℕ → ℕ) (e m n : ℕ) → e < m → eqb (key e) n ≡ true → ups key e m n ≡ e ∷ ups key (suc e) m n
unfolding ups ups_in
ups_hit key e m n h t = let z : m - e ≡ suc (m - suc e) = omega arith in rw (z, t, ups_in)

pub ups_miss : (key : ℕ → ℕ) (e m n : ℕ) → e < m → eqb (key e) n ≡ false → ups key e m n ≡ ups key (suc e) m n
unfolding ups ups_in
ups_miss key e m n h t = let z : m - e ≡ suc (m - suc e) = omega arith in rw (z, t, ups_in)

pub ups_past : (key : ℕ → ℕ) (e m n : ℕ) → m ≤ e → ups key e m n ≡ []
unfolding ups ups_in
ups_past key e m n h = let z : m - e ≡ 0 = omega arith in rw z

-- ---- the two parts of a table

slot_is : (b i : ℕ) → slot b i ≡ b + i
slot_is zero i = omega arith
slot_is (suc b) i = refl

slot_own : (b i j : ℕ) → slot b i ≡ slot b j → i ≡ j
slot_own b i j q = omega (arith, slot_is b i, slot_is b j)

module _ (L : Layout) (F : Fits L) where
  link_in : (e : ℕ) → e < L.items → slot L.links e < L.size
  link_in e h = omega (arith, slot_is L.links e)

  head_in_lem : (n : ℕ) → n < L.keys → slot L.heads n < L.size
  head_in_lem n h = omega (arith, slot_is L.heads n)

  parted : (e n : ℕ) → e < L.items → n < L.keys → slot L.links e ≡ slot L.heads n → ⊥
  parted e n h k q = F.apart e n h k (omega (arith, slot_is L.links e, slot_is L.heads n))

-- ---- the table after item i was put at the head of chain n

-- item i's link is the head that was, and the head is item i
abbrev pub linked : Layout → List ℕ → ℕ → ℕ → List ℕ
linked L ls i n = set (set ls (slot L.links i) (get_or ls (slot L.heads n) 0)) (slot L.heads n) (i + 1)

-- by a read and two stores that are calls
pub linked_via : (ls l k : List ℕ) (a b h v : ℕ) → h ≡ get_or ls b 0 → l ≡ set ls a h → k ≡ set l b v → k ≡ set (set ls a (get_or ls b 0)) b v
linked_via ls l k a b h v p q r = rw (← p, ← q) r

module _ (L : Layout) (F : Fits L) (ls : List ℕ) (wide : length ls ≡ L.size) (i n : ℕ) (small : i < L.items) (known : n < L.keys) where
  abbrev mid : List ℕ
  mid = set ls (slot L.links i) (get_or ls (slot L.heads n) 0)

  linked_wide : length (linked L ls i n) ≡ L.size
  linked_wide = rw (length-set, length-set) wide

  linked_head : get_or (linked L ls i n) (slot L.heads n) 0 ≡ suc i
  linked_head = get_or-set_same mid (slot L.heads n) (i + 1) 0 (rw length-set (omega (arith, head_in_lem L F n known))) ∙ add-one i

  linked_heads : (k : ℕ) → k < L.keys → (k ≡ n → ⊥) → get_or (linked L ls i n) (slot L.heads k) 0 ≡ get_or ls (slot L.heads k) 0
  linked_heads k h d =
      get_or-set_other mid (slot L.heads n) (slot L.heads k) (i + 1) 0 (λ q. d (slot_own L.heads k n q))
      ∙ get_or-set_other ls (slot L.links i) (slot L.heads k) (get_or ls (slot L.heads n) 0) 0 (λ q. parted L F i k small h (sym q))

  linked_link : get_or (linked L ls i n) (slot L.links i) 0 ≡ get_or ls (slot L.heads n) 0
  linked_link =
      get_or-set_other mid (slot L.heads n) (slot L.links i) (i + 1) 0 (parted L F i n small known)
      ∙ get_or-set_same ls (slot L.links i) (get_or ls (slot L.heads n) 0) 0 (omega (arith, link_in L F i small))

  linked_links : (e : ℕ) → e < L.items → (e ≡ i → ⊥) → get_or (linked L ls i n) (slot L.links e) 0 ≡ get_or ls (slot L.links e) 0
  linked_links e h d =
      get_or-set_other mid (slot L.heads n) (slot L.links e) (i + 1) 0 (parted L F e n h known)
      ∙ get_or-set_other ls (slot L.links i) (slot L.links e) (get_or ls (slot L.heads n) 0) 0 (λ q. d (slot_own L.links e i q))

-- ---- building, newest first

-- no item yet: every head is 0
pub chain_none : (L : Layout) (key : ℕ → ℕ) (ls : List ℕ) → Fits L → length ls ≡ L.size → ((n : ℕ) → n < L.keys → get_or ls (slot L.heads n) 0 ≡ 0)
    → Chained L key ls 0
unfolding newest
chain_none L key ls F w z = record { fits = F; wide = w; most = omega arith; head = z; link = λ e l k. absurd (not-suc-le-zero l) }

chain_in : (L : Layout) (key : ℕ → ℕ) (ls : List ℕ) (i n : ℕ) → Chained L key ls i → n ≡ key i → n < L.keys → i < L.items
    → Chained L key (linked L ls i n) (suc i)
chain_in L key ls i n C q f s = record { fits = C.fits; wide = linked_wide L C.fits ls C.wide i n s f; most = s; head = heads; link = links }
  where
    heads : (k : ℕ) → k < L.keys → get_or (linked L ls i n) (slot L.heads k) 0 ≡ newest key (suc i) k
    heads k l =
        split (eqb (key i) k)
        (λ t. let z : k ≡ n = sym (q ∙ eqb-true (key i) k t) in rw (newest_hit key i k t, z) (linked_head L C.fits ls C.wide i n s f))
        (λ t. rw (newest_miss key i k t) (linked_heads L C.fits ls C.wide i n s f k l (λ e. eqb-false (key i) k t (sym q ∙ sym e)) ∙ C.head k l))

    links : (e : ℕ) → e < suc i → key e < L.keys → get_or (linked L ls i n) (slot L.links e) 0 ≡ newest key e (key e)
    links e l k =
        split (eqb e i)
        (λ t. rw (eqb-true e i t) (linked_link L C.fits ls C.wide i n s f ∙ C.head n f ∙ ap (newest key i) q))
        (λ t. let d : e ≡ i → ⊥ = eqb-false e i t in
        linked_links L C.fits ls C.wide i n s f e (omega (arith, d)) d ∙ C.link e (omega (arith, d)) k)

-- item i is put in, in a function of its own
pub chain_link : (L : Layout) (key : ℕ → ℕ) (ls l : List ℕ) (i n : ℕ) → Chained L key ls i → l ≡ linked L ls i n → n ≡ key i → n < L.keys → i < L.items
    → Chained L key l (i + 1)
chain_link L key ls l i n C e q f s = rw e (rw (← add-one i) at (chain_in L key ls i n C q f s))

-- item i is put in; the loop runs while i < m
pub chain_next : (L : Layout) (key : ℕ → ℕ) (ls l : List ℕ) (i n m : ℕ) → Chained L key ls i → l ≡ linked L ls i n → n ≡ key i → n < L.keys → i < m
    → m ≤ L.items → Chained L key l (i + 1)
chain_next L key ls l i n m C e q f im mm = chain_link L key ls l i n C e q f (omega arith)

-- ---- building, oldest first

pub rise_none : (L : Layout) (key : ℕ → ℕ) (ls : List ℕ) (m : ℕ) → Fits L → length ls ≡ L.size → m ≤ L.items
    → ((n : ℕ) → n < L.keys → get_or ls (slot L.heads n) 0 ≡ 0) → Risen L key ls m m
rise_none L key ls m F w mm z =
    record { fits = F; wide = w; most = mm; head = λ n h. z n h ∙ sym (oldest_past key m m n (omega arith)); link = λ e a b k. absurd (never e a b) }
  where
    never : (e : ℕ) → m ≤ e → e < m → ⊥
    never e a b = omega arith

rise_in : (L : Layout) (key : ℕ → ℕ) (ls : List ℕ) (m i n : ℕ) → Risen L key ls m (suc i) → n ≡ key i → n < L.keys → i < m → Risen L key (linked L ls i n) m i
rise_in L key ls m i n R q f im = record { fits = R.fits; wide = linked_wide L R.fits ls R.wide i n s f; most = R.most; head = heads; link = links }
  where
    s : i < L.items
    s = omega (arith, R.most)

    heads : (k : ℕ) → k < L.keys → get_or (linked L ls i n) (slot L.heads k) 0 ≡ oldest key i m k
    heads k l =
        split (eqb (key i) k)
        (λ t. let z : k ≡ n = sym (q ∙ eqb-true (key i) k t) in rw (oldest_hit key i m k im t, z) (linked_head L R.fits ls R.wide i n s f))
        (λ t. rw (oldest_miss key i m k im t) (linked_heads L R.fits ls R.wide i n s f k l (λ e. eqb-false (key i) k t (sym q ∙ sym e)) ∙ R.head k l))

    links : (e : ℕ) → i ≤ e → e < m → key e < L.keys → get_or (linked L ls i n) (slot L.links e) 0 ≡ oldest key (suc e) m (key e)
    links e a b k =
        split (eqb e i)
        (λ t. rw (eqb-true e i t) (linked_link L R.fits ls R.wide i n s f ∙ R.head n f ∙ ap (oldest key (suc i) m) q))
        (λ t. let d : e ≡ i → ⊥ = eqb-false e i t in
        linked_links L R.fits ls R.wide i n s f e (omega (arith, R.most)) d ∙ R.link e (omega (arith, d)) b k)

-- item j - 1 is put in; the loop runs while 0 < j
pub rise_next : (L : Layout) (key : ℕ → ℕ) (ls l : List ℕ) (m j n : ℕ) → Risen L key ls m j → l ≡ linked L ls (j - 1) n → n ≡ key (j - 1) → n < L.keys → 0 < j
    → j ≤ m → Risen L key l m (j - 1)
rise_next L key ls l m j n R e q f p jm =
    let z : j ≡ suc (j - 1) = omega arith in
    rw e (rise_in L key ls m (j - 1) n (rw z at R) q f (omega arith))

-- ---- what is written elsewhere, and keys that agree

-- place a belongs to neither part
pub record Outside (L : Layout) (a : ℕ) : Type 0 where
  pub off_links : (e : ℕ) → e < L.items → L.links + e ≡ a → ⊥
  pub off_heads : (n : ℕ) → n < L.keys → L.heads + n ≡ a → ⊥

-- l holds the chains of ls
pub record SameChains (L : Layout) (ls l : List ℕ) : Type 0 where
  pub long : length l ≡ length ls
  pub same_link : (e : ℕ) → e < L.items → get_or l (slot L.links e) 0 ≡ get_or ls (slot L.links e) 0
  pub same_head : (n : ℕ) → n < L.keys → get_or l (slot L.heads n) 0 ≡ get_or ls (slot L.heads n) 0

pub same_put : (L : Layout) (ls l : List ℕ) (a v : ℕ) → l ≡ set ls a v → Outside L a → SameChains L ls l
same_put L ls l a v q o =
    rw q (record {
      long = length-set ls a v;
      same_link = λ e h. get_or-set_other ls a (slot L.links e) v 0 (λ z. o.off_links e h (sym (slot_is L.links e)
          ∙ z));
      same_head = λ n h. get_or-set_other ls a (slot L.heads n) v 0 (λ z. o.off_heads n h (sym (slot_is L.heads n) ∙ z));
    })

pub chain_same : (L : Layout) (key : ℕ → ℕ) (ls l : List ℕ) (m : ℕ) → Chained L key ls m → SameChains L ls l → Chained L key l m
chain_same L key ls l m C S =
    record {
      fits = C.fits;
      wide = S.long ∙ C.wide;
      most = C.most;
      head = λ n h. S.same_head n h ∙ C.head n h;
      link = λ e h k. S.same_link e (omega (arith, C.most)) ∙ C.link e h k;
    }

pub rise_same : (L : Layout) (key : ℕ → ℕ) (ls l : List ℕ) (m j : ℕ) → Risen L key ls m j → SameChains L ls l → Risen L key l m j
rise_same L key ls l m j R S =
    record {
      fits = R.fits;
      wide = S.long ∙ R.wide;
      most = R.most;
      head = λ n h. S.same_head n h ∙ R.head n h;
      link = λ e a h k. S.same_link e (omega (arith, R.most)) ∙ R.link e a h k;
    }

-- a store elsewhere, as code leaves it
pub chain_put : (L : Layout) (key : ℕ → ℕ) (ls l : List ℕ) (m a v : ℕ) → Chained L key ls m → Outside L a → l ≡ set ls a v → Chained L key l m
chain_put L key ls l m a v C o q = chain_same L key ls l m C (same_put L ls l a v q o)

-- the places of M's chains belong to neither part of L: both may stand in one table
pub record Beside (L M : Layout) : Type 0 where
  pub links_off : (e : ℕ) → e < M.items → Outside L (M.links + e)
  pub heads_off : (n : ℕ) → n < M.keys → Outside L (M.heads + n)

pub beside_high : (L M : Layout) (t : ℕ) → L.links + L.items ≤ t → L.heads + L.keys ≤ t → t ≤ M.links → t ≤ M.heads → Beside M L
beside_high L M t a b c d =
    record {
      links_off = λ e h. record { off_links = λ i l q. omega arith; off_heads = λ i l q. omega arith };
      heads_off = λ n h. record { off_links = λ i l q. omega arith; off_heads = λ i l q. omega arith };
    }

-- l differs from ls in L's parts only: what a builder leaves of the table besides its chains
pub record Only (L : Layout) (ls l : List ℕ) : Type 0 where
  pub long : length l ≡ length ls
  pub kept : (a : ℕ) → Outside L a → get_or l a 0 ≡ get_or ls a 0

pub only_none : (L : Layout) (ls : List ℕ) → Only L ls ls
only_none L ls = record { long = refl; kept = λ a o. refl }

pub only_twice : (L : Layout) (ls l k : List ℕ) → Only L ls l → Only L l k → Only L ls k
only_twice L ls l k S T = record { long = T.long ∙ S.long; kept = λ a o. T.kept a o ∙ S.kept a o }

only_head_set : (L : Layout) (ls : List ℕ) (n v : ℕ) → n < L.keys → Only L ls (set ls (slot L.heads n) v)
only_head_set L ls n v f =
    record {
      long = length-set ls (slot L.heads n) v;
      kept = λ a o.
          get_or-set_other ls (slot L.heads n) a v 0 (λ q. o.off_heads n f (sym (slot_is L.heads n) ∙ sym q));
    }

only_link_set : (L : Layout) (ls : List ℕ) (i v : ℕ) → i < L.items → Only L ls (set ls (slot L.links i) v)
only_link_set L ls i v s =
    record {
      long = length-set ls (slot L.links i) v;
      kept = λ a o.
          get_or-set_other ls (slot L.links i) a v 0 (λ q. o.off_links i s (sym (slot_is L.links i) ∙ sym q));
    }

-- head n was stored
pub only_head : (L : Layout) (ls l k : List ℕ) (n v : ℕ) → Only L ls l → k ≡ set l (slot L.heads n) v → n < L.keys → Only L ls k
only_head L ls l k n v S q f = rw q (only_twice L ls l (set l (slot L.heads n) v) S (only_head_set L l n v f))

only_in : (L : Layout) (ls l : List ℕ) (i n : ℕ) → Only L ls l → n < L.keys → i < L.items → Only L ls (linked L l i n)
only_in L ls l i n S f s =
    let h : ℕ = get_or l (slot L.heads n) 0 in
    let k : List ℕ = set l (slot L.links i) h in
    only_twice L ls k (linked L l i n) (only_twice L ls l k S (only_link_set L l i h s)) (only_head_set L k n (i + 1) f)

-- item i was put in; item j - 1 was
pub only_next : (L : Layout) (ls l k : List ℕ) (i n m : ℕ) → Only L ls l → k ≡ linked L l i n → n < L.keys → i < m → m ≤ L.items → Only L ls k
only_next L ls l k i n m S q f im mm = rw q (only_in L ls l i n S f (omega arith))

pub only_prev : (L : Layout) (ls l k : List ℕ) (j n m : ℕ) → Only L ls l → k ≡ linked L l (j - 1) n → n < L.keys → 0 < j → j ≤ m → m ≤ L.items → Only L ls k
only_prev L ls l k j n m S q f p jm mm = rw q (only_in L ls l (j - 1) n S f (omega arith))

-- what was built before in another layout of the table stands. The store comes first: it leads back from the table as it is
pub only_same : (L M : Layout) (ls l : List ℕ) → Only M ls l → Beside M L → SameChains L ls l
only_same L M ls l S B =
    record {
      long = S.long;
      same_link = λ e h. rw (slot_is L.links e) (S.kept (L.links + e) (B.links_off e h));
      same_head = λ n h. rw (slot_is L.heads n) (S.kept (L.heads + n) (B.heads_off n h));
    }

pub chain_only : (L M : Layout) (key : ℕ → ℕ) (ls l : List ℕ) (m : ℕ) → Only M ls l → Beside M L → Chained L key ls m → Chained L key l m
chain_only L M key ls l m S B C = chain_same L key ls l m C (only_same L M ls l S B)

-- the same past two builders
pub chain_only_two : (L M N : Layout) (key : ℕ → ℕ) (ls l k : List ℕ) (m : ℕ) → Only N l k → Beside N L → Only M ls l → Beside M L → Chained L key ls m
    → Chained L key k m
chain_only_two L M N key ls l k m T D S B C = chain_only L N key l k m T D (chain_only L M key ls l m S B C)

-- ---- a table of any contents: its heads are cleared first

-- the heads below k are 0
pub record Cleared (L : Layout) (ls : List ℕ) (k : ℕ) : Type 0 where
  pub fits : Fits L
  pub wide : length ls ≡ L.size
  pub zeros : (n : ℕ) → n < k → get_or ls (slot L.heads n) 0 ≡ 0

pub clear_none : (L : Layout) (ls : List ℕ) → Fits L → length ls ≡ L.size → Cleared L ls 0
clear_none L ls F w = record { fits = F; wide = w; zeros = λ n h. absurd (not-suc-le-zero h) }

pub clear_next : (L : Layout) (ls l : List ℕ) (k : ℕ) → Cleared L ls k → l ≡ set ls (slot L.heads k) 0 → k < L.keys → Cleared L l (k + 1)
clear_next L ls l k C q f = rw q (record { fits = C.fits; wide = length-set ls (slot L.heads k) 0 ∙ C.wide; zeros = zeros })
  where
    zeros : (n : ℕ) → n < k + 1 → get_or (set ls (slot L.heads k) 0) (slot L.heads n) 0 ≡ 0
    zeros n h =
        split (eqb n k)
        (λ t. rw (eqb-true n k t) (get_or-set_same ls (slot L.heads k) 0 0 (omega (arith, C.wide, head_in_lem L C.fits k f))))
        (λ t. let d : n ≡ k → ⊥ = eqb-false n k t in
        get_or-set_other ls (slot L.heads k) (slot L.heads n) 0 0 (λ z. d (slot_own L.heads n k z)) ∙ C.zeros n (omega (arith, d)))

-- all are: chains can be built
pub chain_clear : (L : Layout) (key : ℕ → ℕ) (ls : List ℕ) → Cleared L ls L.keys → Chained L key ls 0
chain_clear L key ls C = chain_none L key ls C.fits C.wide C.zeros

pub rise_clear : (L : Layout) (key : ℕ → ℕ) (ls : List ℕ) (m : ℕ) → Cleared L ls L.keys → m ≤ L.items → Risen L key ls m m
rise_clear L key ls m C mm = rise_none L key ls m C.fits C.wide mm C.zeros

-- two key functions that give the items below m the same keys
pub record Agree (f g : ℕ → ℕ) (m : ℕ) : Type 0 where
  pub agree : (e : ℕ) → e < m → f e ≡ g e

module _ (f g : ℕ → ℕ) where
  newest_agree : (j n : ℕ) → ((e : ℕ) → e < j → f e ≡ g e) → newest f j n ≡ newest g j n
  newest_agree zero n a = newest_zero f n ∙ sym (newest_zero g n)
  newest_agree (suc j) n a =
      let q : f j ≡ g j = a j (omega arith) in
      let r : newest f j n ≡ newest g j n = newest_agree j n (λ e h. a e (omega arith)) in
      split (eqb (f j) n)
      (λ t. newest_hit f j n t ∙ sym (newest_hit g j n (rw q at t)))
      (λ t. newest_miss f j n t ∙ r ∙ sym (newest_miss g j n (rw q at t)))

  downs_same : (j n : ℕ) → ((e : ℕ) → e < j → f e ≡ g e) → downs f j n ≡ downs g j n
  downs_same zero n a = downs_zero f n ∙ sym (downs_zero g n)
  downs_same (suc j) n a =
      let q : f j ≡ g j = a j (omega arith) in
      let r : downs f j n ≡ downs g j n = downs_same j n (λ e h. a e (omega arith)) in
      split (eqb (f j) n)
      (λ t. downs_hit f j n t ∙ ap (λ (l : List ℕ). j ∷ l) r ∙ sym (downs_hit g j n (rw q at t)))
      (λ t. downs_miss f j n t ∙ r ∙ sym (downs_miss g j n (rw q at t)))

  oldest_agree : (k e m n : ℕ) → m - e ≡ k → ((e : ℕ) → e < m → f e ≡ g e) → oldest f e m n ≡ oldest g e m n
  oldest_agree zero e m n z a = oldest_past f e m n (omega arith) ∙ sym (oldest_past g e m n (omega arith))
  oldest_agree (suc k) e m n z a =
      let h : e < m = omega arith in
      let q : f e ≡ g e = a e h in
      let r : oldest f (suc e) m n ≡ oldest g (suc e) m n = oldest_agree k (suc e) m n (omega arith) a in
      split (eqb (f e) n)
      (λ t. oldest_hit f e m n h t ∙ sym (oldest_hit g e m n h (rw q at t)))
      (λ t. oldest_miss f e m n h t ∙ r ∙ sym (oldest_miss g e m n h (rw q at t)))

  ups_same : (k e m n : ℕ) → m - e ≡ k → ((e : ℕ) → e < m → f e ≡ g e) → ups f e m n ≡ ups g e m n
  ups_same zero e m n z a = ups_past f e m n (omega arith) ∙ sym (ups_past g e m n (omega arith))
  ups_same (suc k) e m n z a =
      let h : e < m = omega arith in
      let q : f e ≡ g e = a e h in
      let r : ups f (suc e) m n ≡ ups g (suc e) m n = ups_same k (suc e) m n (omega arith) a in
      split (eqb (f e) n)
      (λ t. ups_hit f e m n h t ∙ ap (λ (l : List ℕ). e ∷ l) r ∙ sym (ups_hit g e m n h (rw q at t)))
      (λ t. ups_miss f e m n h t ∙ r ∙ sym (ups_miss g e m n h (rw q at t)))

-- the items' words changed, and no key below m did
pub chain_agree : (L : Layout) (f g : ℕ → ℕ) (ls : List ℕ) (m : ℕ) → Chained L f ls m → Agree f g m → Chained L g ls m
chain_agree L f g ls m C A = record { fits = C.fits; wide = C.wide; most = C.most; head = heads; link = links }
  where
    heads : (n : ℕ) → n < L.keys → get_or ls (slot L.heads n) 0 ≡ newest g m n
    heads n h = C.head n h ∙ newest_agree f g m n A.agree

    links : (e : ℕ) → e < m → g e < L.keys → get_or ls (slot L.links e) 0 ≡ newest g e (g e)
    links e h k =
        let q : f e ≡ g e = A.agree e h in
        C.link e h (rw q k) ∙ rw q (newest_agree f g e (g e) (λ d l. A.agree d (omega arith)))

-- ---- keys by the words of a table, to which words are appended while their chains are in use

-- item e is word e of ws
unfoldable pub keyed : (ℕ → ℕ) → List ℕ → ℕ → ℕ
keyed k ws e = k (get_or ws e 0)

pub keyed_is : (k : ℕ → ℕ) (ws : List ℕ) (e r : ℕ) → r ≡ k (get_or ws e 0) → r ≡ keyed k ws e
unfolding keyed
keyed_is k ws e r q = q

pub keyed_put : (k : ℕ → ℕ) (ws us : List ℕ) (m a w : ℕ) → us ≡ set ws a w → m ≤ a → Agree (keyed k ws) (keyed k us) m
unfolding keyed
keyed_put k ws us m a w q h = record { agree = λ e l. rw (q, get_or-set_other ws a e w 0 (λ z. omega arith)) }

-- a word was stored past the items that are in
pub chain_word : (L : Layout) (k : ℕ → ℕ) (ws us ls : List ℕ) (m a w : ℕ) → Chained L (keyed k ws) ls m → us ≡ set ws a w → m ≤ a → Chained L (keyed k us) ls m
chain_word L k ws us ls m a w C q h = chain_agree L (keyed k ws) (keyed k us) ls m C (keyed_put k ws us m a w q h)

-- word w was appended, and its item put into chain n
pub chain_add : (L : Layout) (k : ℕ → ℕ) (ws us ls l : List ℕ) (m n w : ℕ) → Chained L (keyed k ws) ls m → us ≡ set ws m w → l ≡ linked L ls m n → n ≡ k w
    → n < L.keys → m < L.items → m < length ws → Chained L (keyed k us) l (m + 1)
chain_add L k ws us ls l m n w C q e z f s h =
    chain_link L (keyed k us) ls l m n (chain_word L k ws us ls m m w C q (omega arith)) e
    (keyed_is k us m n (z ∙ ap k (sym (ap (λ (x : List ℕ). get_or x m 0) q ∙ get_or-set_same ws m w 0 h)))) f s
