-- Why the chains that the code hangs, from the last item to the first, are those of `Hangs`.
use Rattle.std.specs.Prelude.{◌≡◌, refl, cond, length, set, eqb, ltb, leb}
use Rattle.std.proofs.Math.Path.{sym}
use Rattle.std.proofs.Common.{ap, ◌∙◌, add-one, length-set, get_or-set_same, get_or-set_other, lt-ltb, le-ltb, leb-true, leb-false, le-leb, eqb-true, ltb-true, ltb-false, ne_eqb}
use mathlib.Core.List.{List}
use Prim.Native.Nat.{ℕ, zero, suc, ◌+◌, ◌≤◌, ◌<◌}
use native.Mathlib.Omega.{arith}
use Rattle.std.proofs.Math.ListN.{get_or}
use Rattle.std.proofs.lemmas.Bool.{lt-leb, eqb-false}
use Rattle.basis.specs.Members.{split}
use Rattle.basis.specs.Chains.{Layout, Fits, fits_after, slot, linked, oldest, oldest_hit, oldest_miss, oldest_past}
use Rattle.records.specs.declared.Table.{Table}
use Rattle.records.specs.declared.Table.TheVariants.{Candidates, Clauses}
use Rattle.records.specs.Shapes.{records_of, limit}
use Rattle.records.specs.Tables.{Tables, at}
use Rattle.records.specs.Read.{read_of, good, tables_of}
use Rattle.index.specs.Promise.{Valid, promise}
use Rattle.index.specs.Index.{base, Based, Loaded, Blank, Hangs, index_of, numbered, no_places, link_of, hung, record_no, key_in, candidate_lay, partner_lay}
use Rattle.index.specs.Index.{candidate_key, partner_key, candidates_hung, partners_hung}
use Rattle.index.specs.Found.{found}
use Rattle.index.specs.Regions.{below_chains}
use Rattle.index.specs.Loading.{numbers_hold}

-- ---- one item at the head of its chain

slot_is : (b i : ℕ) → slot b i ≡ b + i
slot_is zero i = omega arith
slot_is (suc b) i = refl

plain : (L : Layout) (ix : List ℕ) (i n : ℕ) → linked L ix i n ≡ set (set ix (L.links + i) (get_or ix (L.heads + n) 0)) (L.heads + n) (i + 1)
plain L ix i n = rw (slot_is L.links i, slot_is L.heads n)

module _ (L : Layout) (F : Fits L) (ix : List ℕ) (wide : length ix ≡ L.size) (i n : ℕ) (small : i < L.items) (known : n < L.keys) where
  linked_long : length (linked L ix i n) ≡ length ix
  linked_long = rw (length-set, length-set)

  linked_else : (a : ℕ) → (a ≡ L.links + i → ⊥) → (a ≡ L.heads + n → ⊥) → get_or (linked L ix i n) a 0 ≡ get_or ix a 0
  linked_else a d e =
      rw (plain L ix i n)
      (get_or-set_other (set ix (L.links + i) (get_or ix (L.heads + n) 0)) (L.heads + n) a (i + 1) 0 e
      ∙ get_or-set_other ix (L.links + i) a (get_or ix (L.heads + n) 0) 0 d)

  linked_head : get_or (linked L ix i n) (L.heads + n) 0 ≡ suc i
  linked_head =
      rw (plain L ix i n)
      (get_or-set_same (set ix (L.links + i) (get_or ix (L.heads + n) 0)) (L.heads + n) (i + 1) 0 (rw length-set (omega (arith, F.heads_in))) ∙ add-one i)

  linked_link : get_or (linked L ix i n) (L.links + i) 0 ≡ get_or ix (L.heads + n) 0
  linked_link =
      rw (plain L ix i n)
      (get_or-set_other (set ix (L.links + i) (get_or ix (L.heads + n) 0)) (L.heads + n) (L.links + i) (i + 1) 0 (F.apart i n small known)
      ∙ get_or-set_same ix (L.links + i) (get_or ix (L.heads + n) 0) 0 (omega (arith, F.links_in)))

-- ---- the items from j on are in

pub record From (L : Layout) (key : ℕ → ℕ) (m j : ℕ) (ix : List ℕ) : Type 0 where
  pub head : (n : ℕ) → n < L.keys → get_or ix (L.heads + n) 0 ≡ oldest key j m n
  pub link : (k : ℕ) → k < L.items → get_or ix (L.links + k) 0 ≡ cond (leb j k) (link_of key L.keys m k) 0

pub from_none : (L : Layout) (key : ℕ → ℕ) (m : ℕ) (ix : List ℕ) → ((n : ℕ) → n < L.keys → get_or ix (L.heads + n) 0 ≡ 0)
    → ((k : ℕ) → k < L.items → get_or ix (L.links + k) 0 ≡ 0) → From L key m m ix
unfolding link_of
from_none L key m ix h l = record { head = λ n k. h n k ∙ sym (oldest_past key m m n (omega arith)); link = λ k s. l k s ∙ sym (none k) }
  where
    none : (k : ℕ) → cond (leb m k) (link_of key L.keys m k) 0 ≡ 0
    none k =
        split (leb m k)
        (λ q. rw q (split (ltb (key k) L.keys) (λ t. rw t (oldest_past key (suc k) m (key k) (omega (arith, leb-true m k q)))) (λ t. rw t)))
        (λ q. rw q)

pub from_all : (L : Layout) (key : ℕ → ℕ) (m : ℕ) (ix : List ℕ) → From L key m 0 ix → Hangs L key m ix
from_all L key m ix f = record { head = f.head; link = λ k h. f.link k h ∙ rw (le-leb 0 k (omega arith)) }

module _ (L : Layout) (F : Fits L) (key : ℕ → ℕ) (m i : ℕ) (ix : List ℕ) (wide : length ix ≡ L.size) (im : i < m) (mm : m
    ≤ L.items) (f : From L key m (suc i) ix) where
  shift : (k : ℕ) → (k ≡ i → ⊥) → cond (leb (suc i) k) (link_of key L.keys m k) 0 ≡ cond (leb i k) (link_of key L.keys m k) 0
  shift k d =
      split (leb i k)
      (λ q. rw (q, le-leb (suc i) k (omega (arith, leb-true i k q, d))))
      (λ q. rw (q, lt-leb (suc i) k (omega (arith, leb-false i k q))))

  from_in : key i < L.keys → From L key m i (linked L ix i (key i))
  unfolding link_of
  from_in known = record { head = heads; link = links }
    where
      small : i < L.items
      small = omega arith

      heads : (n : ℕ) → n < L.keys → get_or (linked L ix i (key i)) (L.heads + n) 0 ≡ oldest key i m n
      heads n h =
          split (eqb (key i) n)
          (λ t. let z : n ≡ key i = sym (eqb-true (key i) n t) in rw (oldest_hit key i m n im t, z) (linked_head L F ix wide i (key i) small known))
          (λ t. rw (oldest_miss key i m n im t)
          (linked_else L F ix wide i (key i) small known (L.heads + n) (λ z. F.apart i n small h (sym z)) (λ z. eqb-false (key i) n t (omega arith))
          ∙ f.head n h))

      links : (k : ℕ) → k < L.items → get_or (linked L ix i (key i)) (L.links + k) 0 ≡ cond (leb i k) (link_of key L.keys m k) 0
      links k h =
          split (eqb k i)
          (λ t. rw (eqb-true k i t, le-leb i i (omega arith), lt-ltb (key i) L.keys known) (linked_link L F ix wide i (key i) small known
          ∙ f.head (key i) known))
          (λ t. linked_else L F ix wide i (key i) small known (L.links + k) (λ z. eqb-false k i t (omega arith)) (F.apart k (key i) h known)
          ∙ f.link k h ∙ shift k (eqb-false k i t))

  from_out : L.keys ≤ key i → From L key m i ix
  unfolding link_of
  from_out past = record { head = heads; link = links }
    where
      heads : (n : ℕ) → n < L.keys → get_or ix (L.heads + n) 0 ≡ oldest key i m n
      heads n h = f.head n h ∙ sym (oldest_miss key i m n im (ne_eqb (key i) n (λ z. omega arith)))

      links : (k : ℕ) → k < L.items → get_or ix (L.links + k) 0 ≡ cond (leb i k) (link_of key L.keys m k) 0
      links k h =
          split (eqb k i)
          (λ t. f.link k h ∙ rw (eqb-true k i t, le-leb i i (omega arith), le-ltb (key i) L.keys past, lt-leb (suc i) i (omega arith)))
          (λ t. f.link k h ∙ shift k (eqb-false k i t))

  from_hung : From L key m i (hung L (key i) ix i)
  unfolding hung
  from_hung = split (ltb (key i) L.keys) (λ t. rw t (from_in (ltb-true (key i) L.keys t))) (λ t. rw t (from_out (ltb-false (key i) L.keys t)))

-- ---- what a phase leaves alone

-- the slots below lo and from hi on are as they were
pub record Within (lo hi : ℕ) (ix iy : List ℕ) : Type 0 where
  pub long : length iy ≡ length ix
  pub low : (a : ℕ) → a < lo → get_or iy a 0 ≡ get_or ix a 0
  pub high : (a : ℕ) → hi ≤ a → get_or iy a 0 ≡ get_or ix a 0

within_none : (lo hi : ℕ) (ix : List ℕ) → Within lo hi ix ix
within_none lo hi ix = record { long = refl; low = λ a h. refl; high = λ a h. refl }

within_twice : (lo hi : ℕ) (ix iy iz : List ℕ) → Within lo hi ix iy → Within lo hi iy iz → Within lo hi ix iz
within_twice lo hi ix iy iz p q =
    record { long = q.long ∙ p.long; low = λ a h. q.low a h ∙ p.low a h; high = λ a h. q.high a h ∙ p.high a h }

-- a layout between lo and hi
record Spans (L : Layout) (lo hi : ℕ) : Type 0 where
  links_from : lo ≤ L.links
  links_to : L.links + L.items ≤ hi
  heads_from : lo ≤ L.heads
  heads_to : L.heads + L.keys ≤ hi

within_hung : (L : Layout) (F : Fits L) (lo hi : ℕ) → Spans L lo hi → (ix : List ℕ) → length ix ≡ L.size → (n k : ℕ) → k < L.items
    → Within lo hi ix (hung L n ix k)
unfolding hung
within_hung L F lo hi s ix w n k h =
    split (ltb n L.keys)
    (λ t. let l : n < L.keys = ltb-true n L.keys t in
    rw t (record {
      long = linked_long L F ix w k n h l;
      low = λ a q. linked_else L F ix w k n h l a (λ z. omega (arith, s.links_from)) (λ z. omega (arith, s.heads_from));
      high = λ a q. linked_else L F ix w k n h l a (λ z. omega (arith, s.links_to)) (λ z. omega (arith, s.heads_to));
    }))
    (λ t. rw t (within_none lo hi ix))

below : (t : Table) (k : ℕ) → k < limit t → base t + k < 5056
below t k h = omega (arith, below_chains t)

based_within : (file ix iy : List ℕ) (lo hi : ℕ) → 5056 ≤ lo → Within lo hi ix iy → Based file ix → Based file iy
based_within file ix iy lo hi h q b =
    record { accepted = b.accepted; wide = q.long ∙ b.wide; own = λ t k l. q.low (base t + k) (omega (arith, below t k l)) ∙ b.own t k l }

-- ---- the two phases

candidate_fits_lem : Fits candidate_lay
candidate_fits_lem = fits_after candidate_lay (omega arith) (omega arith)

partner_fits : Fits partner_lay
partner_fits = fits_after partner_lay (omega arith) (omega arith)

candidate_spans : Spans candidate_lay 5056 6336
candidate_spans = record { links_from = omega arith; links_to = omega arith; heads_from = omega arith; heads_to = omega arith }

partner_spans : Spans partner_lay 6336 10432
partner_spans = record { links_from = omega arith; links_to = omega arith; heads_from = omega arith; heads_to = omega arith }

pub record Hung (file : List ℕ) (L : Layout) (key : ℕ → ℕ) (m lo hi : ℕ) (ix iy : List ℕ) : Type 0 where
  pub still : Based file iy
  pub hangs : From L key m 0 iy
  pub inside : Within lo hi ix iy

module _ (file : List ℕ) where
  reads_candidate : (ix : List ℕ) → Based file ix → (k : ℕ) → (at (records_of file) (record_no 896 1024 ix k)).a ≡ candidate_key (tables_of file) k
  reads_candidate ix b k = ap (λ r. r.a) (found file ix b Candidates k (λ j. refl))

  reads_partner : (ix : List ℕ) → Based file ix → (k : ℕ) → key_in (at (records_of file) (record_no 4032 1024 ix k)) ≡ partner_key (tables_of file) k
  reads_partner ix b k = ap key_in (found file ix b Clauses k (λ j. refl))

  candidates_hold : (m j : ℕ) (ix : List ℕ) → j ≤ m → m ≤ 1024 → Based file ix → From candidate_lay (candidate_key (tables_of file)) m j ix
      → Hung file candidate_lay (candidate_key (tables_of file)) m 5056 6336 ix (candidates_hung file j ix)
  unfolding candidates_hung
  candidates_hold m zero ix h l b f = record { still = b; hangs = f; inside = within_none 5056 6336 ix }
  candidates_hold m (suc k) ix h l b f =
      let iy : List ℕ = hung candidate_lay (at (records_of file) (record_no 896 1024 ix k)).a ix k in
      let q : Within 5056 6336 ix iy = within_hung candidate_lay candidate_fits_lem 5056 6336 candidate_spans ix b.wide
      (at (records_of file) (record_no 896 1024 ix k)).a k (omega arith) in
      let g : From candidate_lay (candidate_key (tables_of file)) m k iy =
      rw (reads_candidate ix b k) (from_hung candidate_lay candidate_fits_lem (candidate_key (tables_of file)) m k ix b.wide h l f) in
      let r = candidates_hold m k iy (omega arith) l (based_within file ix iy 5056 6336 (omega arith) q b) g in
      record { still = r.still; hangs = r.hangs; inside = within_twice 5056 6336 ix iy (candidates_hung file k iy) q r.inside }

  pub partners_hold : (m j : ℕ) (ix : List ℕ) → j ≤ m → m ≤ 1024 → Based file ix → From partner_lay (partner_key (tables_of file)) m j ix
      → Hung file partner_lay (partner_key (tables_of file)) m 6336 10432 ix (partners_hung file j ix)
  unfolding partners_hung
  partners_hold m zero ix h l b f = record { still = b; hangs = f; inside = within_none 6336 10432 ix }
  partners_hold m (suc k) ix h l b f =
      let iy : List ℕ = hung partner_lay (key_in (at (records_of file) (record_no 4032 1024 ix k))) ix k in
      let q : Within 6336 10432 ix iy = within_hung partner_lay partner_fits 6336 10432 partner_spans ix b.wide
      (key_in (at (records_of file) (record_no 4032 1024 ix k))) k (omega arith) in
      let g : From partner_lay (partner_key (tables_of file)) m k iy = rw (reads_partner ix b k)
      (from_hung partner_lay partner_fits (partner_key (tables_of file)) m k ix b.wide h l f) in
      let r = partners_hold m k iy (omega arith) l (based_within file ix iy 6336 10432 (omega arith) q b) g in
      record { still = r.still; hangs = r.hangs; inside = within_twice 6336 10432 ix iy (partners_hung file k iy) q r.inside }

-- ---- the whole

pub hangs_low : (L : Layout) (key : ℕ → ℕ) (m lo hi : ℕ) (ix iy : List ℕ) → L.links + L.items ≤ lo → L.heads + L.keys ≤ lo → Within lo hi ix iy
    → Hangs L key m ix → Hangs L key m iy
hangs_low L key m lo hi ix iy a b q h =
    record { head = λ n k. q.low (L.heads + n) (omega arith) ∙ h.head n k; link = λ n k. q.low (L.links + n) (omega arith) ∙ h.link n k }

pub loaded : (file ix : List ℕ) → read_of file ≡ good (tables_of file) → Blank ix
    → Loaded file (index_of file (length (tables_of file).candidates) (length (tables_of file).clauses) ix)
unfolding index_of
loaded file ix e z =
    let T : Tables = tables_of file in
    let v : Valid T = promise file T e in
    let i0 : List ℕ = numbered (records_of file) 0 no_places ix in
    let n = numbers_hold file ix e z in
    let free : (a : ℕ) → 5056 ≤ a → get_or i0 a 0 ≡ 0 = n.1 in
    let mc = length T.candidates in
    let mp = length T.clauses in
    let i1 : List ℕ = candidates_hung file mc i0 in
    let i2 : List ℕ = partners_hung file mp i1 in
    let c = candidates_hold file mc mc i0 (omega arith) (v.within Candidates) n.0
    (from_none candidate_lay (candidate_key T) mc i0 (λ a h. free (5056 + a) (omega arith)) (λ a h. free (5312 + a) (omega arith))) in
    let p = partners_hold file mp mp i1 (omega arith) (v.within Clauses) c.still
    (from_none partner_lay (partner_key T) mp i1
    (λ a h. c.inside.high (6336 + a) (omega arith) ∙ free (6336 + a) (omega arith)) (λ a h. c.inside.high (9408 + a) (omega arith)
    ∙ free (9408 + a) (omega arith))) in
    record {
      based = p.still;
      candidates =
          hangs_low candidate_lay (candidate_key T) mc 6336 10432 i1 i2 (omega arith) (omega arith) p.inside
          (from_all candidate_lay (candidate_key T) mc i1 c.hangs);
      partners = from_all partner_lay (partner_key T) mp i2 p.hangs;
    }
