-- Reading and filling at once: what the code stores for a record while it reads (src/lib.rt), and what then is known of the index.
-- The way of the laws is that of Loading.antt, record by record: behind the first i records the tables T are theirs, the marks and the
-- counts are those of T, the regions hold what is wanted, and the candidates are strung in their order (`Going`).
use Rattle.std.specs.Prelude.{◌≡◌, Bool, false, cond, Option, Some, None, Result, Ok, Err, get_or, take, replicate, eqb, ltb}
use Rattle.std.proofs.Math.Path.{refl, sym, ap, subst}
use Rattle.std.proofs.Common.{◌∙◌, arith, not-suc-le-zero, take-suc, take_all, length-take-le}
use Rattle.std.proofs.Math.Bool.{true}
use mathlib.Core.List.{List, [], ◌∷◌}
use Rattle.std.proofs.Math.Option as maybe
use Rattle.std.proofs.Math.Option.{none, some}
use Prim.Native.Nat.{ℕ, zero, suc, ◌+◌, ◌-◌, ◌/◌, ◌≤◌, ◌<◌}
use Rattle.std.proofs.Math.Numerals.{add-one}
use Rattle.std.proofs.Math.ListN.{length, set, length-append}
use Rattle.std.proofs.lemmas.List.{length-replicate, get_or-replicate}
use borrow.Author.Tests.{lt-ltb, le-ltb, eq-eqb, ne_eqb}
use Rattle.basis.specs.Lists.{snoc, filter}
use Rattle.basis.specs.Members.{split, clash, All}
use Rattle.basis.specs.Chains.{Fits, fits_after}
use Rattle.records.specs.declared.Table.{Table}
use Rattle.records.specs.declared.Table.TheVariants.{Names, Solvables, VersionSets, Requirements, Candidates, Reasons, Variables, Assigned, Clauses}
use Rattle.records.specs.declared.Counts.{Counts}
use Rattle.records.specs.declared.Shape.{Shape}
use Rattle.records.specs.declared.Refused.{Refused}
use Rattle.records.specs.Shapes.{Rec, records_of, shape_of}
use Rattle.records.specs.Tables.{Tables, no_tables, no_rec, at, table_of, put, counts_of}
use Rattle.records.specs.Read.{read_of, answer_of, refusal_in}
use Rattle.records.specs.Cut.{length_cut}
use Rattle.records.specs.Steps.{Passed, passed}
use Rattle.records.specs.Pass.{check_pass, more_of, noted, turn_pass, pass_from, left_pass, no_counts, turn_on, marks_on, left_next, left_end}
use Rattle.records.specs.Agree.{Marked, step_of, check_none, check_some, next_marked, none_marked, more_is_good}
use Rattle.arms.specs.Fits.{Sure, sure_step}
use Rattle.index.specs.Steps.{table_no, table_no_of, is_in, each_table, table_known}
use Rattle.index.specs.Promise.{Valid, valid_more, valid_none, all_whole}
use Rattle.index.specs.Index.{base, assign, candidate_lay, Blank, Hangs, Loaded}
use Rattle.index.specs.Regions.{below_chains}
use Rattle.index.specs.Loading.{Filled, HeldIn, is_listed, is_own, key_for, value_for, own_number, assigned_small, key_small, held_more, filled_set, filled_none}
use Rattle.index.specs.Strung.{behind_last, strung, tailed, Strung, strung_none, strung_more, strung_hangs, strung_else, strung_set}

-- ---- what is stored for a record

-- record r, number i, which is candidate k: its place, and it goes behind the last one of its requirement
unfoldable pub candidate_in : Rec → ℕ → ℕ → List ℕ → List ℕ → List ℕ
unfolding strung
candidate_in r i k ix tl = cond (ltb k 1024) (strung candidate_lay r.a (set ix (896 + k) (i + 1)) tl k) ix

unfoldable pub tails_in : Rec → ℕ → List ℕ → List ℕ
unfolding tailed
tails_in r k tl = cond (ltb k 1024) (tailed candidate_lay r.a tl k) tl

-- record i, which is clause k
unfoldable pub clause_in : ℕ → ℕ → List ℕ → List ℕ
clause_in i k ix = cond (ltb k 1024) (set ix (4032 + k) (i + 1)) ix

-- record r, number i, of table t: candidates and clauses by their places, the others by their own numbers
abbrev pub entered_at : Table → Rec → ℕ → Counts → List ℕ → List ℕ → List ℕ
entered_at Names r i c ix tl = set ix (0 + r.a) (i + 1)
entered_at Solvables r i c ix tl = set ix (128 + r.a) (i + 1)
entered_at VersionSets r i c ix tl = set ix (384 + r.a) (i + 1)
entered_at Requirements r i c ix tl = set ix (640 + r.a) (i + 1)
entered_at Candidates r i c ix tl = candidate_in r i c.candidates ix tl
entered_at Reasons r i c ix tl = set ix (1920 + r.a) (i + 1)
entered_at Variables r i c ix tl = set ix (1984 + r.a) (i + 1)
entered_at Assigned r i c ix tl = assign r ix
entered_at Clauses r i c ix tl = clause_in i c.clauses ix

abbrev pub tails_at : Table → Rec → Counts → List ℕ → List ℕ
tails_at Names r c tl = tl
tails_at Solvables r c tl = tl
tails_at VersionSets r c tl = tl
tails_at Requirements r c tl = tl
tails_at Candidates r c tl = tails_in r c.candidates tl
tails_at Reasons r c tl = tl
tails_at Variables r c tl = tl
tails_at Assigned r c tl = tl
tails_at Clauses r c tl = tl

unfoldable pub entered : Table → Rec → ℕ → Counts → List ℕ → List ℕ → List ℕ
entered t r i c ix tl = entered_at t r i c ix tl

unfoldable pub tails_of : Table → Rec → Counts → List ℕ → List ℕ
tails_of t r c tl = tails_at t r c tl

-- ---- ways out of the code

pub behind_none : (t a : ℕ) (tl ix iy : List ℕ) (k n : ℕ) → t ≡ 0 → a ≡ get_or tl n 0 → t ≡ a → iy ≡ set ix (5056 + n) (k + 1)
    → iy ≡ behind_last candidate_lay (get_or tl n 0) ix k n
unfolding behind_last
behind_none t a tl ix iy k n z e f q = rw (← e, ← f, eq-eqb t 0 z) q

pub behind_some : (t a : ℕ) (tl ix iy : List ℕ) (k n : ℕ) → (t ≡ 0 → ⊥) → a ≡ get_or tl n 0 → t ≡ a → iy ≡ set ix (5312 + (t - 1)) (k + 1)
    → iy ≡ behind_last candidate_lay (get_or tl n 0) ix k n
unfolding behind_last
behind_some t a tl ix iy k n z e f q = rw (← e, ← f, ne_eqb t 0 z) q

module _ (r : Rec) (i k : ℕ) (ix tl : List ℕ) where
  pub candidate_full : 1024 ≤ k → ix ≡ candidate_in r i k ix tl
  unfolding candidate_in
  candidate_full h = rw (le-ltb k 1024 h)

  pub tails_full : 1024 ≤ k → tl ≡ tails_in r k tl
  unfolding tails_in
  tails_full h = rw (le-ltb k 1024 h)

  -- iy has its place, n is its requirement as the code read it
  module _ (iy : List ℕ) (n a : ℕ) (h : k < 1024) (q : iy ≡ set ix (896 + k) (i + 1)) (e : n ≡ a) (f : a ≡ r.a) where
    pub candidate_strung : (iz : List ℕ) → n < 256 → iz ≡ behind_last candidate_lay (get_or tl n 0) iy k n → iz ≡ candidate_in r i k ix tl
    unfolding candidate_in strung
    candidate_strung iz l u = rw (lt-ltb k 1024 h, ← f, ← e, lt-ltb n 256 l, ← q) u

    pub candidate_out : 256 ≤ n → iy ≡ candidate_in r i k ix tl
    unfolding candidate_in strung
    candidate_out l = rw (lt-ltb k 1024 h, ← f, ← e, le-ltb n 256 l) q

  module _ (n a : ℕ) (h : k < 1024) (e : n ≡ a) (f : a ≡ r.a) where
    pub tails_strung : (tm : List ℕ) → n < 256 → tm ≡ set tl n (k + 1) → tm ≡ tails_in r k tl
    unfolding tails_in tailed
    tails_strung tm l v = rw (lt-ltb k 1024 h, ← f, ← e, lt-ltb n 256 l) v

    pub tails_out : 256 ≤ n → tl ≡ tails_in r k tl
    unfolding tails_in tailed
    tails_out l = rw (lt-ltb k 1024 h, ← f, ← e, le-ltb n 256 l)

pub clause_full : (i k : ℕ) (ix : List ℕ) → 1024 ≤ k → ix ≡ clause_in i k ix
unfolding clause_in
clause_full i k ix h = rw (le-ltb k 1024 h)

pub clause_in_lem : (i k : ℕ) (ix iy : List ℕ) → k < 1024 → iy ≡ set ix (4032 + k) (i + 1) → iy ≡ clause_in i k ix
unfolding clause_in
clause_in_lem i k ix iy h q = rw (lt-ltb k 1024 h) q

pub own_in : (b a x i : ℕ) (r : Rec) (ix iy : List ℕ) → a ≡ x → x ≡ r.a → iy ≡ set ix (b + a) (i + 1) → iy ≡ set ix (b + r.a) (i + 1)
own_in b a x i r ix iy e f q = rw (e, f) at q

module _ (t u : Table) (r : Rec) (c : Counts) (e : t ≡ u) where
  pub entered_at_lem : (i : ℕ) (ix iy tl : List ℕ) → iy ≡ entered_at u r i c ix tl → iy ≡ entered t r i c ix tl
  unfolding entered
  entered_at_lem i ix iy tl q = rw e q

  pub tails_at_lem : (tl tm : List ℕ) → tm ≡ tails_at u r c tl → tm ≡ tails_of t r c tl
  unfolding tails_of
  tails_at_lem tl tm q = rw e q

-- ---- a record by its arm

-- where the arm goes on the check says the same, and the counts, the marks, the index and the last candidates are those behind the record;
-- where it does not the index is as it was
unfoldable pub Takes : Counts → List ℕ → Rec → ℕ → List ℕ → List ℕ → Option Counts → List ℕ → List ℕ → List ℕ → Type 0
Takes c m r i ix tl s u iy tm =
    ((d : Counts) → s ≡ Some d
    → (t : Table) × (check_pass c m r ≡ Ok t) × (d ≡ more_of t c) × (u ≡ noted t r m) × (iy ≡ entered t r i c ix tl) × (tm ≡ tails_of t r c tl))
    × (s ≡ None → iy ≡ ix)

module _ (c : Counts) (m : List ℕ) (r : Rec) (i : ℕ) (ix tl : List ℕ) where
  pub takes_no : Takes c m r i ix tl None m ix tl
  unfolding Takes
  takes_no = (λ d y. clash cc, λ y. refl)

  pub takes_on : (q : Option Table) (t : Table) (d : Counts) (u iy tm : List ℕ) → Sure c m r q → q ≡ Some t → d ≡ more_of t c → u ≡ noted t r m
      → (iy ≡ entered t r i c ix tl) × (tm ≡ tails_of t r c tl) → Takes c m r i ix tl (Some d) u iy tm
  unfolding Takes
  takes_on q t d u iy tm h e w v z =
      (λ f y. let g : f ≡ d = cc in (t, sym (sure_step c m r q t h e), g ∙ w, v, z.0, z.1), λ y. clash cc)

-- ---- what is known behind the first i records

-- the requirement of candidate k among records
abbrev pub requirement_of : List Rec → ℕ → ℕ
requirement_of rs k = (at (filter (is_in Candidates) rs) k).a

pub record Going (file : List ℕ) (i : ℕ) (c : Counts) (m ix tl : List ℕ) : Type 0 where
  pub T : Tables
  pub marked : Marked T m
  pub counts : c ≡ counts_of T
  pub valid : Valid T
  pub held : HeldIn (take i (records_of file)) T
  pub filled : Filled 6336 (take i (records_of file)) ix
  pub chains : Strung candidate_lay (requirement_of (records_of file)) (length T.candidates) ix tl

candidate_fits_lem : Fits candidate_lay
candidate_fits_lem = fits_after candidate_lay (omega arith) (omega arith)

pub going_none : (file ix : List ℕ) → Blank ix → Going file 0 no_counts (replicate 1024 0) ix (replicate 256 0)
going_none file ix b =
    record {
      T = no_tables;
      marked = none_marked;
      counts = refl;
      valid = valid_none;
      held = each_table (λ t. table_of t no_tables ≡ []) refl refl refl refl refl refl refl refl refl;
      filled = filled_none 6336 ix b;
      chains = strung_none candidate_lay (requirement_of (records_of file)) ix (replicate 256 0) b.wide (length-replicate {A = ℕ} 256 0)
          (λ n h. b.zeros (5056 + n)) (λ e h. b.zeros (5312 + e)) (λ n h. get_or-replicate 256 n 0 0 h);
    }

-- the record that passes p behind those before it
filter_at : (p : Rec → Bool) (rs : List Rec) (i : ℕ) → i < length rs → p (get_or rs i no_rec) ≡ true
    → get_or (filter p rs) (length (filter p (take i rs))) no_rec ≡ get_or rs i no_rec
filter_at p [] i h e = absurd (not-suc-le-zero h)
filter_at p (x ∷ xs) zero h e = rw (e, filter)
filter_at p (x ∷ xs) (suc i) h e =
    let ih = filter_at p xs i (omega arith) e in
    split (p x) (λ q. rw (q, filter) ih) (λ q. rw (q, filter) ih)

all_get : (P : Rec → Type 0) (rs : List Rec) (i : ℕ) → All P rs → i < length rs → P (get_or rs i no_rec)
all_get P [] i a h = absurd (not-suc-le-zero h)
all_get P (x ∷ xs) zero a h = a.0
all_get P (x ∷ xs) (suc i) a h = all_get P xs i a.1 (omega arith)

-- ---- one record more: r, number i, behind the records pre, of shape s

module _ (rs pre : List Rec) (r : Rec) (i : ℕ) (T : Tables) (held : HeldIn pre T) (valid : Valid T) (w : length r.text ≡ 24) (s : Shape) (p : Passed T r s)
    (number : length pre ≡ i) (key : is_in Candidates r ≡ true → requirement_of rs (length (filter (is_in Candidates) pre)) ≡ r.a)
    (ix tl : List ℕ) (N : Filled 6336 pre ix) (C : Strung candidate_lay (requirement_of rs) (length T.candidates) ix tl) where
  -- what the record leaves
  record Left (u : Table) (iy tm : List ℕ) : Type 0 where
    filled : Filled 6336 (snoc pre r) iy
    chains : Strung candidate_lay (requirement_of rs) (length (put u r T).candidates) iy tm

  off_links : (u : Table) → s.table ≡ u → (e : ℕ) → e < 1024 → base u + key_for u r T ≡ 5312 + e → ⊥
  off_links u z e h q = omega (arith, below_chains u, key_small T valid r w s p u z)

  off_heads : (u : Table) → s.table ≡ u → (n : ℕ) → n < 256 → base u + key_for u r T ≡ 5056 + n → ⊥
  off_heads u z n h q = omega (arith, below_chains u, key_small T valid r w s p u z)

  stored_at : (u : Table) → s.table ≡ u → Filled 6336 (snoc pre r) (set ix (base u + key_for u r T) (value_for u r i))
  stored_at u z = rw (← z, ← number) (filled_set pre T held valid r w s p 6336 ix (omega arith) N)

  strung_at : (u : Table) → s.table ≡ u → Strung candidate_lay (requirement_of rs) (length T.candidates) (set ix (base u + key_for u r T) (value_for u r i)) tl
  strung_at u z = strung_set candidate_lay (requirement_of rs) (length T.candidates) ix tl (base u + key_for u r T) (value_for u r i) C (off_links u z) (off_heads u z)

  -- any table but that of candidates
  plain : (u : Table) (iy : List ℕ) → s.table ≡ u → length (put u r T).candidates ≡ length T.candidates
      → iy ≡ set ix (base u + key_for u r T) (value_for u r i) → Left u iy tl
  plain u iy z l e = rw e (record { filled = stored_at u z; chains = rw l (strung_at u z) })

  own : (u : Table) (b : ℕ) → s.table ≡ u → is_own u ≡ true → is_listed u ≡ true → base u ≡ b → set ix (b + r.a) (i + 1) ≡ set ix (base u + key_for u r T) (value_for u r i)
  own u b z o l e = rw (← e, l, own_number T valid r w s p u z o)

  candidate_left : s.table ≡ Candidates → Left Candidates (candidate_in r i (length T.candidates) ix tl) (tails_in r (length T.candidates) tl)
  unfolding candidate_in tails_in
  candidate_left z =
      let k : ℕ = length T.candidates in
      let small : k < 1024 = key_small T valid r w s p Candidates z in
      let ix1 : List ℕ = set ix (896 + k) (i + 1) in
      let S1 : Strung candidate_lay (requirement_of rs) k ix1 tl = strung_at Candidates z in
      let F1 : Filled 6336 (snoc pre r) ix1 = stored_at Candidates z in
      let mine : is_in Candidates r ≡ true = eq-eqb (table_no_of r.kind) 4 (table_known r.kind s p.known ∙ ap table_no z) in
      let count : k ≡ length (filter (is_in Candidates) pre) = ap length (held Candidates) in
      let n : r.a ≡ requirement_of rs k = sym (ap (requirement_of rs) count ∙ key mine) in
      let S2 : Strung candidate_lay (requirement_of rs) (suc k) (strung candidate_lay r.a ix1 tl k) (tailed candidate_lay r.a tl k) =
      strung_more candidate_lay candidate_fits_lem (requirement_of rs) k r.a ix1 tl S1 small n in
      let l : length (put Candidates r T).candidates ≡ suc k = length-append T.candidates (r ∷ []) ∙ add-one k in
      rw (lt-ltb k 1024 small) (record {
        filled = record {
          wide = S2.wide;
          own = λ t j h.
              strung_else candidate_lay (requirement_of rs) k r.a ix1 tl S1 small n (base t + j)
              (λ e g q. omega (arith, below_chains t)) (λ m g q. omega (arith, below_chains t)) ∙ F1.own t j h;
          free = λ a h.
              strung_else candidate_lay (requirement_of rs) k r.a ix1 tl S1 small n a (λ e g q. omega arith) (λ m g q. omega arith) ∙ F1.free a h;
        };
        chains = rw l S2;
      })

  left_by : (c : Counts) → c ≡ counts_of T → (u : Table) → s.table ≡ u → Left u (entered_at u r i c ix tl) (tails_at u r c tl)
  unfolding assign clause_in
  left_by c q =
      each_table (λ u. s.table ≡ u → Left u (entered_at u r i c ix tl) (tails_at u r c tl))
      (λ z. plain Names _ z refl (own Names 0 z refl refl refl))
      (λ z. plain Solvables _ z refl (own Solvables 128 z refl refl refl))
      (λ z. plain VersionSets _ z refl (own VersionSets 384 z refl refl refl))
      (λ z. plain Requirements _ z refl (own Requirements 640 z refl refl refl))
      (λ z. rw q (candidate_left z))
      (λ z. plain Reasons _ z refl (own Reasons 1920 z refl refl refl))
      (λ z. plain Variables _ z refl (own Variables 1984 z refl refl refl))
      (λ z. plain Assigned _ z refl (rw (lt-ltb r.b 1024 (assigned_small T valid r w s p z).1)))
      (λ z. plain Clauses _ z refl (rw (q, lt-ltb (length T.clauses) 1024 (key_small T valid r w s p Clauses z))))

-- ---- the loop

module _ (file : List ℕ) (i : ℕ) (c : Counts) (m ix tl : List ℕ) (G : Going file i c m ix tl) (h : i < length file / 32) where
  abbrev r : Rec
  r = at (records_of file) i

  abbrev T : Tables
  T = G.T

  inside : i < length (records_of file)
  inside = rw (length_cut (length file / 32) file) h

  whole : length r.text ≡ 24
  whole = all_get (λ x. length x.text ≡ 24) (records_of file) i (all_whole (length file / 32) file (omega arith)) inside

  one_more : take (suc i) (records_of file) ≡ snoc (take i (records_of file)) r
  one_more = take-suc (records_of file) i no_rec inside

  going_passed : (t : Table) (d : Counts) (u iy tm : List ℕ) (s : Shape) → Passed T r s → s.table ≡ t → d ≡ more_of t c → u ≡ noted t r m
      → iy ≡ entered t r i c ix tl → tm ≡ tails_of t r c tl → Going file (suc i) d u iy tm
  unfolding entered tails_of
  going_passed t d u iy tm s p z w v x y =
      let L = left_by (records_of file) (take i (records_of file)) r i T G.held G.valid whole s p (length-take-le i (records_of file) (omega (arith, inside)))
      (λ e. ap (λ (g : Rec). g.a) (filter_at (is_in Candidates) (records_of file) i inside e)) ix tl G.filled G.chains c G.counts t z in
      record {
        T = put t r T;
        marked = rw (v, ← z) (next_marked T m G.marked r s p);
        counts = w ∙ ap (more_of t) G.counts ∙ subst (λ (x : Table). more_of x (counts_of T) ≡ counts_of (put x r T)) z (more_is_good s.table T r p.room);
        valid = rw (← z) (valid_more T r s p whole G.valid);
        held = rw (one_more, ← z) (held_more (take i (records_of file)) T G.held G.valid r whole s p);
        filled = rw (one_more, x) L.filled;
        chains = rw (x, y) L.chains;
      }

  going_checked : (t : Table) (d : Counts) (u iy tm : List ℕ) → check_pass c m r ≡ Ok t → d ≡ more_of t c → u ≡ noted t r m
      → iy ≡ entered t r i c ix tl → tm ≡ tails_of t r c tl → Going file (suc i) d u iy tm
  going_checked t d u iy tm e w v x y = by_shape (shape_of r.kind) refl
    where
      said : check_pass (counts_of T) m r ≡ Ok t
      said = ap (λ (x : Counts). check_pass x m r) (sym G.counts) ∙ e

      by_refusal : (s : Shape) → shape_of r.kind ≡ some s → (n : ℕ) → refusal_in T s r ≡ n → step_of n s.table ≡ Ok t → Going file (suc i) d u iy tm
      by_refusal s k zero q f = going_passed t d u iy tm s (passed T r s k q) (cc) w v x y
      by_refusal s k (suc n) q f = clash (cc)

      by_shape : (o : maybe.Option Shape) → shape_of r.kind ≡ o → Going file (suc i) d u iy tm
      by_shape none k = clash (cc (sym (check_none T m G.marked r k) ∙ said))
      by_shape (some s) k = by_refusal s k (refusal_in T s r) refl (sym (check_some T m G.marked r s k) ∙ said)

  -- s is what the arm said
  module _ (s : Option Counts) (u iy tm : List ℕ) (K : Takes c m r i ix tl s u iy tm) (d : Counts) (e : s ≡ Some d) where
    pub going_next : Going file (i + 1) d u iy tm
    unfolding Takes
    going_next = let z = K.0 d e in rw add-one (going_checked z.0 d u iy tm z.1 z.2 z.3 z.4 z.5)

    pub took_next : (x : Result Counts Refused) → left_pass file i c m ≡ x → left_pass file (i + 1) d u ≡ x
    unfolding Takes
    took_next x inv =
        let z = K.0 d e in
        let a : Ok d ≡ turn_pass c m r i = turn_on c m r (Ok z.0) (sym z.1) i z.0 d refl z.2 in
        left_next file i c m x inv (Ok d) h a d u refl (marks_on c m r (Ok z.0) (sym z.1) z.0 u refl z.3)

-- ---- the end

-- all records were taken: what the reader answers, and what the index holds
abbrev pub Took : List ℕ → List ℕ → Option Counts → List ℕ → Type 0
Took file m (Some c) iy =
    (Ok c ≡ pass_from (records_of file) 0 no_counts m) × Filled 6336 (records_of file) iy
    × Hangs candidate_lay (requirement_of (records_of file)) (length (filter (is_in Candidates) (records_of file))) iy
Took file m None iy = length iy ≡ 10432

pub took_stop : (file m₀ : List ℕ) (i : ℕ) (c : Counts) (m ix tl : List ℕ) (s : Option Counts) (u iy tm : List ℕ) → Going file i c m ix tl
    → Takes c m (at (records_of file) i) i ix tl s u iy tm → s ≡ None → Took file m₀ None iy
unfolding Takes
took_stop file m₀ i c m ix tl s u iy tm G K e = rw (K.1 e) G.filled.wide

pub took_end : (file m u ix tl : List ℕ) (i : ℕ) (c : Counts) → Going file i c u ix tl → left_pass file i c u ≡ pass_from (records_of file) 0 no_counts m
    → length file / 32 ≤ i → Took file m (Some c) ix
took_end file m u ix tl i c G inv h =
    let g : length (records_of file) ≤ i = rw (length_cut (length file / 32) file) h in
    let all : take i (records_of file) ≡ records_of file = take_all i (records_of file) g in
    let n : length G.T.candidates ≡ length (filter (is_in Candidates) (records_of file)) = ap length (G.held Candidates) ∙ rw all in
    (left_end file i c u _ inv h, rw all at G.filled, rw n at (strung_hangs candidate_lay (requirement_of (records_of file)) (length G.T.candidates) ix tl G.chains))

-- by the arms: an accepted file is loaded
abbrev pub Quick : Option Counts → List ℕ → List ℕ → Type 0
Quick (Some c) file iy = (Ok c ≡ answer_of (read_of file)) × Loaded file iy
Quick None file iy = length iy ≡ 10432

pub quick_not : (file m iy : List ℕ) (r : Option Counts) → Took file m r iy → r ≡ None → Quick None file iy
quick_not file m iy r K e = rw e at K

pub quick_odd : (file ix : List ℕ) → Blank ix → Quick None file ix
quick_odd file ix b = b.wide

pub quick_wide : (file iy : List ℕ) (r : Option Counts) → Quick r file iy → r ≡ None → length iy ≡ 10432
quick_wide file iy r K e = rw e at K
