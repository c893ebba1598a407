-- The laws of `load`: what an answer of the reader tells, and what is then in the index.
use Rattle.std.specs.Prelude.{◌≡◌, refl, Option, Some, None, Result, Ok, Err, List, ℕ, ◌+◌, ◌%◌, ◌≤◌, ◌<◌, length, get_or, set, replicate, eqb, ltb}
use Rattle.std.proofs.Common.{sym, ap, ◌∙◌, arith, not-suc-le-zero, length-set, ext_get_or, get_or-set_same, get_or-set_other, eqb-true, ltb-true, ltb-false}
use Rattle.std.proofs.Math.ListN.{get_or-eq_default}
use Rattle.std.proofs.lemmas.Bool.{eqb-false}
use Rattle.basis.specs.Lists.{filter}
use Rattle.basis.specs.Members.{split, clash}
use Rattle.records.specs.declared.Table.TheVariants.{Candidates, Clauses}
use Rattle.records.specs.declared.Refused.{Refused}
use Rattle.records.specs.declared.Counts.{Counts}
use Rattle.records.specs.Shapes.{Rec, records_of}
use Rattle.records.specs.Tables.{Tables, counts_of}
use Rattle.records.specs.Read.{Reading, good, bad, read_of, answer_of, tables_in, tables_of}
use Rattle.records.specs.Agree.{read_run}
use Rattle.index.specs.Steps.{is_in, read_accepted, table_is}
use Rattle.index.specs.Promise.{promise}
use Rattle.index.specs.Index.{Blank, Based, Loaded, Held, Hangs, numbered, no_places, candidates_hung, partners_hung, index_of, candidate_lay, partner_lay}
use Rattle.index.specs.Index.{candidate_key, partner_key}
use Rattle.index.specs.Hanging.{loaded, from_none, from_all, partners_hold, hangs_low}
use Rattle.index.specs.Taking.{Took, Quick}

-- an accepted file
record Taken (file : List ℕ) (c : Counts) : Type 0 where
  read : read_of file ≡ good (tables_of file)
  counts : c ≡ counts_of (tables_of file)

taken : (file : List ℕ) (r : Result Counts Refused) (c : Counts) → r ≡ answer_of (read_of file) → r ≡ Ok c → Taken file c
unfolding tables_of
taken file r c e q = go (read_of file) refl (sym q ∙ e)
  where
    go : (x : Reading) → read_of file ≡ x → Ok c ≡ answer_of x → Taken file c
    go (good T) p h =
        let z : tables_of file ≡ T = ap tables_in p in
        record { read = rw z p; counts = rw z (cc) }
    go (bad k i) p h = clash (cc)

module _ (file : List ℕ) (r : Result Counts Refused) (c : Counts) (e : r ≡ answer_of (read_of file)) (q : r ≡ Ok c) where
  pub load_short : length file ≤ 65536
  load_short = (read_accepted file (tables_of file) (taken file r c e q).read).short

  pub load_candidates : c.candidates ≤ 1024
  load_candidates =
      let t = taken file r c e q in
      rw t.counts ((promise file (tables_of file) t.read).within Candidates)

  pub load_clauses : c.clauses ≤ 1024
  load_clauses =
      let t = taken file r c e q in
      rw t.counts ((promise file (tables_of file) t.read).within Clauses)

  pub load_held : (ix iy : List ℕ) → Blank ix → iy ≡ partners_hung file c.clauses
      (candidates_hung file c.candidates (numbered (records_of file) 0 no_places ix)) → Loaded file iy
  unfolding index_of
  load_held ix iy b s =
      let t = taken file r c e q in
      rw (s, t.counts) (loaded file ix t.read b)

pub load_refused : (file ix : List ℕ) (r : Result Counts Refused) (k : Refused) → r ≡ Err k → Held r file ix ix
load_refused file ix r k q = rw q refl

-- ---- by the arms: all records were taken, and the partners are hung behind that

pub quick_held : (file f iy : List ℕ) (r : Option Counts) (c : Counts) → Took file (replicate 1024 0) r f → r ≡ Some c → length file ≤ 65536
    → length file % 32 ≡ 0 → iy ≡ partners_hung file c.clauses f → Quick (Some c) file iy
quick_held file f iy r c K e h l q =
    let k : Took file (replicate 1024 0) (Some c) f = rw e at K in
    let a : Ok c ≡ answer_of (read_of file) = read_run file (Ok c) h l k.0 in
    let t = taken file (Ok c) c a refl in
    let T : Tables = tables_of file in
    let z : T.candidates ≡ filter (is_in Candidates) (records_of file) = table_is Candidates file T (read_accepted file T t.read) in
    let b : Based file f = record { accepted = t.read; wide = k.1.wide; own = k.1.own } in
    let mp : ℕ = length T.clauses in
    let p = partners_hold file mp mp f (omega arith) ((promise file T t.read).within Clauses) b
    (from_none partner_lay (partner_key T) mp f (λ n g. k.1.free (6336 + n) (omega arith)) (λ n g. k.1.free (9408 + n) (omega arith))) in
    let H : Hangs candidate_lay (candidate_key T) (length T.candidates) f = rw z k.2 in
    rw (q, t.counts) (
      rw (← t.counts) a,
      record {
        based = p.still;
        candidates =
            hangs_low candidate_lay (candidate_key T) (length T.candidates) 6336 10432 f (partners_hung file mp f) (omega arith) (omega arith) p.inside H;
        partners = from_all partner_lay (partner_key T) mp (partners_hung file mp f) p.hangs;
      },
    )

pub quick_few : (file f : List ℕ) (r : Option Counts) (c : Counts) → Took file (replicate 1024 0) r f → r ≡ Some c → length file ≤ 65536
    → length file % 32 ≡ 0 → c.clauses ≤ 1024
quick_few file f r c K e h l =
    let k : Took file (replicate 1024 0) (Some c) f = rw e at K in
    load_clauses file (Ok c) c (read_run file (Ok c) h l k.0) refl

-- ---- where an arm says no: the index is cleared, and the file read by the check

-- the first k slots are blank
pub record Wiped (ix : List ℕ) (k : ℕ) : Type 0 where
  pub wide : length ix ≡ 10432
  pub zeros : (a : ℕ) → a < k → get_or ix a 0 ≡ 0

pub wiped_none : (ix : List ℕ) → length ix ≡ 10432 → Wiped ix 0
wiped_none ix w = record { wide = w; zeros = λ a h. absurd (not-suc-le-zero h) }

pub wiped_next : (ix iy : List ℕ) (k : ℕ) → Wiped ix k → k < 10432 → iy ≡ set ix k 0 → Wiped iy (k + 1)
wiped_next ix iy k W l q = rw q (record { wide = length-set ix k 0 ∙ W.wide; zeros = zeros })
  where
    zeros : (a : ℕ) → a < k + 1 → get_or (set ix k 0) a 0 ≡ 0
    zeros a h =
        split (eqb a k)
        (λ e. rw (eqb-true a k e) (get_or-set_same ix k 0 0 (omega (arith, W.wide))))
        (λ e. let d : a ≡ k → ⊥ = eqb-false a k e in get_or-set_other ix k a 0 0 d ∙ W.zeros a (omega (arith, d)))

pub wiped_all : (ix : List ℕ) (k : ℕ) → Wiped ix k → 10432 ≤ k → Blank ix
wiped_all ix k W h =
    record {
      wide = W.wide;
      zeros = λ a. split (ltb a k) (λ e. W.zeros a (ltb-true a k e))
          (λ e. let g : length ix ≤ a = omega (arith, W.wide, ltb-false a k e) in get_or-eq_default ix 0 {n = a} g);
    }

blank_same : (ix iy : List ℕ) → Blank ix → Blank iy → ix ≡ iy
blank_same ix iy p q = ext_get_or 0 ix iy (p.wide ∙ sym q.wide) (λ a h. p.zeros a ∙ sym (q.zeros a))

pub load_again : (file ix iy iz : List ℕ) (r : Result Counts Refused) → Blank ix → Blank iy → Held r file iy iz → Held r file ix iz
load_again file ix iy iz r p q h = rw (blank_same ix iy p q) h

module _ (file ix iy : List ℕ) (r : Option Counts) (c : Counts) (K : Quick r file iy) (e : r ≡ Some c) where
  pub quick_answer : Ok c ≡ answer_of (read_of file)
  quick_answer = let k : Quick (Some c) file iy = rw e at K in k.0

  pub quick_loaded : Held (Ok c) file ix iy
  quick_loaded = let k : Quick (Some c) file iy = rw e at K in k.1

-- ---- for callers: what the answer and the index tell them

pub load_counts : (file : List ℕ) (r : Result Counts Refused) (c : Counts) → r ≡ answer_of (read_of file) → r ≡ Ok c → c ≡ counts_of (tables_of file)
load_counts file r c e q = (taken file r c e q).counts

pub load_loaded : (file ix iy : List ℕ) (r : Result Counts Refused) (c : Counts) → Held r file ix iy → r ≡ Ok c → Loaded file iy
load_loaded file ix iy r c h q = rw q at h

-- the number of clauses that the reader counted
pub clauses_counted : (file : List ℕ) (r : Result Counts Refused) (c : Counts) → r ≡ Ok c → r ≡ answer_of (read_of file) → c.clauses ≡ length (tables_of file).clauses
clauses_counted file r c q e = ap (λ (d : Counts). d.clauses) (load_counts file r c e q)
