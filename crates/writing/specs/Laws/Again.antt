-- Tables that are sound are read in that order: every reference goes to a table whose rank is lower.
use Rattle.std.specs.Prelude.{◌≡◌, refl, Bool, true, false, List, [], ◌∷◌, ◌++◌, map, ℕ, zero, suc, ◌+◌, ◌≤◌, ◌<◌, length, eqb, ltb}
use Rattle.std.proofs.Common.{sym, ap, ◌∙◌, subst, inl, inr, append-nil, append_assoc, arith, length-append, eqb-true, eq-eqb, ne_eqb, lt-ltb, ltb-true, ltb-false}
use Rattle.std.proofs.Math.Option.{Option, none, some}
use Rattle.std.proofs.Math.Seq.{get_or-append_seam}
use Rattle.std.proofs.lemmas.Bool.{eqb-false}
use Rattle.basis.specs.Lists.{snoc, any}
use Rattle.basis.specs.Members.{split, no_both, In, Distinct}
use Rattle.records.specs.declared.Table.{Table}
use Rattle.records.specs.declared.Table.TheVariants.{Names, Solvables, VersionSets, Requirements, Candidates, Reasons, Variables, Assigned, Clauses}
use Rattle.records.specs.declared.Slot.{Slot}
use Rattle.records.specs.declared.Slot.TheVariants as S
use Rattle.records.specs.declared.Shape.{Shape}
use Rattle.records.specs.Shapes.{Rec, limit, shape_of}
use Rattle.records.specs.Tables.{Tables, no_tables, table_of, put, at, no_rec}
use Rattle.records.specs.Read.{shape_good, number_good, origin_good}
use Rattle.records.specs.Steps.{Passed}
use Rattle.index.specs.Steps.{Steps, is_in, table_known, table_put, its_table, each_table, each_kind}
use Rattle.index.specs.Promise.{Right, Sound}
use Rattle.writing.specs.Laws.Segments.{same_tables}

abbrev pub rank_t : Table → ℕ
rank_t Names = 1
rank_t Solvables = 2
rank_t VersionSets = 3
rank_t Requirements = 4
rank_t Candidates = 5
rank_t Reasons = 6
rank_t Variables = 7
rank_t Assigned = 9
rank_t Clauses = 8

abbrev table_by : ℕ → Table
table_by zero = Names
table_by (suc zero) = Names
table_by (suc (suc zero)) = Solvables
table_by (suc (suc (suc zero))) = VersionSets
table_by (suc (suc (suc (suc zero)))) = Requirements
table_by (suc (suc (suc (suc (suc zero))))) = Candidates
table_by (suc (suc (suc (suc (suc (suc zero)))))) = Reasons
table_by (suc (suc (suc (suc (suc (suc (suc zero))))))) = Variables
table_by (suc (suc (suc (suc (suc (suc (suc (suc zero)))))))) = Clauses
table_by (suc (suc (suc (suc (suc (suc (suc (suc (suc n))))))))) = Assigned

by_rank : (t : Table) → table_by (rank_t t) ≡ t
by_rank = each_table (λ t. table_by (rank_t t) ≡ t) refl refl refl refl refl refl refl refl refl

pub same_rank : (t u : Table) → rank_t t ≡ rank_t u → t ≡ u
same_rank t u e = sym (by_rank t) ∙ (ap table_by e ∙ by_rank u)

rank_top : (t : Table) → rank_t t ≤ 9
rank_top =
    each_table (λ t. rank_t t ≤ 9) (omega arith) (omega arith) (omega arith) (omega arith) (omega arith) (omega arith) (omega arith) (omega arith) (omega arith)

-- ---- references go to lower ranks

abbrev lower_slot : Table → Slot → Bool
lower_slot t S.Unused = true
lower_slot t S.Own = true
lower_slot t (S.Names u) = ltb (rank_t u) (rank_t t)
lower_slot t (S.Variable o) = ltb 7 (rank_t t)
lower_slot t S.Origin = true
lower_slot t S.Named = ltb 2 (rank_t t)
lower_slot t S.Unassigned = ltb 7 (rank_t t)

abbrev is_unassigned : Slot → Bool
is_unassigned S.Unused = false
is_unassigned S.Own = false
is_unassigned (S.Names u) = false
is_unassigned (S.Variable o) = false
is_unassigned S.Origin = false
is_unassigned S.Named = false
is_unassigned S.Unassigned = true

record Lower (s : Shape) : Type 0 where
  pub low_a : lower_slot s.table s.a ≡ true
  pub low_b : lower_slot s.table s.b ≡ true
  pub low_c : lower_slot s.table s.c ≡ true
  pub only_b : is_unassigned s.b ≡ false
  pub only_c : is_unassigned s.c ≡ false

abbrev LowerRow : Option Shape → Type 0
LowerRow none = Unit {0}
LowerRow (some s) = Lower s

lower_row : (k : ℕ) → LowerRow (shape_of k)
lower_row =
    each_kind LowerRow (
      record { low_a = refl; low_b = refl; low_c = refl; only_b = refl; only_c = refl },
      (
        record { low_a = refl; low_b = refl; low_c = refl; only_b = refl; only_c = refl },
        (
          record { low_a = refl; low_b = refl; low_c = refl; only_b = refl; only_c = refl },
          (
            record { low_a = refl; low_b = refl; low_c = refl; only_b = refl; only_c = refl },
            (
              record { low_a = refl; low_b = refl; low_c = refl; only_b = refl; only_c = refl },
              (
                record { low_a = refl; low_b = refl; low_c = refl; only_b = refl; only_c = refl },
                (
                  record { low_a = refl; low_b = refl; low_c = refl; only_b = refl; only_c = refl },
                  (
                    record { low_a = refl; low_b = refl; low_c = refl; only_b = refl; only_c = refl },
                    (
                      record { low_a = refl; low_b = refl; low_c = refl; only_b = refl; only_c = refl },
                      (
                        record { low_a = refl; low_b = refl; low_c = refl; only_b = refl; only_c = refl },
                        (
                          record { low_a = refl; low_b = refl; low_c = refl; only_b = refl; only_c = refl },
                          (
                            record { low_a = refl; low_b = refl; low_c = refl; only_b = refl; only_c = refl },
                            (
                              record { low_a = refl; low_b = refl; low_c = refl; only_b = refl; only_c = refl },
                              (
                                record { low_a = refl; low_b = refl; low_c = refl; only_b = refl; only_c = refl },
                                (
                                  record { low_a = refl; low_b = refl; low_c = refl; only_b = refl; only_c = refl },
                                  (
                                    record { low_a = refl; low_b = refl; low_c = refl; only_b = refl; only_c = refl },
                                    (
                                      record { low_a = refl; low_b = refl; low_c = refl; only_b = refl; only_c = refl },
                                      (record { low_a = refl; low_b = refl; low_c = refl; only_b = refl; only_c = refl }, tt),
                                    ),
                                  ),
                                ),
                              ),
                            ),
                          ),
                        ),
                      ),
                    ),
                  ),
                ),
              ),
            ),
          ),
        ),
      ),
    )
    tt

lower_known : (k : ℕ) (s : Shape) → shape_of k ≡ some s → Lower s
lower_known k s e = subst LowerRow e (lower_row k)

-- ---- the tables on the way

-- table t holds `done`, those of lower rank are whole, those of higher rank empty
pub record On (F : Tables) (t : Table) (done : List Rec) (T : Tables) : Type 0 where
  pub here : table_of t T ≡ done
  pub lower : (u : Table) → rank_t u < rank_t t → table_of u T ≡ table_of u F
  pub upper : (u : Table) → rank_t t < rank_t u → table_of u T ≡ []

-- what the tables F have to be: every record sound in them, in good shape, within the limits, no two records 8 for a variable
pub record Fit (F : Tables) (t : Table) (i : ℕ) (r : Rec) : Type 0 where
  pub sound : Sound F t i r
  pub shaped : shape_good sound.shape r ≡ true

pub record Fair (F : Tables) : Type 0 where
  pub within : (t : Table) → length (table_of t F) ≤ limit t
  pub fits : (t : Table) (i : ℕ) → i < length (table_of t F) → Fit F t i (at (table_of t F) i)
  pub once : Distinct (map (λ r. r.a) F.assigned)

module _ (F T : Tables) (t : Table) (done : List Rec) (o : On F t done T) (i : ℕ) (n : i ≡ length done) (r : Rec) where
  number_ok : (s : Slot) (x : ℕ) → lower_slot t s ≡ true → Right F i s r x → (is_unassigned s ≡ true → any (λ g. eqb g.a x) T.assigned ≡ false)
      → number_good T t s r x ≡ true
  number_ok S.Unused x l h f = refl
  number_ok S.Own x l h f = eq-eqb x (length (table_of t T)) (h ∙ (n ∙ sym (ap length o.here)))
  number_ok (S.Names u) x l h f = rw (o.lower u (ltb-true _ _ l)) (lt-ltb x (length (table_of u F)) h)
  number_ok (S.Variable w) x l h f = rw (o.lower Variables (ltb-true _ _ l)) (lt-ltb x (length F.variables) h.0)
  number_ok S.Origin x l h f = refl
  number_ok S.Named x l h f =
      let two : 2 < rank_t t = ltb-true _ _ l in
      split (eqb r.b 1)
      (λ q. rw (q, o.lower Solvables two) (lt-ltb x (length F.solvables) (h.0 (eqb-true _ _ q))))
      (λ q. split (eqb r.b 2) (λ z. rw (q, z, o.lower Names (omega arith)) (lt-ltb x (length F.names) (h.1 (eqb-true _ _ z)))) (λ z. rw (q, z)))
  number_ok S.Unassigned x l h f =
      let a : ltb x (length T.variables) ≡ true = rw (o.lower Variables (ltb-true _ _ l)) (lt-ltb x (length F.variables) h) in
      rw (a, f refl)

  origin_ok : (s : Slot) (x : ℕ) → lower_slot t s ≡ true → Right F i s r x → origin_good T s x ≡ true
  origin_ok S.Unused x l h = refl
  origin_ok S.Own x l h = refl
  origin_ok (S.Names u) x l h = refl
  origin_ok (S.Variable w) x l h = rw (o.lower Variables (ltb-true _ _ l)) h.1
  origin_ok S.Origin x l h = refl
  origin_ok S.Named x l h = refl
  origin_ok S.Unassigned x l h = refl

in_mid : (done rest : List Rec) (r : Rec) → In r.a (map (λ g. g.a) (done ++ (r ∷ rest)))
in_mid [] rest r = inl refl
in_mid (g ∷ done) rest r = inr (in_mid done rest r)

unseen : (done rest : List Rec) (r : Rec) → Distinct (map (λ g. g.a) (done ++ (r ∷ rest))) → any (λ g. eqb g.a r.a) done ≡ false
unseen [] rest r d = refl
unseen (g ∷ done) rest r d =
    let z : eqb g.a r.a ≡ false = ne_eqb g.a r.a (λ e. d.0
    (subst (λ (x : ℕ). In x (map (λ (y : Rec). y.a) (done ++ (r ∷ rest)))) (sym e) (in_mid done rest r))) in
    rw (z, any) (unseen done rest r d.1)

module _ (F : Tables) (w : Fair F) where
  fresh : (t : Table) (done rest : List Rec) (r : Rec) (T : Tables) → On F t done T → table_of t F ≡ done ++ (r ∷ rest)
      → any (λ g. eqb g.a r.a) T.assigned ≡ false
  fresh t done rest r T o e =
      split (ltb (rank_t t) 9)
      (λ q. rw (o.upper Assigned (ltb-true _ _ q)))
      (λ q. let h : 9 ≤ rank_t t = ltb-false _ _ q in
      let k : rank_t t ≡ 9 = omega (arith, rank_top t) in
      let z : t ≡ Assigned = same_rank t Assigned k in
      let a : T.assigned ≡ done = subst (λ (u : Table). table_of u T ≡ done) z o.here in
      let b : F.assigned ≡ done ++ (r ∷ rest) = subst (λ (u : Table). table_of u F ≡ done ++ (r ∷ rest)) z e in
      rw a (unseen done rest r (subst (λ (l : List Rec). Distinct (map (λ (g : Rec). g.a) l)) b w.once)))

  pass_at : (s : Shape) (done rest : List Rec) (r : Rec) (T : Tables) → On F s.table done T → table_of s.table F ≡ done ++ (r ∷ rest)
      → shape_of r.kind ≡ some s → shape_good s r ≡ true
      → Right F (length done) s.a r r.a → Right F (length done) s.b r r.b → Right F (length done) s.c r r.c → Passed T r s
  pass_at s done rest r T o e k g ra rb rc =
      let l = lower_known r.kind s k in
      let m : length (table_of s.table F) ≡ length done + suc (length rest) = ap length e ∙ length-append done (r ∷ rest) in
      let q : length (table_of s.table T) ≡ length done = ap length o.here in
      let na = number_ok F T s.table done o (length done) refl r s.a r.a l.low_a ra (λ z. fresh s.table done rest r T o e) in
      let nb = number_ok F T s.table done o (length done) refl r s.b r.b l.low_b rb (λ z. no_both (is_unassigned s.b) z l.only_b) in
      let nc = number_ok F T s.table done o (length done) refl r s.c r.c l.low_c rc (λ z. no_both (is_unassigned s.c) z l.only_c) in
      let oa = origin_ok F T s.table done o (length done) refl r s.a r.a l.low_a ra in
      let ob = origin_ok F T s.table done o (length done) refl r s.b r.b l.low_b rb in
      let oc = origin_ok F T s.table done o (length done) refl r s.c r.c l.low_c rc in
      record {
        known = k;
        shaped = g;
        room = lt-ltb (length (table_of s.table T)) (limit s.table) (omega (arith, w.within s.table));
        numbered = rw (na, nb, nc);
        allowed = rw (oa, ob, oc);
      }

  -- one record more in table t
  on_more : (s : Shape) (done : List Rec) (r : Rec) (T : Tables) → On F s.table done T → shape_of r.kind ≡ some s
      → On F s.table (snoc done r) (put s.table r T)
  on_more s done r T o k =
      record {
        here = table_put s.table r s T k ∙ rw (mine, o.here);
        lower =
            λ u h. table_put u r s T k ∙ rw (other u (λ e. (let z : rank_t s.table ≡ rank_t u = ap rank_t e in let f : ⊥ = omega arith in f))) (o.lower u h);
        upper =
            λ u h. table_put u r s T k ∙ rw (other u (λ e. (let z : rank_t s.table ≡ rank_t u = ap rank_t e in let f : ⊥ = omega arith in f))) (o.upper u h);
      }
    where
      mine : is_in s.table r ≡ true
      mine = eq-eqb _ _ (table_known r.kind s k)

      other : (u : Table) → (s.table ≡ u → ⊥) → is_in u r ≡ false
      other u h = split (is_in u r) (λ q. absurd (h (its_table u r s k q))) (λ q. q)

  segment_read : (t : Table) (rest done : List Rec) (T : Tables) → table_of t F ≡ done ++ rest → On F t done T → (more : List Rec) (U : Tables)
      → ((W : Tables) → On F t (table_of t F) W → Steps W more U) → Steps T (rest ++ more) U
  segment_read t [] done T e o more U k = k T (subst (λ (l : List Rec). On F t l T) (sym (e ∙ append-nil done)) o)
  segment_read t (r ∷ rest) done T e o more U k =
      let m : length (table_of t F) ≡ length done + suc (length rest) = ap length e ∙ length-append done (r ∷ rest) in
      let a : at (table_of t F) (length done) ≡ r = ap (λ (l : List Rec). at l (length done)) e ∙ get_or-append_seam done r rest no_rec in
      let f : Fit F t (length done) r = subst (λ (x : Rec). Fit F t (length done) x) a (w.fits t (length done) (omega arith)) in
      let s = f.sound.shape in
      let z : s.table ≡ t = f.sound.mine in
      let p = pass_at s done rest r T (subst (λ (u : Table). On F u done T) (sym z) o) (subst (λ (u : Table). table_of u F ≡ done ++ (r ∷ rest)) (sym z) e)
      f.sound.known f.shaped f.sound.right_a f.sound.right_b f.sound.right_c in
      let n : On F t (snoc done r) (put s.table r T) = subst (λ (u : Table). On F u (snoc done r) (put s.table r T)) z
      (on_more s done r T (subst (λ (u : Table). On F u done T) (sym z) o) f.sound.known) in
      (s, p, segment_read t rest (snoc done r) (put s.table r T) (e ∙ sym (append_assoc done (r ∷ []) rest)) n more U k)

  next : (t u : Table) (W : Tables) → rank_t u ≡ suc (rank_t t) → On F t (table_of t F) W → On F u [] W
  next t u W e o =
      record {
        here = o.upper u (omega arith);
        lower =
            λ x h. split (eqb (rank_t x) (rank_t t)) (λ q. subst (λ (y : Table). table_of y W ≡ table_of y F) (same_rank t x (sym (eqb-true _ _ q))) o.here)
            (λ q. o.lower x (let k : rank_t x ≡ rank_t t → ⊥ = eqb-false _ _ q in omega arith));
        upper = λ x h. o.upper x (omega arith);
      }

  first : On F Names [] no_tables
  first = record { here = refl; lower = λ u h. absurd (low u h); upper = λ u h. empty u }
    where
      low : (u : Table) → rank_t u < 1 → ⊥
      low =
          each_table (λ u. rank_t u < 1 → ⊥) (λ h. omega arith) (λ h. omega arith) (λ h. omega arith) (λ h. omega arith) (λ h. omega arith) (λ h. omega arith)
          (λ h. omega arith) (λ h. omega arith) (λ h. omega arith)

      empty : (u : Table) → table_of u no_tables ≡ []
      empty = each_table (λ u. table_of u no_tables ≡ []) refl refl refl refl refl refl refl refl refl

  last : (W : Tables) → On F Assigned F.assigned W → W ≡ F
  last W o =
      same_tables W F (each_table (λ u. table_of u W ≡ table_of u F) (o.lower Names (omega arith)) (o.lower Solvables (omega arith))
      (o.lower VersionSets (omega arith)) (o.lower Requirements (omega arith)) (o.lower Candidates (omega arith)) (o.lower Reasons (omega arith))
      (o.lower Variables (omega arith)) o.here (o.lower Clauses (omega arith)))

  -- the tables, rank by rank, are read, and give the tables
  pub fair_read : Steps no_tables (F.names ++ (F.solvables ++ (F.version_sets
      ++ (F.requirements ++ (F.candidates ++ (F.reasons ++ (F.variables ++ (F.clauses ++ (F.assigned ++ []))))))))) F
  fair_read =
      segment_read Names F.names [] no_tables refl first _ F (λ A a.
      segment_read Solvables F.solvables [] A refl (next Names Solvables A refl a) _ F (λ B b.
      segment_read VersionSets F.version_sets [] B refl (next Solvables VersionSets B refl b) _ F (λ C c.
      segment_read Requirements F.requirements [] C refl (next VersionSets Requirements C refl c) _ F (λ D d.
      segment_read Candidates F.candidates [] D refl (next Requirements Candidates D refl d) _ F (λ E e.
      segment_read Reasons F.reasons [] E refl (next Candidates Reasons E refl e) _ F (λ G g.
      segment_read Variables F.variables [] G refl (next Reasons Variables G refl g) _ F (λ H h.
      segment_read Clauses F.clauses [] H refl (next Variables Clauses H refl h) _ F (λ I i.
      segment_read Assigned F.assigned [] I refl (next Clauses Assigned I refl i) [] F (λ J j. last J j)))))))))
