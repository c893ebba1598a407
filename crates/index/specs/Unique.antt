-- What `load` leaves is determined: an answer and a file allow one index.
use Rattle.std.specs.Prelude.{◌≡◌, Result, Ok, Err, List, ℕ, ◌+◌, ◌-◌, ◌≤◌, ◌<◌, get_or, ltb}
use Rattle.std.proofs.Common.{sym, ◌∙◌, arith, ext_get_or, ltb-true, ltb-false}
use Rattle.basis.specs.Members.{split}
use Rattle.records.specs.declared.Table.{Table}
use Rattle.records.specs.declared.Table.TheVariants.{Names, Solvables, VersionSets, Requirements, Candidates, Reasons, Variables, Assigned, Clauses}
use Rattle.records.specs.declared.Counts.{Counts}
use Rattle.records.specs.declared.Refused.{Refused}
use Rattle.records.specs.Shapes.{limit}
use Rattle.index.specs.Index.{Loaded, Held, base}

module _ (file ix iy : List ℕ) (p : Loaded file ix) (q : Loaded file iy) where
  in_table : (t : Table) (s : ℕ) → base t ≤ s → s - base t < limit t → get_or ix s 0 ≡ get_or iy s 0
  in_table t s h l =
      let z : base t + (s - base t) ≡ s = omega arith in
      rw z at (p.based.own t (s - base t) l ∙ sym (q.based.own t (s - base t) l))

  in_candidates : (s : ℕ) → 5056 ≤ s → s < 6336 → get_or ix s 0 ≡ get_or iy s 0
  in_candidates s h l =
      split (ltb s 5312)
      (λ e. let k : s - 5056 < 256 = omega (arith, ltb-true s 5312 e) in let z : 5056 + (s - 5056) ≡ s = omega arith in
      rw z at (p.candidates.head (s - 5056) k ∙ sym (q.candidates.head (s - 5056) k)))
      (λ e. let m : 5312 ≤ s = ltb-false s 5312 e in let k : s - 5312 < 1024 = omega arith in let z : 5312 + (s - 5312) ≡ s = omega arith in
      rw z at (p.candidates.link (s - 5312) k ∙ sym (q.candidates.link (s - 5312) k)))

  in_partners : (s : ℕ) → 6336 ≤ s → s < 10432 → get_or ix s 0 ≡ get_or iy s 0
  in_partners s h l =
      split (ltb s 9408)
      (λ e. let k : s - 6336 < 3072 = omega (arith, ltb-true s 9408 e) in let z : 6336 + (s - 6336) ≡ s = omega arith in
      rw z at (p.partners.head (s - 6336) k ∙ sym (q.partners.head (s - 6336) k)))
      (λ e. let m : 9408 ≤ s = ltb-false s 9408 e in let k : s - 9408 < 1024 = omega arith in let z : 9408 + (s - 9408) ≡ s = omega arith in
      rw z at (p.partners.link (s - 9408) k ∙ sym (q.partners.link (s - 9408) k)))

  everywhere : (s : ℕ) → s < 10432 → get_or ix s 0 ≡ get_or iy s 0
  everywhere s h =
      split (ltb s 128) (λ e. in_table Names s (omega arith) (omega (arith, ltb-true s 128 e))) (λ e. let m0 : 128 ≤ s = ltb-false s 128 e in
      split (ltb s 384) (λ e. in_table Solvables s (omega arith) (omega (arith, ltb-true s 384 e))) (λ e. let m1 : 384 ≤ s = ltb-false s 384 e in
      split (ltb s 640) (λ e. in_table VersionSets s (omega arith) (omega (arith, ltb-true s 640 e))) (λ e. let m2 : 640 ≤ s = ltb-false s 640 e in
      split (ltb s 896) (λ e. in_table Requirements s (omega arith) (omega (arith, ltb-true s 896 e))) (λ e. let m3 : 896 ≤ s = ltb-false s 896 e in
      split (ltb s 1920) (λ e. in_table Candidates s (omega arith) (omega (arith, ltb-true s 1920 e))) (λ e. let m4 : 1920 ≤ s = ltb-false s 1920 e in
      split (ltb s 1984) (λ e. in_table Reasons s (omega arith) (omega (arith, ltb-true s 1984 e))) (λ e. let m5 : 1984 ≤ s = ltb-false s 1984 e in
      split (ltb s 3008) (λ e. in_table Variables s (omega arith) (omega (arith, ltb-true s 3008 e))) (λ e. let m6 : 3008 ≤ s = ltb-false s 3008 e in
      split (ltb s 4032) (λ e. in_table Assigned s (omega arith) (omega (arith, ltb-true s 4032 e))) (λ e. let m7 : 4032 ≤ s = ltb-false s 4032 e in
      split (ltb s 5056) (λ e. in_table Clauses s (omega arith) (omega (arith, ltb-true s 5056 e))) (λ e. let m8 : 5056 ≤ s = ltb-false s 5056 e in
      split (ltb s 6336) (λ e. in_candidates s m8 (ltb-true s 6336 e)) (λ e. in_partners s (ltb-false s 6336 e) h))))))))))

  pub loaded_unique : ix ≡ iy
  loaded_unique = ext_get_or 0 ix iy (p.based.wide ∙ sym q.based.wide) (λ i h. everywhere i (omega (arith, p.based.wide)))

pub held_unique : (r : Result Counts Refused) (file ix a b : List ℕ) → Held r file ix a → Held r file ix b → a ≡ b
held_unique (Ok c) file ix a b p q = loaded_unique file a b p q
held_unique (Err e) file ix a b p q = p ∙ sym q
