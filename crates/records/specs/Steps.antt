-- One record more of `read_from`, by each way that it goes, and what a record tells that is not refused.
use Rattle.std.specs.Prelude.{◌≡◌, refl, Bool, true, false, cond, ◌&&◌, List, ◌∷◌, length, ltb}
use Rattle.std.proofs.Math.Path.{ap}
use Rattle.std.proofs.Common.{◌∙◌, arith}
use Rattle.std.proofs.Math.Option.{Option, none, some}
use Prim.Native.Nat.{ℕ, zero, suc}
use Rattle.basis.specs.Members.{no_both}
use Rattle.records.specs.declared.Shape.{Shape}
use Rattle.records.specs.Shapes.{Rec, limit, shape_of}
use Rattle.records.specs.Tables.{Tables, table_of, put}
use Rattle.records.specs.Read.{bad, read_from, shape_good, numbers_good, origins_good, refusal_in}

pub both_left : (b d : Bool) → (b && d) ≡ true → b ≡ true
both_left true d e = refl
both_left false d e = e

pub both_right : (b d : Bool) → (b && d) ≡ true → d ≡ true
both_right true d e = e
both_right false d e = no_both false e refl

-- what 0 tells of one test in a chain of refusals
chain_test : (b : Bool) (n k : ℕ) → cond b n (suc k) ≡ 0 → b ≡ true
chain_test true n k e = refl
chain_test false n k e = let z : suc k ≡ 0 = e in let f : ⊥ = omega arith in absurd f

chain_rest : (b : Bool) (n k : ℕ) → cond b n (suc k) ≡ 0 → n ≡ 0
chain_rest true n k e = e
chain_rest false n k e = let z : suc k ≡ 0 = e in let f : ⊥ = omega arith in absurd f

-- the record r passes at the tables T: its shape is s, and 3, 6, 4, 5 are not given
pub record Passed (T : Tables) (r : Rec) (s : Shape) : Type 0 where
  pub known : shape_of r.kind ≡ some s
  pub shaped : shape_good s r ≡ true
  pub room : ltb (length (table_of s.table T)) (limit s.table) ≡ true
  pub numbered : numbers_good T s r ≡ true
  pub allowed : origins_good T s r ≡ true

pub passed : (T : Tables) (r : Rec) (s : Shape) → shape_of r.kind ≡ some s → refusal_in T s r ≡ 0 → Passed T r s
passed T r s k e =
    let e6 = chain_rest (shape_good s r) _ 2 e in
    let e4 = chain_rest (ltb (length (table_of s.table T)) (limit s.table)) _ 5 e6 in
    let e5 = chain_rest (numbers_good T s r) _ 3 e4 in
    record {
      known = k;
      shaped = chain_test (shape_good s r) _ 2 e;
      room = chain_test (ltb (length (table_of s.table T)) (limit s.table)) _ 5 e6;
      numbered = chain_test (numbers_good T s r) _ 3 e4;
      allowed = chain_test (origins_good T s r) 0 4 e5;
    }

-- one record more of `read_from`
module _ (r : Rec) (rs : List Rec) (i : ℕ) (T : Tables) where
  pub read_unknown : shape_of r.kind ≡ none → read_from (r ∷ rs) i T ≡ bad 2 i
  unfolding read_from
  read_unknown e = rw (e, read_from)

  module _ (s : Shape) (e : shape_of r.kind ≡ some s) where
    read_by : (n : ℕ) → refusal_in T s r ≡ n → read_from (r ∷ rs) i T ≡ elim n [ zero ↦ read_from rs (suc i) (put s.table r T) | suc k ↦ bad (suc k) i ]
    unfolding read_from
    read_by n q =
        ap (λ (o : Option Shape). elim o [
          | none ↦ bad 2 i
          | some x ↦ elim (refusal_in T x r) [
            | zero ↦ read_from rs (suc i) (put x.table r T)
            | suc k ↦ bad (suc k) i
          ]
        ]) e
        ∙ ap (λ (l : ℕ). elim l [ zero ↦ read_from rs (suc i) (put s.table r T) | suc k ↦ bad (suc k) i ]) q

    pub read_next : refusal_in T s r ≡ 0 → read_from (r ∷ rs) i T ≡ read_from rs (suc i) (put s.table r T)
    read_next q = read_by 0 q

    pub read_stop : (n : ℕ) → refusal_in T s r ≡ suc n → read_from (r ∷ rs) i T ≡ bad (suc n) i
    read_stop n q = read_by (suc n) q
