-- What the reader's steps say by an option, a result or a chain, beside the numbers and tests of `Settings`.
use Rattle.std.proofs.Common.{◌≡◌, refl, sym, ap, ◌∙◌, Bool, true, false, ℕ, zero, suc, List, [], ◌∷◌, arith, Option, Some, None, eqb, leb}
use Rattle.std.specs.Prelude.{MatchOption, ◌==◌, ◌&&◌}
use Rattle.std.specs.List.{list_all}
use Rattle.std.specs.Option.{unwrap_or}
use borrow.Author.Tests.{ne_eqb}
use Rattle.basis.specs.Lists.{all}
use Rattle.settings.specs.declared.Refusal.{Refusal}
use Rattle.settings.specs.declared.Refusal.TheVariants as R
use Rattle.settings.specs.Settings.{lowest, knows, zeros}
use Rattle.settings.specs.Judged.{found, refusal_number}
use Rattle.settings.specs.Laws.Ways.{known_none, known_since}

pub found_some : (v n : ℕ) → suc v ≡ n → Some (suc v) ≡ found n
found_some v n e = rw (← e) refl

pub found_none : (n : ℕ) → 0 ≡ n → None ≡ found n
found_none n e = rw (← e) refl

pub found_or : (o : Option ℕ) (n w : ℕ) → o ≡ found n → w ≡ unwrap_or o 0 → w ≡ n
found_or o zero w e q = rw e at q
found_or o (suc n) w e q = rw e at q

pub known_by : (v s c : ℕ) (o : Option ℕ) (r : Bool) → o ≡ found (lowest s c) → MatchOption o (r ≡ false) (λ l. r ≡ leb l v) → r ≡ knows v s c
known_by v s c o r e m = go (lowest s c) refl (rw e at m)
  where
    go : (n : ℕ) → n ≡ lowest s c → MatchOption (found n) (r ≡ false) (λ l. r ≡ leb l v) → r ≡ knows v s c
    go zero q m = m ∙ known_none v s c 0 q (omega arith)
    go (suc n) q m = m ∙ known_since v s c (suc n) q (omega arith)

pub refusal_some : (e : Refusal) → refusal_number e ≡ 0 → ⊥
refusal_some R.Version q = omega arith
refusal_some R.Content q = omega arith

pub zeros_all : (s : List ℕ) → list_all (λ b. b == 0) s ≡ zeros s
unfolding zeros
zeros_all [] = refl
zeros_all (zero ∷ s) = zeros_all s
zeros_all (suc n ∷ s) =
    let a : eqb (suc n) 0 ≡ false = ne_eqb (suc n) 0 (λ (q : suc n ≡ 0). omega arith) in
    let b : eqb 0 (suc n) ≡ false = ne_eqb 0 (suc n) (λ (q : 0 ≡ suc n). omega arith) in
    ap (λ (t : Bool). t && list_all (λ b. b == 0) s) a
    ∙ sym (ap (λ (t : Bool). elim t [ true ↦ all (eqb 0) s | false ↦ false ]) b)
