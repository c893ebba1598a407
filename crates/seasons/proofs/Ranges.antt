-- How many numbers of a range pass, and the number of a refusal of a joining.
use Rattle.std.proofs.Common.{◌≡◌, refl, sym, ap, ◌∙◌, Bool, ℕ, zero, suc, ◌+◌, ◌-◌, List, ◌∷◌, length, cond, add-one, arith}
use Rattle.std.specs.Prelude.{count_by}
use Rattle.std.specs.Prelude.{Result, Ok, Err}
use Rattle.std.specs.List.{range_with_len}
use Rattle.std.proofs.lemmas.List.Recursion.{is_count_by}
use Rattle.basis.specs.Lists.{filter, upto}
use Rattle.basis.specs.Members.{split}
use Rattle.season.specs.declared.Refusal.{Refusal}
use Rattle.season.specs.declared.Refusal.TheVariants as R
use Rattle.season.specs.declared.Own.{Own}
use Rattle.season.specs.Steps.{refusal_number, number_said}
use Rattle.season.specs.Words.{join_number, join_words, share_words}
use Rattle.calls.specs.declared.Answer.{Answer}
use Rattle.calls.specs.Answers.{refusal_of}
use Rattle.seasons.specs.declared.tally.Counts.{Counts}
use Rattle.seasons.specs.Season.{own_of, Enters}
use Rattle.seasons.specs.Laws.SeasonWays.{enters_not}
use Rattle.seasons.specs.Tally.{passing}

uptos : (n i : ℕ) → range_with_len i n ≡ upto n i
uptos zero i = refl
uptos (suc n) i = ap (λ (l : List ℕ). i ∷ l) (rw add-one (uptos n (suc i)))

step : (p : ℕ → Bool) (x : ℕ) (xs : List ℕ) → length (filter p (x ∷ xs)) ≡ cond (p x) (1 + length (filter p xs)) (length (filter p xs))
step p x xs = split (p x) (λ t. rw (t, filter) (omega arith)) (λ t. rw (t, filter) refl)

passes : (p : ℕ → Bool) (n i : ℕ) → count_by p (range_with_len i n) ≡ length (filter p (upto n i))
passes p n i =
    sym (is_count_by (λ (xs : List ℕ). length (filter p xs)) p refl (step p) (range_with_len i n)) ∙ ap (λ (xs : List ℕ). length (filter p xs)) (uptos n i)

pub passed : (p : ℕ → Bool) (n c : ℕ) → c ≡ count_by p (range_with_len 0 n) → c ≡ passing p n 0
unfolding passing
passed p n c e = let z : n - 0 ≡ n = omega arith in rw z (e ∙ passes p n 0)

pub refusal_some : (e : Refusal) → refusal_number e ≡ 0 → ⊥
refusal_some R.Short q = omega arith
refusal_some R.Wide q = omega arith

-- a refused joining is told
pub entered_not : (ws vs : List ℕ) (a : Answer) (c : Counts) (o : Own) (j : Result (Unit {0}) Refusal) (e : Refusal) (r : Answer) → o ≡ own_of a c
    → number_said j ≡ join_number ws (share_words o) → vs ≡ join_words ws (share_words o) → j ≡ Err e → r ≡ refusal_of (refusal_number e) 0
    → Enters ws a c vs r
entered_not ws vs a c o j e r q h g t i =
    let n : number_said j ≡ refusal_number e = ap number_said t in
    enters_not ws vs a c o (number_said j) r q h g (λ (z : number_said j ≡ 0). refusal_some e (sym n ∙ z)) (i ∙ ap (λ x. refusal_of x 0) (sym n))
