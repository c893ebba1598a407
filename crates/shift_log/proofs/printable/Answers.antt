use Rattle.std.specs.Prelude.{MatchBool, HoldsAt, Bool, List, [], ◌∷◌, zero, suc}
use Rattle.std.specs.List.{AllWithin}
use Rattle.std.proofs.Common.{rules, tests, arith, refl, ◌≡◌, ℕ, ◌<◌, length, get_or, true, false}
use Rattle.std.proofs.lemmas.Iterator.{cases_from_all, YieldsList-from_slice}
use Rattle.basis.specs.Lists.{all}
use Rattle.basis.specs.Members.{split}
use Rattle.records.specs.Text.{in_text, all_text}
use Rattle.shift_log.proofs.printable.Goals as goal

-- what `Iterator::all` tells of each byte, or of one of them
text_by : (s : List ℕ) (r : Bool) → MatchBool r (AllWithin (λ x. in_text x ≡ true) s 0 (length s)) ((k : ℕ) × (k < length s) × HoldsAt (λ x. in_text x ≡ false) s k)
    → r ≡ all_text s
unfolding all_text
text_by s true h = each s (λ k l. h k 0 (omega arith) l)
  where
    each : (xs : List ℕ) → ((k : ℕ) → k < length xs → in_text (get_or xs k 0) ≡ true) → true ≡ all in_text xs
    each [] f = refl
    each (x ∷ xs) f = rw (f 0 (omega arith), all) (each xs (λ k l. f (suc k) (omega arith)))
text_by s false (k, l, h) = one s k l (h 0)
  where
    one : (xs : List ℕ) (j : ℕ) → j < length xs → in_text (get_or xs j 0) ≡ false → false ≡ all in_text xs
    one [] j l e = absurd (omega arith)
    one (x ∷ xs) zero l e = rw (e, all)
    one (x ∷ xs) (suc j) l e = split (in_text x) (λ q. rw (q, all) (one xs j (omega arith) e)) (λ q. rw (q, all))

pub returns : goal.returns
returns c =
    text_by c.args.text.now c.all.result
    (cases_from_all _ _ _ (λ x. in_text x ≡ true) (λ x. in_text x ≡ false) c.all.ensures.ran (YieldsList-from_slice c.args.text.now cc)
    (λ x q k. search (rules, tests))
    (λ x q k. search (rules, tests)))
