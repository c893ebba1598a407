-- A sum that is tested by `checked_add`, and the deepest file as it is read from the words.
use Rattle.std.proofs.Common.{◌≡◌, refl, sym, ap, ◌∙◌, ℕ, ◌+◌, ◌^◌, ◌<◌, ◌≤◌, List, get_or, arith, Fits, le-ltb, eqb}
use Rattle.std.specs.Int.{w64}
use Rattle.basis.specs.Members.{split}
use Rattle.std.specs.Prelude.{Option as Maybe, Some, None, Result, Ok, Err, SomeIff}
use Rattle.std.specs.Option.{ok_or}
use Rattle.season.specs.declared.Refusal.{Refusal}
use Rattle.season.specs.declared.Refusal.TheVariants as R
use Rattle.season.specs.Words.{deep_in}
use Rattle.season.specs.declared.Deep.{Deep}
use Rattle.std.proofs.Math.Option.{Option, none, some}
use Rattle.season.specs.Report.{deeper}
use Rattle.season.specs.Steps.{shown_deep, deep_of}
use Rattle.season.specs.Laws.Words.{in_none, in_some, narrow_pair}

pub sum_err : (o : Maybe ℕ) (s a : ℕ) (r : Result ℕ Refusal) (e : Refusal) → SomeIff o (s + a < 2 ^ 64) (s + a) → r ≡ ok_or o R.Wide → r ≡ Err e
    → (18446744073709551615 < s + a) × (e ≡ R.Wide)
sum_err None s a r e i q t = (omega (arith, i), let z : Err R.Wide ≡ Err e = sym q ∙ t in cc)
sum_err (Some x) s a r e i q t = absurd (let z : Ok x ≡ Err e = sym q ∙ t in cc)

pub sum_ok : (o : Maybe ℕ) (s a : ℕ) (r : Result ℕ Refusal) (x : ℕ) → SomeIff o (s + a < 2 ^ 64) (s + a) → r ≡ ok_or o R.Wide → r ≡ Ok x
    → (s + a ≤ 18446744073709551615) × (x ≡ s + a)
sum_ok None s a r x i q t = absurd (let z : Err R.Wide ≡ Ok x = sym q ∙ t in cc)
sum_ok (Some y) s a r x i q t = (omega (arith, i.0), let z : Ok y ≡ Ok x = sym q ∙ t in let w : y ≡ s + a = i.1 in cc)

pub at_none : (ws : List ℕ) → get_or ws 26 0 ≡ 0 → None ≡ shown_deep (deep_in ws)
at_none ws e = sym (ap shown_deep (in_none ws e))

pub at_some : (ws : List ℕ) → (get_or ws 26 0 ≡ 0 → ⊥) → Some (record { depth = get_or ws 24 0; first = get_or ws 25 0 }) ≡ shown_deep (deep_in ws)
at_some ws e = sym (ap shown_deep (in_some ws e))

-- ---- the deepest of two, where every word fits

pub shown_fits : (ws : List ℕ) → ((i : ℕ) → Fits w64 (get_or ws i 0)) → Ok (shown_deep (deep_in ws)) ≡ deep_of (deep_in ws)
unfolding deep_in deep_of
shown_fits ws h =
    split (eqb (get_or ws 26 0) 0)
    (λ t. let z : deep_in ws ≡ none = rw (t, deep_in) in rw z refl)
    (λ t. let z : deep_in ws ≡ some (get_or ws 24 0, get_or ws 25 0) = rw (t, deep_in) in
    rw z (narrow_pair (get_or ws 24 0) (get_or ws 25 0) (omega (arith, (h 24).fits)) (omega (arith, (h 25).fits))))

pub deep_kept : (n : ℕ) (o p : Option (ℕ × ℕ)) (a b : Maybe Deep) → Ok (shown_deep o) ≡ deep_of o → a ≡ shown_deep o → b ≡ shown_deep p → b ≡ None
    → Ok a ≡ deep_of (deeper n o p)
deep_kept n none none a b h q r e = rw q h
deep_kept n (some x) none a b h q r e = rw q h
deep_kept n o (some y) a b h q r e = absurd (let z : None ≡ shown_deep (some y) = sym e ∙ r in cc)

pub deep_less : (n : ℕ) (o p : Option (ℕ × ℕ)) (a b : Maybe Deep) (c d : Deep) → Ok (shown_deep o) ≡ deep_of o → a ≡ shown_deep o → b ≡ shown_deep p
    → a ≡ Some c → b ≡ Some d → d.depth ≤ c.depth → Ok (Some c) ≡ deep_of (deeper n o p)
deep_less n none p a b c d h q s e f l = absurd (let z : Some c ≡ shown_deep none = sym e ∙ q in cc)
deep_less n (some x) none a b c d h q s e f l = absurd (let z : Some d ≡ shown_deep none = sym f ∙ s in cc)
deep_less n (some x) (some y) a b c d h q s e f l =
    let z : Some c ≡ shown_deep (some x) = sym e ∙ q in
    let v : c ≡ record { depth = x.0; first = x.1 } = cc in
    let k : Some d ≡ shown_deep (some y) = sym f ∙ s in
    let w : d ≡ record { depth = y.0; first = y.1 } = cc in
    let m : y.0 ≤ x.0 = rw (v, w) at l in
    ap Ok z ∙ h ∙ ap deep_of (sym (rw (le-ltb x.0 y.0 m, deeper) refl))
