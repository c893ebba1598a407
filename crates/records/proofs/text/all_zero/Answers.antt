use Rattle.std.proofs.Common.{◌≡◌, ◌<◌, ◌∙◌, ◌*◌, ◌/◌, rules, tests, arith, true, false, ap, ℕ, eqb, drop, length}
use Rattle.std.proofs.lemmas.Iterator.{cases_from_all, YieldsList-from_slice}
use Rattle.std.specs.Simd.{first_chunks}
use Rattle.records.specs.Text.{worth, eights_all, eights_not, none_one, zero_yes, zero_no, last_eight, zeros_by}
use Rattle.records.proofs.text.all_zero.Goals as goal

pub returns-then-not-all : goal.returns-then-not-all
returns-then-not-all c =
    eights_not c.args.s.now c.all.result
    (cases_from_all _ _ _ (λ x. worth x ≡ 0) (λ x. 0 < worth x) c.all.ensures.ran
    (YieldsList-from_slice (first_chunks 8 (length c.args.s.now / 8) c.args.s.now) (cc c.as_chunks.ensures.front)) (λ x q k. search (rules, tests)) (λ x q k. search (rules, tests)))
    c.if-not-all.true

pub returns-then-s-ge8 : goal.returns-then-s-ge8
returns-then-s-ge8 c =
    let z = eights_all c.args.s.now c.all.result
    (cases_from_all _ _ _ (λ x. worth x ≡ 0) (λ x. 0 < worth x) c.all.ensures.ran
    (YieldsList-from_slice (first_chunks 8 (length c.args.s.now / 8) c.args.s.now) (cc c.as_chunks.ensures.front)) (λ x q k. search (rules, tests)) (λ x q k. search (rules, tests)))
    c.if-not-all.false in
    none_one c.eight.result ∙ last_eight c.args.s.now (8 * (length c.args.s.now / 8)) c.eight.result z (omega arith) c.if-s-ge8.true (omega arith) c.eight.ensures

pub returns : goal.returns
returns c =
    let z : length c.args.s.now / 8 * 8 ≡ 0 = omega arith in
    let e : drop (length c.args.s.now / 8 * 8) c.args.s.now ≡ c.args.s.now = ap (λ (n : ℕ). drop n c.args.s.now) z in
    zeros_by c.args.s.now c.all-2.result
    (cases_from_all _ _ _ (λ x. eqb 0 x ≡ true) (λ x. eqb 0 x ≡ false) c.all-2.ensures.ran (YieldsList-from_slice c.args.s.now (cc (c.as_chunks.ensures.back, e)))
    (λ x q k. search (rules, tests, zero_yes)) (λ x q k. search (rules, tests, zero_no)))
