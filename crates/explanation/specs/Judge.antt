-- A package's turn: skipped, refused by 11, or shown.
use Rattle.std.specs.Prelude.{◌≡◌, refl, Bool, true, false, not, List, [], ◌∷◌, ℕ, ◌<◌, length, get_or, set, replicate, eqb}
use Rattle.std.proofs.Common.{sym, ap, ◌∙◌, arith, get_or-set_same, get_or-set_other}
use Rattle.std.proofs.Math.Decide.{dec_lt}
use Rattle.std.proofs.Math.ListN.{length-set}
use Rattle.std.proofs.lemmas.List.{length-replicate, get_or-replicate}
use borrow.Author.Tests.{eq-eqb, ne_eqb, eqb-true, eqb-false, not-true, not-false}
use Rattle.basis.specs.Lists.{any, has}
use Rattle.basis.specs.Members.{split}
use Rattle.basis.specs.Store.{get_out}
use Rattle.machine.specs.Machine.{skipped, report, repeats}
use Rattle.plan.specs.Fields.{merged_in, opens_in, lead_in, plan_in}
use Rattle.explanation.specs.Ends.{refuses}
use Rattle.explanation.specs.Frames.{below_in, branch_in}
use Rattle.explanation.specs.declared.frames.Verdict.{Verdict}
use Rattle.explanation.specs.declared.frames.Verdict.TheVariants.{Skip, Repeat, Show}

-- the leads reported, as flags
pub record Flags (seen rep : List ℕ) : Type 0 where
  pub is : (n : ℕ) → has n rep ≡ eqb (get_or seen n 0) 1

-- at the start there are none
pub flags_fresh : Flags (replicate 128 0) []
flags_fresh = record { is = λ n. ap (λ (x : ℕ). eqb x 1) (sym (at n (dec_lt n 128))) }
  where
    at : (n : ℕ) → Dec (n < 128) → get_or (replicate {A = ℕ} 128 0) n 0 ≡ 0
    at n (yes l) = get_or-replicate {A = ℕ} 128 n 0 0 l
    at n (no l) = sym (get_out (replicate {A = ℕ} 128 0) n (let e = length-replicate {A = ℕ} 128 0 in omega arith))

pub flags_report : (seen rep : List ℕ) (l : ℕ) → l < length seen → Flags seen rep → Flags (set seen l 1) (l ∷ rep)
flags_report seen rep l h f =
    record {
      is = λ n. split (eqb n l)
          (λ q. rw (q, any, eqb-true n l q, get_or-set_same seen l 1 0 h))
          (λ q. rw (q, any, get_or-set_other seen l n 1 0 (eqb-false n l q)) (f.is n));
    }

-- the same of every kids table k
pub record Skipped (p fr : List ℕ) (d n : ℕ) (seen seen' : List ℕ) : Type 0 where
  pub same : seen' ≡ seen
  pub again : (k : List ℕ) → repeats (plan_in p k) (branch_in fr d) n ≡ refuses Skip
  pub skip : (k rep : List ℕ) → Flags seen rep → skipped (plan_in p k) rep n ≡ true

pub record Repeated (p fr : List ℕ) (d n : ℕ) (seen seen' : List ℕ) : Type 0 where
  pub same : seen' ≡ seen
  pub again : (k : List ℕ) → repeats (plan_in p k) (branch_in fr d) n ≡ refuses Repeat

pub record Showing (p fr : List ℕ) (d n : ℕ) (seen seen' : List ℕ) : Type 0 where
  pub long : length seen' ≡ length seen
  pub again : (k : List ℕ) → repeats (plan_in p k) (branch_in fr d) n ≡ refuses Show
  pub kept : (k rep : List ℕ) → Flags seen rep → skipped (plan_in p k) rep n ≡ false
  pub then : (k rep : List ℕ) → Flags seen rep → Flags seen' (report (plan_in p k) n rep)

abbrev pub Judged : List ℕ → List ℕ → ℕ → ℕ → List ℕ → List ℕ → Verdict → Type 0
Judged p fr d n seen seen' Skip = Skipped p fr d n seen seen'
Judged p fr d n seen seen' Repeat = Repeated p fr d n seen seen'
Judged p fr d n seen seen' Show = Showing p fr d n seen seen'

module _ (p fr : List ℕ) (d n : ℕ) (seen : List ℕ) where
  module _ (m : Bool) (l : ℕ) (mi : m ≡ merged_in p n) (li : l ≡ lead_in p n) (mt : m ≡ true) where
    by_flag : (k rep : List ℕ) → Flags seen rep → skipped (plan_in p k) rep n ≡ eqb (get_or seen l 0) 1
    unfolding plan_in
    by_flag k rep f = rw (← mi, mt, ← li) (f.is l)

    not_again : (k : List ℕ) → repeats (plan_in p k) (branch_in fr d) n ≡ false
    unfolding plan_in
    not_again k = rw (← mi, mt)

    pub judge_skip : get_or seen l 0 ≡ 1 → Skipped p fr d n seen seen
    judge_skip e = record { same = refl; again = not_again; skip = λ k rep f. by_flag k rep f ∙ eq-eqb (get_or seen l 0) 1 e }

    pub judge_merged : (get_or seen l 0 ≡ 1 → ⊥) → l < 128 → length seen ≡ 128 → Showing p fr d n seen (set seen l 1)
    unfolding plan_in
    judge_merged e h len =
        record {
          long = length-set seen l 1;
          again = not_again;
          kept = λ k rep f. by_flag k rep f ∙ ne_eqb (get_or seen l 0) 1 e;
          then = λ k rep f. rw (← mi, mt, ← li) (flags_report seen rep l (omega arith) f);
        }

  module _ (m o : Bool) (mi : m ≡ merged_in p n) (oi : o ≡ opens_in p n) (mf : m ≡ false) where
    plain : ((k : List ℕ) → repeats (plan_in p k) (branch_in fr d) n ≡ false) → Showing p fr d n seen seen
    unfolding plan_in
    plain a = record { long = refl; again = a; kept = λ k rep f. rw (← mi, mf); then = λ k rep f. rw (← mi, mf) f }

    pub judge_shut : not o ≡ true → Showing p fr d n seen seen
    unfolding plan_in
    judge_shut e = plain (λ k. rw (← mi, mf, ← oi, not-true o e))

    module _ (b : Bool) (bi : b ≡ below_in p (branch_in fr d) n) (oe : not o ≡ false) where
      pub judge_repeat : b ≡ true → Repeated p fr d n seen seen
      unfolding plan_in below_in
      judge_repeat e = record { same = refl; again = λ k. rw (← mi, mf, ← oi, not-false o oe) (sym bi ∙ e) }

      pub judge_plain : b ≡ false → Showing p fr d n seen seen
      unfolding plan_in below_in
      judge_plain e = plain (λ k. rw (← mi, mf, ← oi, not-false o oe) (sym bi ∙ e))

pub ruleset judges = (judge_skip, judge_merged, judge_shut, judge_repeat, judge_plain)
