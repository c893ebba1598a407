-- Where a node's version sets stand is known from them: part of why the plan is determined.
use Rattle.std.specs.Prelude.{◌≡◌, List, reverse, ℕ, ◌-◌, ◌<◌, ◌≤◌, length, get_or}
use Rattle.std.proofs.Common.{sym, ap, ◌∙◌, arith}
use Rattle.std.proofs.lemmas.List.{reverse-reverse, length-map, length-reverse}
use Rattle.basis.specs.Lists.{upto}
use Rattle.plan.specs.Fields.{set_at, sets_from}
use Rattle.planning.specs.RunsExact.{map_one, length_upto}
use Rattle.planning.specs.Sets.{sets_up, sets_up_lem}

pub sets_length : (k : List ℕ) (i e : ℕ) → length (sets_from k i e) ≡ e - i
unfolding sets_up
sets_length k i e =
    ap length (sets_up_lem k i e) ∙ length-reverse (sets_up k i e) ∙ length-map (upto (e - i) i) (set_at k) ∙ length_upto (e - i) i

-- places are known from the sets that stand there
pub sets_one : (u v : List ℕ) (c e : ℕ) → sets_from u c e ≡ sets_from v c e → (i : ℕ) → c ≤ i → i < e → get_or u i 0 ≡ get_or v i 0
unfolding sets_up set_at
sets_one u v c e q i l m =
    let y : sets_up u c e ≡ sets_up v c e =
    sym (reverse-reverse (sets_up u c e)) ∙ ap reverse (sym (sets_up_lem u c e) ∙ q ∙ sets_up_lem v c e) ∙ reverse-reverse (sets_up v c e) in
    map_one (set_at u) (set_at v) (e - c) c y i l (omega arith)
