-- The table of groups, from each node's lead: from the last node down, `last` holds the lowest member so far of each lead.
use Rattle.std.specs.Prelude.{◌≡◌, refl, Bool, true, false, ◌&&◌, not, List, [], ◌∷◌, length, set, replicate, eqb, ltb}
use Rattle.std.proofs.Math.Path.{sym, ap}
use Rattle.std.proofs.Common.{◌∙◌, subst, inl, inr}
use Prim.Native.Nat.{ℕ, zero, suc, ◌+◌, ◌-◌, ◌*◌, ◌/◌, ◌%◌, ◌<◌, ◌≤◌}
use native.Mathlib.Omega.{arith}
use Rattle.std.proofs.Math.ListN.{get_or, length-set}
use Rattle.std.proofs.lemmas.List.{length-replicate, get_or-replicate}
use Rattle.std.proofs.Math.Seq.{get_or-set_same, get_or-set_other}
use borrow.Author.Tests.{eqb-true, eqb-false, eq-eqb, ne_eqb, lt-ltb}
use Rattle.basis.specs.Members.{In, split, clash}
use Rattle.basis.specs.Chains.{oldest, oldest_hit, oldest_miss, oldest_past, ups, ups_hit, ups_miss, ups_past}
use Rattle.basis.specs.Walks.{in_ups}
use Rattle.planning.specs.Kids.{lead_at, merged_at, next_at}
use Rattle.planning.specs.Along.{Only, only_none, only_put, only_then}

-- merged: another member follows, or it is not the first
abbrev pub merged_by : ℕ → ℕ → ℕ → Bool
merged_by l i x = not (eqb x 0 && eqb l i)

pub record GroupWord (w l i x : ℕ) : Type 0 where
  pub lead_is : w % 128 ≡ l
  pub merged_is : eqb (w / 128 % 2) 1 ≡ merged_by l i x
  pub next_is : w / 256 ≡ x

pub word_alone : (l i x : ℕ) → l < 128 → x ≡ 0 → l ≡ i → GroupWord l l i x
word_alone l i x h e q =
    let z : l / 128 % 2 ≡ 0 = omega arith in
    record { lead_is = omega arith; merged_is = rw (z, eq-eqb x 0 e, eq-eqb l i q); next_is = omega arith }

word_many : (l i x : ℕ) → l < 128 → merged_by l i x ≡ true → GroupWord (l + 128 + 256 * x) l i x
word_many l i x h e =
    let q : (l + 128 + 256 * x) / 128 ≡ 1 + 2 * x = omega arith in
    let z : (l + 128 + 256 * x) / 128 % 2 ≡ 1 = rw q (omega arith) in
    record { lead_is = omega arith; merged_is = rw (z, e); next_is = omega arith }

pub word_next : (l i x : ℕ) → l < 128 → (x ≡ 0 → ⊥) → GroupWord (l + 128 + 256 * x) l i x
word_next l i x h d = word_many l i x h (rw (ne_eqb x 0 d))

pub word_later : (l i x : ℕ) → l < 128 → (l ≡ i → ⊥) → GroupWord (l + 128 + 256 * x) l i x
word_later l i x h d = word_many l i x h (split (eqb x 0) (λ t. rw (t, ne_eqb l i d)) (λ t. rw t))

pub record Grouped (ld gr : List ℕ) (m n : ℕ) : Type 0 where
  pub lead : (i : ℕ) → n ≤ i → i < m → lead_at gr i ≡ get_or ld i 0
  pub next : (i : ℕ) → n ≤ i → i < m → next_at gr i ≡ oldest (λ j. get_or ld j 0) (suc i) m (get_or ld i 0)
  pub merged : (i : ℕ) → n ≤ i → i < m → merged_at gr i ≡ merged_by (get_or ld i 0) i (oldest (λ j. get_or ld j 0) (suc i) m (get_or ld i 0))

-- leads are nodes
pub record LeadsOk (ld : List ℕ) (m : ℕ) : Type 0 where
  pub each : (i : ℕ) → i < m → get_or ld i 0 < 128
  pub few : m ≤ 128
  pub long : length ld ≡ 128

-- the words of the first m nodes, and nothing else of table t
pub record GroupsDone (ld t gr : List ℕ) (m : ℕ) : Type 0 where
  pub done : Grouped ld gr m 0
  pub only : Only t gr 0 m

pub record Grouping (ld t gr last : List ℕ) (m n : ℕ) : Type 0 where
  pub given : LeadsOk ld m
  pub done : Grouped ld gr m n
  pub only : Only t gr n m
  pub lowest : (l : ℕ) → l < 128 → get_or last l 0 ≡ oldest (λ j. get_or ld j 0) n m l
  pub under : n ≤ m
  pub gr_long : length gr ≡ 128
  pub last_long : length last ≡ 128

pub group_start : (ld gr last : List ℕ) (m : ℕ) → LeadsOk ld m → length gr ≡ 128 → length last ≡ 128 → ((l : ℕ) → l < 128 → get_or last l 0 ≡ 0)
    → Grouping ld gr gr last m m
group_start ld gr last m o a b f =
    record {
      given = o;
      done = record { lead = λ i h l. absurd (never i h l); next = λ i h l. absurd (never i h l); merged = λ i h l. absurd (never i h l) };
      only = only_none gr m;
      lowest = λ l h. f l h ∙ sym (oldest_past (λ j. get_or ld j 0) m m l (omega arith));
      under = omega arith;
      gr_long = a;
      last_long = b;
    }
  where
    never : (i : ℕ) → m ≤ i → i < m → ⊥
    never i h l = omega arith

module _ (ld t gr last : List ℕ) (m n : ℕ) (z : Grouping ld t gr last m n) (h : 0 < n) where
  pub group_index : n - 1 < 128
  group_index = omega (arith, z.under, z.given.few)

  module _ (a l : ℕ) (av : a ≡ get_or ld (n - 1) 0) (lv : l ≡ a) where
    is : l ≡ get_or ld (n - 1) 0
    is = lv ∙ av

    pub group_lead : l < 128
    group_lead = rw is (z.given.each (n - 1) (omega (arith, z.under)))

    pub group_last : (b x : ℕ) → b ≡ get_or last l 0 → x ≡ b → x ≤ 128
    group_last b x q e =
        let k = z.lowest l group_lead in
        let d = oldest_most (λ j. get_or ld j 0) (m - n) n m l refl in
        omega (arith, z.given.few)
      where
        oldest_most : (key : ℕ → ℕ) (c e m l : ℕ) → m - e ≡ c → oldest key e m l ≤ m
        oldest_most key zero e m l q = rw (oldest_past key e m l (omega arith)) (omega arith)
        oldest_most key (suc c) e m l q =
            split (eqb (key e) l)
            (λ t. rw (oldest_hit key e m l (omega arith) t) (omega arith))
            (λ t. rw (oldest_miss key e m l (omega arith) t) (oldest_most key c (suc e) m l (omega arith)))

    pub group_step : (b x w : ℕ) → b ≡ get_or last l 0 → x ≡ b → GroupWord w l (n - 1) x → Grouping ld t (set gr (n - 1) w) (set last l n) m (n - 1)
    unfolding lead_at merged_at next_at
    group_step b x w bq xb y =
        let q : x ≡ get_or last l 0 = xb ∙ bq in
        let s : suc (n - 1) ≡ n = omega arith in
        let i : n - 1 + 1 ≡ n = omega arith in
        let xx : x ≡ oldest (λ j. get_or ld j 0) (suc (n - 1)) m (get_or ld (n - 1) 0) = q ∙ z.lowest l group_lead
        ∙ ap (λ (a : ℕ). oldest (λ j. get_or ld j 0) a m l) (sym s) ∙ ap (oldest (λ j. get_or ld j 0) (suc (n - 1)) m) is in
        let own : get_or (set gr (n - 1) w) (n - 1) 0 ≡ w = get_or-set_same gr (n - 1) w 0 (omega (arith, z.gr_long, group_index)) in
        record {
          given = z.given;
          done =
              record {
                lead = λ j a b. split (eqb j (n - 1))
                    (λ t. rw (eqb-true j (n - 1) t, own) (y.lead_is ∙ is))
                    (λ t. rw (get_or-set_other gr (n - 1) j w 0 (eqb-false j (n - 1) t)) (z.done.lead j (omega (arith, eqb-false j (n - 1) t)) b));
                next = λ j a b. split (eqb j (n - 1))
                    (λ t. rw (eqb-true j (n - 1) t, own) (y.next_is ∙ xx))
                    (λ t. rw (get_or-set_other gr (n - 1) j w 0 (eqb-false j (n - 1) t)) (z.done.next j (omega (arith, eqb-false j (n - 1) t)) b));
                merged = λ j a b. split (eqb j (n - 1))
                    (λ t. rw (eqb-true j (n - 1) t, own) (y.merged_is ∙ ap (λ (a : ℕ). merged_by a (n - 1) x) is
                    ∙ ap (merged_by (get_or ld (n - 1) 0) (n - 1)) xx))
                    (λ t. rw (get_or-set_other gr (n - 1) j w 0 (eqb-false j (n - 1) t)) (z.done.merged j (omega (arith, eqb-false j (n - 1) t)) b));
              };
          only = only_then t gr (set gr (n - 1) w) (n - 1) n m (omega arith) z.under z.only (rw i at (only_put gr (set gr (n - 1) w) (n - 1) w refl));
          lowest = λ a b. split (eqb (get_or ld (n - 1) 0) a)
              (λ t. let e : a ≡ l = sym (is ∙ eqb-true (get_or ld (n - 1) 0) a t) in
              rw (
                oldest_hit (λ j. get_or ld j 0) (n - 1) m a (omega (arith, z.under)) t,
                e,
                s,
              ) (get_or-set_same last l n 0 (omega (arith, z.last_long, group_lead))))
              (λ t. rw (
                oldest_miss (λ j. get_or ld j 0) (n - 1) m a (omega (arith, z.under)) t,
                s,
                get_or-set_other last l a n 0 (λ e. eqb-false (get_or ld (n - 1) 0) a t (sym is ∙ sym e)),
              ) (z.lowest a b));
          under = omega (arith, z.under);
          gr_long = rw length-set z.gr_long;
          last_long = rw length-set z.last_long;
        }

-- ---- two members or more

ups_first : (key : ℕ → ℕ) (c e m l h : ℕ) → m - e ≡ c → (d : ℕ) → In h (ups key e m l) → get_or (ups key e m l) 0 d ≡ h → ups key e m l ≡ h ∷ ups key (suc h) m l
ups_first key zero e m l h z d i q = absurd (rw (ups_past key e m l (omega arith)) at i)
ups_first key (suc c) e m l h z d i q =
    split (eqb (key e) l)
    (λ t. let u = ups_hit key e m l (omega arith) t in let y : e ≡ h = rw u at q in rw (u, y))
    (λ t. let u = ups_miss key e m l (omega arith) t in rw u (ups_first key c (suc e) m l h (omega arith) d (rw u at i) (rw u at q)))

some_oldest : (key : ℕ → ℕ) (c e m l : ℕ) → m - e ≡ c → (x : ℕ) (xs : List ℕ) → ups key e m l ≡ x ∷ xs → 0 < oldest key e m l
some_oldest key zero e m l z x xs q = let y : ◌≡◌ {A = List ℕ} [] (x ∷ xs) = sym (ups_past key e m l (omega arith)) ∙ q in clash cc
some_oldest key (suc c) e m l z x xs q =
    split (eqb (key e) l)
    (λ t. rw (oldest_hit key e m l (omega arith) t) (omega arith))
    (λ t. rw (oldest_miss key e m l (omega arith) t) (some_oldest key c (suc e) m l (omega arith) x xs (sym (ups_miss key e m l (omega arith) t) ∙ q)))

none_oldest : (key : ℕ → ℕ) (c e m l : ℕ) → m - e ≡ c → ups key e m l ≡ [] → oldest key e m l ≡ 0
none_oldest key zero e m l z q = oldest_past key e m l (omega arith)
none_oldest key (suc c) e m l z q =
    split (eqb (key e) l)
    (λ t. let y : ◌≡◌ {A = List ℕ} (e ∷ ups key (suc e) m l) [] = sym (ups_hit key e m l (omega arith) t) ∙ q in clash cc)
    (λ t. rw (oldest_miss key e m l (omega arith) t) (none_oldest key c (suc e) m l (omega arith) (sym (ups_miss key e m l (omega arith) t) ∙ q)))

pub many_members : (key : ℕ → ℕ) (m i : ℕ) → i < m → get_or (ups key 0 m (key i)) 0 i ≡ key i
    → ltb 1 (length (ups key 0 m (key i))) ≡ merged_by (key i) i (oldest key (suc i) m (key i))
many_members key m i h q =
    let j : In i (ups key 0 m (key i)) = in_ups key i 0 m (key i) (omega arith) h refl in
    let k : In (key i) (ups key 0 m (key i)) = subst (λ (y : ℕ). In y (ups key 0 m (key i))) q (head (ups key 0 m (key i)) j) in
    let u : ups key 0 m (key i) ≡ key i ∷ ups key (suc (key i)) m (key i) = ups_first key (m - 0) 0 m (key i) (key i) refl i k q in
    split (eqb (key i) i)
    (λ t. let e : key i ≡ i = eqb-true (key i) i t in
    by (ups key (suc i) m (key i)) refl (u ∙ ap (λ (a : ℕ). key i ∷ ups key (suc a) m (key i)) e) t)
    (λ t. other (ups key (suc (key i)) m (key i)) u (rw u at j) t)
  where
    head : (l : List ℕ) → In i l → In (get_or l 0 i) l
    head (x ∷ l) j = inl refl
    head [] j = absurd j

    by : (r : List ℕ) → ups key (suc i) m (key i) ≡ r → ups key 0 m (key i) ≡ key i ∷ ups key (suc i) m (key i) → eqb (key i) i ≡ true
        → ltb 1 (length (ups key 0 m (key i))) ≡ merged_by (key i) i (oldest key (suc i) m (key i))
    by [] e u t = rw (u, e, t, none_oldest key (m - suc i) (suc i) m (key i) refl e)
    by (x ∷ r) e u t =
        let o = some_oldest key (m - suc i) (suc i) m (key i) refl x r e in
        rw (u, e, ne_eqb (oldest key (suc i) m (key i)) 0 (λ y. omega arith)) (lt-ltb 1 (suc (suc (length r))) (omega arith))

    other : (r : List ℕ) → ups key 0 m (key i) ≡ key i ∷ r → In i (key i ∷ r) → eqb (key i) i ≡ false
        → ltb 1 (length (ups key 0 m (key i))) ≡ merged_by (key i) i (oldest key (suc i) m (key i))
    other r u (inl e) t = absurd (eqb-false (key i) i t (sym e))
    other [] u (inr j) t = absurd j
    other (x ∷ r) u (inr j) t =
        rw u (lt-ltb 1 (suc (suc (length r))) (omega arith) ∙ split (eqb (oldest key (suc i) m (key i)) 0) (λ v. rw (v, t)) (λ v. rw v))

pub group_end : (ld t gr last : List ℕ) (m n : ℕ) → Grouping ld t gr last m n → n ≤ 0 → GroupsDone ld t gr m
group_end ld t gr last m n z h =
    let q : n ≡ 0 = omega arith in
    record {
      done =
          record {
            lead = λ i a b. z.done.lead i (omega arith) b;
            next = λ i a b. z.done.next i (omega arith) b;
            merged = λ i a b. z.done.merged i (omega arith) b;
          };
      only = rw q at z.only;
    }

pub group_fresh : (ld gr : List ℕ) (m : ℕ) → LeadsOk ld m → length gr ≡ 128 → Grouping ld gr gr (replicate 128 0) m m
group_fresh ld gr m o a = group_start ld gr (replicate 128 0) m o a (length-replicate {A = ℕ} 128 0) (λ l h. get_or-replicate {A = ℕ} 128 l 0 0 h)
