-- The two loops along a run: finding where it ends, and writing its kids.
use Rattle.std.specs.Prelude.{◌≡◌, Bool, true, false, not, ◌||◌, ℕ, zero, suc, ◌+◌, ◌-◌, ◌%◌, ◌<◌, ◌≤◌, length, get_or, set, eqb, ltb}
use Rattle.std.proofs.Math.Path.{refl, sym}
use Rattle.std.proofs.Common.{ap, ◌∙◌, mod-eq_of_lt, length-set, length-append, get_or-set_same, get_or-set_other}
use mathlib.Core.List.{List, [], ◌∷◌, ◌++◌, map}
use native.Mathlib.Omega.{arith}
use borrow.Author.Tests.{eq-eqb, ne_eqb, ltb-true, ltb-false}
use Rattle.basis.specs.Lists.{upto}
use Rattle.basis.specs.Members.{split}
use Rattle.store.specs.declared.Edge.{Edge}
use Rattle.store.specs.declared.Size.{Size}
use Rattle.store.specs.Table.{edge_in}
use Rattle.links.specs.Build.{Chains}
use Rattle.links.specs.Walk.{Out, out_left, first_out, next_out, out_start, out_next, out_less, out_cons, out_end, out_target}
use Rattle.plan.specs.Fields.{kid_at, kids_from, kids_none, kids_more}
use Rattle.planning.specs.declared.along.Found.{Found}
use Rattle.planning.specs.Cut.{key_of, ends_run, target_by, target_of, targets_in, behind_run, targets_on, targets_end, behind_on, behind_end}
use Rattle.planning.specs.Kids.{marked_in, found, found_append, takes, kids_by, kids_append}

-- ---- a walk along a node's outgoing edges

-- e is one more than an edge of node n's chain, or 0
pub record Way (g ls : List ℕ) (n e : ℕ) : Type 0 where
  pub size : Size
  pub out : Out g size ls n e

module _ (g ls : List ℕ) (n e : ℕ) where
  pub way_next : (r : ℕ) → Way g ls n e → 0 < e → r ≡ next_out ls (e - 1) → Way g ls n r
  way_next r w h q = record { size = w.size; out = out_next g w.size ls n e r w.out h q }

  pub way_less : (r : ℕ) → Way g ls n e → 0 < e → r ≡ next_out ls (e - 1) → r < e
  way_less r w h q = out_less g w.size ls n e r w.out h q

  pub way_cons : (r : ℕ) → Way g ls n e → 0 < e → r ≡ next_out ls (e - 1) → out_left g n e ≡ edge_in g (e - 1) ∷ out_left g n r
  way_cons r w h q = out_cons g w.size ls n e r w.out h q

  pub way_target : Way g ls n e → 0 < e → (edge_in g (e - 1)).target < 128
  way_target w h = omega (arith, out_target g w.size ls n e (edge_in g (e - 1)).target w.out h refl, w.out.chains.stored.nodes_most)

pub way_start : (g : List ℕ) (s : Size) (ls : List ℕ) (n r : ℕ) → Chains g s ls → n < s.nodes → r ≡ first_out ls n → Way g ls n r
way_start g s ls n r c h q = record { size = s; out = out_start g s ls n r c h q }

-- ---- one edge, as the code reads it

module _ (x k : ℕ) (e : Edge) (is : k ≡ key_of e) where
  pub ends_none : k ≡ 0 → false ≡ ends_run x e
  unfolding ends_run
  ends_none h = rw (← is, eq-eqb k 0 h)

  pub ends_same : (k ≡ 0 → ⊥) → k ≡ x → false ≡ ends_run x e
  unfolding ends_run
  ends_same h q = rw (← is, ne_eqb k 0 h, eq-eqb k x q)

  pub ends_by : (k ≡ 0 → ⊥) → not (eqb k x) ≡ ends_run x e
  unfolding ends_run
  ends_by h = rw (← is, ne_eqb k 0 h)

pub target_skip : (k : ℕ) (e : Edge) → k ≡ key_of e → k ≡ 0 → target_of e ≡ []
unfolding target_of target_by
target_skip k e is h = rw (← is, h)

pub target_is : (k t : ℕ) (e : Edge) → k ≡ key_of e → (k ≡ 0 → ⊥) → t ≡ e.target → target_of e ≡ t ∷ []
unfolding target_of target_by
target_is zero t e is h q = absurd (h refl)
target_is (suc k) t e is h q = rw (← is, q)

module _ (ms : List ℕ) (o : Found) (k : ℕ) (e : Edge) (is : k ≡ key_of e) where
  pub found_skip : k ≡ 0 → o ≡ found ms o (target_of e)
  unfolding found
  found_skip h = rw (target_skip k e is h)

  pub found_one : (t : ℕ) (m i : Bool) → (k ≡ 0 → ⊥) → t ≡ e.target → m ≡ marked_in ms t → i ≡ o.installable || m
      → record { many = true; installable = i } ≡ found ms o (target_of e)
  unfolding found
  found_one t m i h q mm ii = rw (target_is k t e is h q, ii, mm)

-- ---- where a run ends

pub record Scanning (g ls ms : List ℕ) (n x e₁ : ℕ) (o₁ : Found) (e : ℕ) (o : Found) : Type 0 where
  pub out : Way g ls n e
  pub down : e ≤ e₁
  pub rest : behind_run x (out_left g n e) ≡ behind_run x (out_left g n e₁)
  pub so_far_lem : found ms o (targets_in x (out_left g n e)) ≡ found ms o₁ (targets_in x (out_left g n e₁))

pub record Scanned (g ls ms : List ℕ) (n x e₁ : ℕ) (o₁ : Found) (e : ℕ) (o : Found) : Type 0 where
  pub out : Way g ls n e
  pub down : e ≤ e₁
  pub rest : out_left g n e ≡ behind_run x (out_left g n e₁)
  pub all : o ≡ found ms o₁ (targets_in x (out_left g n e₁))

module _ (g ls ms : List ℕ) (n x e₁ : ℕ) (o₁ : Found) where
  pub scan_start_lem : Way g ls n e₁ → Scanning g ls ms n x e₁ o₁ e₁ o₁
  scan_start_lem w = record { out = w; down = omega arith; rest = refl; so_far_lem = refl }

  module _ (e : ℕ) (o : Found) (z : Scanning g ls ms n x e₁ o₁ e o) where
    pub scan_none : e ≤ 0 → Scanned g ls ms n x e₁ o₁ e o
    unfolding targets_in behind_run found
    scan_none h =
        record { out = z.out; down = z.down; rest = out_end g n e h ∙ (rw (out_end g n e h) at z.rest); all = rw (out_end g n e h) at z.so_far_lem }

    module _ (h : 0 < e) (b : Bool) (is : b ≡ ends_run x (edge_in g (e - 1))) where
      pub scan_stop : b ≡ true → Scanned g ls ms n x e₁ o₁ e o
      unfolding found
      scan_stop t =
          let c = way_cons g ls n e (next_out ls (e - 1)) z.out h refl in
          let a = behind_end x (edge_in g (e - 1)) (out_left g n (next_out ls (e - 1))) (sym is ∙ t) in
          record {
            out = z.out;
            down = z.down;
            rest = c ∙ sym a ∙ (rw c at z.rest);
            all = rw (c, targets_end x (edge_in g (e - 1)) (out_left g n (next_out ls (e - 1))) (sym is ∙ t)) at z.so_far_lem;
          }

      pub scan_step : (r : ℕ) (o' : Found) → b ≡ false → o' ≡ found ms o (target_of (edge_in g (e - 1))) → r ≡ next_out ls (e - 1)
          → Scanning g ls ms n x e₁ o₁ r o'
      scan_step r o' t f q =
          let c = way_cons g ls n e r z.out h q in
          let l = way_less g ls n e r z.out h q in
          record {
            out = way_next g ls n e r z.out h q;
            down = let d = z.down in omega arith;
            rest = sym (behind_on x (edge_in g (e - 1)) (out_left g n r) (sym is ∙ t)) ∙ (rw c at z.rest);
            so_far_lem =
                ap (λ (u : Found). found ms u (targets_in x (out_left g n r))) f
                ∙ sym (found_append ms o (target_of (edge_in g (e - 1))) (targets_in x (out_left g n r)))
                ∙ ap (found ms o) (sym (targets_on x (edge_in g (e - 1)) (out_left g n r) (sym is ∙ t)))
                ∙ (rw c at z.so_far_lem);
          }

-- ---- places of a table that changed

-- from lo on, below hi
pub record Only (t u : List ℕ) (lo hi : ℕ) : Type 0 where
  pub below : (i : ℕ) → i < lo → get_or u i 0 ≡ get_or t i 0
  pub above : (i : ℕ) → hi ≤ i → get_or u i 0 ≡ get_or t i 0
  pub long : length u ≡ length t

pub only_none : (t : List ℕ) (c : ℕ) → Only t t c c
only_none t c = record { below = λ i h. refl; above = λ i h. refl; long = refl }

pub only_put : (t u : List ℕ) (c v : ℕ) → u ≡ set t c v → Only t u c (c + 1)
only_put t u c v e =
    record {
      below = λ i h. rw e (get_or-set_other t c i v 0 (λ q. omega arith));
      above = λ i h. rw e (get_or-set_other t c i v 0 (λ q. omega arith));
      long = rw (e, length-set);
    }

pub only_then : (t u w : List ℕ) (lo mid hi : ℕ) → lo ≤ mid → mid ≤ hi → Only t u mid hi → Only u w lo mid → Only t w lo hi
only_then t u w lo mid hi a b x y =
    record {
      below = λ i h. y.below i h ∙ x.below i (omega arith);
      above = λ i h. y.above i (omega arith) ∙ x.above i h;
      long = y.long ∙ x.long;
    }

kids_same : (k u : List ℕ) (c i : ℕ) → ((j : ℕ) → i ≤ j → get_or u j 0 ≡ get_or k j 0) → map (kid_at u) (upto c i) ≡ map (kid_at k) (upto c i)
unfolding kid_at
kids_same k u zero i f = refl
kids_same k u (suc c) i f = rw (f i (omega arith)) (ap (λ (l : List ℕ). (get_or k i 0 % 128) ∷ l) (kids_same k u c (suc i) (λ j h. f j (omega arith))))

pub kids_keep : (k u : List ℕ) (lo hi i e : ℕ) → Only k u lo hi → hi ≤ i → kids_from u i e ≡ kids_from k i e
unfolding kids_from
kids_keep k u lo hi i e o h = kids_same k u (e - i) i (λ j l. o.above j (omega arith))

pub kids_put : (k u : List ℕ) (c e t : ℕ) → u ≡ set k c t → c < e → c < length k → t < 128 → kids_from u c e ≡ t ∷ kids_from k (c + 1) e
unfolding kid_at
kids_put k u c e t q h l m =
    kids_more u c e h
    ∙ rw (kids_keep k u c (c + 1) (c + 1) e (only_put k u c t q) (omega arith), q, get_or-set_same k c t 0 l, mod-eq_of_lt m)

-- ---- writing a run's kids

-- the places from lo on, below hi, hold numbers of nodes and nothing else
abbrev pub Nodes : List ℕ → ℕ → ℕ → Type 0
Nodes k lo hi = (i : ℕ) → lo ≤ i → i < hi → get_or k i 0 < 128

pub nodes_none : (k : List ℕ) (c : ℕ) → Nodes k c c
nodes_none k c i a b = absurd (never a b)
  where
    never : c ≤ i → i < c → ⊥
    never a b = omega arith

pub nodes_then : (t u : List ℕ) (lo mid hi : ℕ) → Nodes t mid hi → Only t u lo mid → Nodes u lo mid → Nodes u lo hi
nodes_then t u lo mid hi x o y i a b =
    split (ltb i mid) (λ q. y i a (ltb-true i mid q)) (λ q. let h : mid ≤ i = ltb-false i mid q in rw (o.above i h) (x i h b))

pub record KidStep (g ms gr k u : List ℕ) (want : Bool) (ts : List ℕ) (c r end : ℕ) : Type 0 where
  pub kids : kids_from u r end ≡ kids_by g ms gr want (kids_from k c end) ts
  pub only : Only k u r c
  pub small : Nodes u r c
  pub down : r ≤ c
  pub few : c ≤ r + length ts

module _ (g ms gr k : List ℕ) (want : Bool) (end : ℕ) (e : Edge) (c key : ℕ) (is : key ≡ key_of e) where
  pub kid_skip : key ≡ 0 → KidStep g ms gr k k want (target_of e) c c end
  unfolding kids_by
  kid_skip h = rw (target_skip key e is h) (record { kids = refl; only = only_none k c; small = nodes_none k c; down = omega arith; few = omega arith })

  module _ (t : ℕ) (some : key ≡ 0 → ⊥) (to : t ≡ e.target) where
    pub kid_not : (b : Bool) → b ≡ takes g ms gr want (kids_from k c end) t → b ≡ false → KidStep g ms gr k k want (target_of e) c c end
    unfolding kids_by
    kid_not b q f =
        rw (target_is key t e is some to)
        (record { kids = rw ((sym q ∙ f), kids_by); only = only_none k c; small = nodes_none k c; down = omega arith; few = omega arith })

-- what a call of the step asks
pub record KidReady (g k : List ℕ) (i c end : ℕ) : Type 0 where
  pub room : length (target_of (edge_in g i)) ≤ c
  pub small : (edge_in g i).target < 128
  pub under : c ≤ end
  pub high : end ≤ 1024
  pub long : length k ≡ 1024

pub ready_some : (g k : List ℕ) (i c end key t : ℕ) → KidReady g k i c end → key ≡ key_of (edge_in g i) → (key ≡ 0 → ⊥) → t ≡ (edge_in g i).target → 0 < c
ready_some g k i c end key t z is h q = let l = ap length (target_is key t (edge_in g i) is h q) in omega (arith, z.room)

pub kid_put : (g ms gr k : List ℕ) (want : Bool) (i c end key t : ℕ) (b : Bool) → KidReady g k i c end → key ≡ key_of (edge_in g i) → (key ≡ 0 → ⊥)
    → t ≡ (edge_in g i).target
    → b ≡ takes g ms gr want (kids_from k c end) t → b ≡ true → KidStep g ms gr k (set k (c - 1) t) want (target_of (edge_in g i)) c (c - 1) end
unfolding kids_by
kid_put g ms gr k want i c end key t b z is some to q f =
    let h = ready_some g k i c end key t z is some to in
    let y : c - 1 + 1 ≡ c = omega arith in
    let m : t < 128 = omega (arith, z.small) in
    rw (target_is key t (edge_in g i) is some to)
    (record {
      kids =
          rw ((sym q ∙ f), kids_by) (kids_put k (set k (c - 1) t) (c - 1) end t refl (omega (arith, z.under)) (omega (arith, z.under, z.high, z.long)) m
          ∙ ap (λ (a : ℕ). t ∷ kids_from k a end) y);
      only = rw y at (only_put k (set k (c - 1) t) (c - 1) t refl);
      small = λ j a l. let e : j ≡ c - 1 = omega arith in
          rw (e, get_or-set_same k (c - 1) t 0 (omega (arith, z.under, z.high, z.long))) m;
      down = omega arith;
      few = omega arith;
    })

pub record Kidding (g ls ms gr : List ℕ) (n x : ℕ) (want : Bool) (e₁ : ℕ) (k₁ : List ℕ) (end e : ℕ) (k : List ℕ) (c : ℕ) : Type 0 where
  pub out : Way g ls n e
  pub so_far_lem : kids_by g ms gr want (kids_from k c end) (targets_in x (out_left g n e)) ≡ kids_by g ms gr want [] (targets_in x (out_left g n e₁))
  pub only : Only k₁ k c end
  pub small : Nodes k c end
  pub under : c ≤ end
  pub room : length (targets_in x (out_left g n e)) ≤ c
  pub few : end + length (targets_in x (out_left g n e)) ≤ c + length (targets_in x (out_left g n e₁))
  pub high : end ≤ 1024
  pub long : length k ≡ 1024

pub record KidsDone (g ms gr : List ℕ) (want : Bool) (ts k₁ : List ℕ) (end : ℕ) (k : List ℕ) (c : ℕ) : Type 0 where
  pub kids : kids_from k c end ≡ kids_by g ms gr want [] ts
  pub only : Only k₁ k c end
  pub small : Nodes k c end
  pub under : c ≤ end
  pub few : end ≤ c + length ts

-- what a call of the whole asks
pub record KidsReady (g ls k : List ℕ) (n x e end : ℕ) : Type 0 where
  pub out : Way g ls n e
  pub room : length (targets_in x (out_left g n e)) ≤ end
  pub high : end ≤ 1024
  pub long : length k ≡ 1024

module _ (g ls ms gr : List ℕ) (n x : ℕ) (want : Bool) (e₁ : ℕ) (k₁ : List ℕ) (end : ℕ) where
  pub kidding_start : KidsReady g ls k₁ n x e₁ end → Kidding g ls ms gr n x want e₁ k₁ end e₁ k₁ end
  kidding_start z =
      record {
        out = z.out;
        so_far_lem = rw (kids_none k₁ end end (omega arith));
        only = only_none k₁ end;
        small = nodes_none k₁ end;
        under = omega arith;
        room = z.room;
        few = omega arith;
        high = z.high;
        long = z.long;
      }

  module _ (e : ℕ) (k : List ℕ) (c : ℕ) (z : Kidding g ls ms gr n x want e₁ k₁ end e k c) where
    pub kidding_none : e ≤ 0 → KidsDone g ms gr want (targets_in x (out_left g n e₁)) k₁ end k c
    unfolding targets_in kids_by
    kidding_none h =
        record { kids = rw (out_end g n e h) at z.so_far_lem; only = z.only; small = z.small; under = z.under; few = let l = z.few in omega arith }

    module _ (h : 0 < e) (b : Bool) (is : b ≡ ends_run x (edge_in g (e - 1))) where
      pub kidding_stop : b ≡ true → KidsDone g ms gr want (targets_in x (out_left g n e₁)) k₁ end k c
      unfolding kids_by
      kidding_stop t =
          let q = way_cons g ls n e (next_out ls (e - 1)) z.out h refl in
          let y : targets_in x (out_left g n e) ≡ [] = rw q (targets_end x (edge_in g (e - 1)) (out_left g n (next_out ls (e - 1))) (sym is ∙ t)) in
          record { kids = rw y at z.so_far_lem; only = z.only; small = z.small; under = z.under; few = let l = z.few in omega arith }

      pub kidding_ready : b ≡ false → KidReady g k (e - 1) c end
      kidding_ready t =
          let q = way_cons g ls n e (next_out ls (e - 1)) z.out h refl in
          let y : targets_in x (out_left g n e) ≡ target_of (edge_in g (e - 1)) ++ targets_in x (out_left g n (next_out ls (e - 1))) =
          rw q (targets_on x (edge_in g (e - 1)) (out_left g n (next_out ls (e - 1))) (sym is ∙ t)) in
          record {
            room = omega (arith, z.room, simp length-append at (ap length y));
            small = way_target g ls n e z.out h;
            under = z.under;
            high = z.high;
            long = z.long;
          }

      pub kidding_step : (u : List ℕ) (d r : ℕ) → b ≡ false → KidStep g ms gr k u want (target_of (edge_in g (e - 1))) c d end → r ≡ next_out ls (e - 1)
          → Kidding g ls ms gr n x want e₁ k₁ end r u d
      kidding_step u d r t w q =
          let o = way_cons g ls n e r z.out h q in
          let y : targets_in x (out_left g n e) ≡ target_of (edge_in g (e - 1)) ++ targets_in x (out_left g n r) =
          rw o (targets_on x (edge_in g (e - 1)) (out_left g n r) (sym is ∙ t)) in
          let l = simp length-append at (ap length y) in
          let f = w.few in
          record {
            out = way_next g ls n e r z.out h q;
            so_far_lem =
                ap (λ (a : List ℕ). kids_by g ms gr want a (targets_in x (out_left g n r))) w.kids
                ∙ sym (kids_append g ms gr want (kids_from k c end) (target_of (edge_in g (e - 1))) (targets_in x (out_left g n r)))
                ∙ ap (kids_by g ms gr want (kids_from k c end)) (sym y)
                ∙ z.so_far_lem;
            only = only_then k₁ k u d c end w.down z.under z.only w.only;
            small = nodes_then k u d c end z.small w.only w.small;
            under = let a = w.down in let m = z.under in omega arith;
            room = let a = z.room in omega arith;
            few = let a = z.few in omega arith;
            high = z.high;
            long = w.only.long ∙ z.long;
          }
