-- The version sets of a constraining package, newest first, equal neighbours once, written from a place downwards.
use Rattle.std.specs.Prelude.{◌≡◌, refl, Bool, true, false, ℕ, zero, suc, ◌+◌, ◌-◌, ◌<◌, ◌≤◌, length, get_or, set, eqb}
use Rattle.std.proofs.Common.{sym, ◌∙◌, add-one, length-append, eqb-true, eq-eqb}
use Rattle.std.proofs.Math.Path.{ap}
use mathlib.Core.List.{List, [], ◌∷◌, ◌++◌, map, reverse, reverse_aux, append_assoc}
use native.Mathlib.Omega.{arith}
use Rattle.std.proofs.Math.Seq.{get_or-set_same}
use Rattle.basis.specs.Lists.{upto, concat_map}
use Rattle.basis.specs.Members.{split}
use Rattle.store.specs.declared.ConflictCause.TheVariants as K
use Rattle.store.specs.declared.ConflictEdge.{ConflictEdge}
use Rattle.store.specs.declared.ConflictEdge.TheVariants as W
use Rattle.store.specs.declared.Edge.{Edge}
use Rattle.store.specs.Table.{edge_in}
use Rattle.links.specs.Walk.{out_left, next_out, out_end}
use Rattle.plan.specs.Plan.{sets_by, join_set, sets_of}
use Rattle.plan.specs.Fields.{set_at, sets_from, sets_none, sets_more}
use Rattle.planning.specs.Along.{Way, way_next, way_cons, Only, only_none, only_put, only_then}
use Rattle.planning.specs.EdgeMarks.{edge_mark, set_none, set_one}

-- ---- equal neighbours, as a loop drops them: the last kept stands in front

abbrev pub is_head : ℕ → List ℕ → Bool
is_head v [] = false
is_head v (w ∷ ws) = eqb w v

unfoldable pub join_all : List ℕ → List ℕ → List ℕ
join_all acc [] = acc
join_all acc (v ∷ vs) = elim (is_head v acc) [ true ↦ join_all acc vs | false ↦ join_all (v ∷ acc) vs ]

-- the same from the other side, as the definition does
abbrev joins : List ℕ → List ℕ
joins [] = []
joins (v ∷ vs) = join_set v (joins vs)

join_twice : (a : ℕ) (l : List ℕ) → join_set a (join_set a l) ≡ join_set a l
join_twice a [] = rw (eq-eqb a a refl)
join_twice a (w ∷ l) = split (eqb a w) (λ t. rw (t, t)) (λ t. rw (t, eq-eqb a a refl))

join_other : (a v : ℕ) (l : List ℕ) → eqb a v ≡ false → join_set a (join_set v l) ≡ a ∷ join_set v l
join_other a v [] f = rw f
join_other a v (w ∷ l) f = split (eqb v w) (λ t. let z : w ≡ v = sym (eqb-true v w t) in rw (t, z, f)) (λ t. rw (t, f))

aux_split : (xs acc : List ℕ) → reverse_aux xs acc ≡ reverse_aux xs [] ++ acc
aux_split [] acc = refl
aux_split (x ∷ xs) acc = aux_split xs (x ∷ acc) ∙ sym (ap (λ (l : List ℕ). l ++ acc) (aux_split xs (x ∷ [])) ∙ append_assoc (reverse_aux xs []) (x ∷ []) acc)

reverse_one : (x : ℕ) (xs : List ℕ) → reverse (x ∷ xs) ≡ reverse xs ++ (x ∷ [])
reverse_one x xs = aux_split xs (x ∷ [])

joined_from : (a : ℕ) (acc vs : List ℕ) → reverse (join_all (a ∷ acc) vs) ≡ reverse acc ++ joins (a ∷ vs)
unfolding join_all
joined_from a acc [] = reverse_one a acc
joined_from a acc (v ∷ vs) =
    split (eqb a v)
    (λ t. let z : v ≡ a = sym (eqb-true a v t) in
    rw (t, join_all) (joined_from a acc vs ∙ ap (λ (l : List ℕ). reverse acc ++ l) (rw z (sym (join_twice a (joins vs))))))
    (λ t. rw (t, join_all)
    (joined_from v (a ∷ acc) vs ∙ ap (λ (l : List ℕ). l ++ joins (v ∷ vs)) (reverse_one a acc) ∙ append_assoc (reverse acc) (a ∷ []) (joins (v ∷ vs))
    ∙ ap (λ (l : List ℕ). reverse acc ++ l) (sym (join_other a v (joins vs) t))))

joined_all : (vs : List ℕ) → reverse (join_all [] vs) ≡ joins vs
unfolding join_all
joined_all [] = refl
joined_all (v ∷ vs) = joined_from v [] vs

unfoldable pub sets_all : List Edge → List ℕ
sets_all es = concat_map (λ e. sets_by e.weight) es

pub few_sets : (w : ConflictEdge) → length (sets_by w) ≤ 1
few_sets (W.Requires q) = omega arith
few_sets (W.Conflict (K.Locked s)) = omega arith
few_sets (W.Conflict (K.Constrains v)) = omega arith
few_sets (W.Conflict K.ForbidMultipleInstances) = omega arith
few_sets (W.Conflict K.Excluded) = omega arith

not_two : (l : List ℕ) (v w : ℕ) → length (v ∷ w ∷ l) ≤ 1 → ⊥
not_two l v w h = omega arith

sets_joins : (es : List Edge) → sets_of es ≡ joins (sets_all es)
unfolding sets_all
sets_joins [] = refl
sets_joins (e ∷ es) = by (sets_joins es) (sets_by e.weight) refl
  where
    by : sets_of es ≡ joins (sets_all es) → (l : List ℕ) → sets_by e.weight ≡ l
        → sets_of (e ∷ es) ≡ joins (sets_by e.weight ++ concat_map (λ e. sets_by e.weight) es)
    by ih [] q = rw (q, sets_of) ih
    by ih (v ∷ []) q = rw (q, sets_of) (ap (join_set v) ih)
    by ih (v ∷ w ∷ l) q = absurd (not_two l v w (rw q at (few_sets e.weight)))

pub sets_joined : (es : List Edge) → reverse (join_all [] (sets_all es)) ≡ sets_of es
sets_joined es = joined_all (sets_all es) ∙ sym (sets_joins es)

-- ---- the places

unfoldable pub sets_up : List ℕ → ℕ → ℕ → List ℕ
sets_up k i e = map (set_at k) (upto (e - i) i)

up_none : (k : List ℕ) (i e : ℕ) → e ≤ i → sets_up k i e ≡ []
unfolding sets_up
up_none k i e h = let z : e - i ≡ 0 = omega arith in rw z

up_more : (k : List ℕ) (i e : ℕ) → i < e → sets_up k i e ≡ set_at k i ∷ sets_up k (i + 1) e
unfolding sets_up
up_more k i e h = let z : e - i ≡ suc (e - (i + 1)) = omega arith in rw (z, add-one)

up_last : (c : ℕ) (k : List ℕ) (i e : ℕ) → e - i ≡ suc c → sets_up k i e ≡ sets_up k i (e - 1) ++ (set_at k (e - 1) ∷ [])
up_last zero k i e h =
    let y : e - 1 ≡ i = omega arith in
    rw (up_more k i e (omega arith), up_none k (i + 1) e (omega arith), y, up_none k i i (omega arith))
up_last (suc c) k i e h =
    rw (up_more k i e (omega arith), up_more k i (e - 1) (omega arith)) (ap (λ (l : List ℕ). set_at k i ∷ l) (up_last c k (i + 1) e (omega arith)))

reverse_last : (xs : List ℕ) (x : ℕ) → reverse (xs ++ (x ∷ [])) ≡ x ∷ reverse xs
reverse_last [] x = refl
reverse_last (y ∷ xs) x =
    reverse_one y (xs ++ (x ∷ [])) ∙ ap (λ (l : List ℕ). l ++ (y ∷ [])) (reverse_last xs x) ∙ ap (λ (l : List ℕ). x ∷ l) (sym (reverse_one y xs))

sets_up' : (c : ℕ) (k : List ℕ) (i e : ℕ) → e - i ≡ c → sets_from k i e ≡ reverse (sets_up k i e)
sets_up' zero k i e h = rw (sets_none k i e (omega arith), up_none k i e (omega arith))
sets_up' (suc c) k i e h =
    rw (sets_more k i e (omega arith), up_last c k i e h, reverse_last (sets_up k i (e - 1)) (set_at k (e - 1)))
    (ap (λ (l : List ℕ). set_at k (e - 1) ∷ l) (sets_up' c k i (e - 1) (omega arith)))

-- the lines go the other way
pub sets_up_lem : (k : List ℕ) (i e : ℕ) → sets_from k i e ≡ reverse (sets_up k i e)
sets_up_lem k i e = sets_up' (e - i) k i e refl

up_same : (k u : List ℕ) (c i : ℕ) → ((j : ℕ) → i ≤ j → get_or u j 0 ≡ get_or k j 0) → map (set_at u) (upto c i) ≡ map (set_at k) (upto c i)
unfolding set_at
up_same k u zero i f = refl
up_same k u (suc c) i f = rw (f i (omega arith)) (ap (λ (l : List ℕ). get_or k i 0 ∷ l) (up_same k u c (suc i) (λ j h. f j (omega arith))))

up_keep : (k u : List ℕ) (lo hi i e : ℕ) → Only k u lo hi → hi ≤ i → sets_up u i e ≡ sets_up k i e
unfolding sets_up
up_keep k u lo hi i e o h = up_same k u (e - i) i (λ j l. o.above j (omega arith))

pub sets_keep : (k u : List ℕ) (lo hi i e : ℕ) → Only k u lo hi → hi ≤ i → sets_from u i e ≡ sets_from k i e
sets_keep k u lo hi i e o h = sets_up_lem u i e ∙ ap reverse (up_keep k u lo hi i e o h) ∙ sym (sets_up_lem k i e)

-- ---- one edge

pub record SetReady (g k : List ℕ) (i c end : ℕ) : Type 0 where
  pub room : length (sets_by (edge_in g i).weight) ≤ c
  pub under : c ≤ end
  pub high : end ≤ 1024
  pub long : length k ≡ 1024

pub record SetStep (k u vs : List ℕ) (c r end : ℕ) : Type 0 where
  pub sets : sets_up u r end ≡ join_all (sets_up k c end) vs
  pub only : Only k u r c
  pub down : r ≤ c
  pub few : c ≤ r + length vs

-- the set at place c is v
pub last_none : (k : List ℕ) (c end v : ℕ) → end ≤ c → false ≡ is_head v (sets_up k c end)
last_none k c end v h = rw (up_none k c end h)

pub last_is : (k : List ℕ) (c end v y x : ℕ) → c < end → y ≡ set_at k c → x ≡ y → eqb x v ≡ is_head v (sets_up k c end)
last_is k c end v y x h q e = rw (up_more k c end h, ← q, e)

module _ (g k : List ℕ) (i c end m : ℕ) (z : SetReady g k i c end) (is : m ≡ edge_mark (sets_by (edge_in g i).weight)) where
  pub set_skip : m ≡ 0 → SetStep k k (sets_by (edge_in g i).weight) c c end
  unfolding join_all
  set_skip h = rw (set_none (edge_in g i).weight m is h) (record { sets = refl; only = only_none k c; down = omega arith; few = omega arith })

  module _ (s : m ≡ 0 → ⊥) (b : Bool) (bb : b ≡ is_head (m - 1) (sets_up k c end)) where
    pub set_again : b ≡ true → SetStep k k (sets_by (edge_in g i).weight) c c end
    unfolding join_all
    set_again t =
        rw (set_one (edge_in g i).weight m is s)
        (record { sets = rw ((sym bb ∙ t), join_all); only = only_none k c; down = omega arith; few = omega arith })

    pub set_some : 0 < c
    set_some = omega (arith, z.room, ap length (set_one (edge_in g i).weight m is s))

    pub set_put : b ≡ false → SetStep k (set k (c - 1) (m - 1)) (sets_by (edge_in g i).weight) c (c - 1) end
    unfolding join_all set_at
    set_put t =
        let h : 0 < c = set_some in
        let y : c - 1 + 1 ≡ c = omega arith in
        let o : Only k (set k (c - 1) (m - 1)) (c - 1) c = rw y at (only_put k (set k (c - 1) (m - 1)) (c - 1) (m - 1) refl) in
        rw (set_one (edge_in g i).weight m is s)
        (record {
          sets =
              rw ((sym bb ∙ t), join_all)
              (rw (
                up_more (set k (c - 1) (m - 1)) (c - 1) end (omega (arith, z.under)),
                y,
                up_keep k (set k (c - 1) (m - 1)) (c - 1) c c end o (omega arith),
                get_or-set_same k (c - 1) (m - 1) 0 (omega (arith, z.under, z.high, z.long)),
              ) refl);
          only = o;
          down = omega arith;
          few = omega arith;
        })

-- ---- all of them

pub record SetsReady (g ls k : List ℕ) (n e end : ℕ) : Type 0 where
  pub way : Way g ls n e
  pub room : length (sets_all (out_left g n e)) ≤ end
  pub high : end ≤ 1024
  pub long : length k ≡ 1024

pub record Setting (g ls : List ℕ) (n e₁ : ℕ) (k₁ : List ℕ) (end e : ℕ) (k : List ℕ) (c : ℕ) : Type 0 where
  pub way : Way g ls n e
  pub so_far_lem : join_all (sets_up k c end) (sets_all (out_left g n e)) ≡ join_all [] (sets_all (out_left g n e₁))
  pub only : Only k₁ k c end
  pub under : c ≤ end
  pub room : length (sets_all (out_left g n e)) ≤ c
  pub few : end + length (sets_all (out_left g n e)) ≤ c + length (sets_all (out_left g n e₁))
  pub high : end ≤ 1024
  pub long : length k ≡ 1024

pub record SetsDone (es : List Edge) (k₁ : List ℕ) (end : ℕ) (k : List ℕ) (c : ℕ) : Type 0 where
  pub sets : sets_from k c end ≡ sets_of es
  pub only : Only k₁ k c end
  pub under : c ≤ end
  pub few : end ≤ c + length (sets_all es)

join_append : (acc vs us : List ℕ) → join_all acc (vs ++ us) ≡ join_all (join_all acc vs) us
unfolding join_all
join_append acc [] us = refl
join_append acc (v ∷ vs) us = split (is_head v acc) (λ t. rw (t, join_all) (join_append acc vs us)) (λ t. rw (t, join_all) (join_append (v ∷ acc) vs us))

module _ (g ls : List ℕ) (n e₁ : ℕ) (k₁ : List ℕ) (end : ℕ) where
  pub setting_start : SetsReady g ls k₁ n e₁ end → Setting g ls n e₁ k₁ end e₁ k₁ end
  setting_start z =
      record {
        way = z.way;
        so_far_lem = rw (up_none k₁ end end (omega arith));
        only = only_none k₁ end;
        under = omega arith;
        room = z.room;
        few = omega arith;
        high = z.high;
        long = z.long;
      }

  module _ (e : ℕ) (k : List ℕ) (c : ℕ) (z : Setting g ls n e₁ k₁ end e k c) where
    pub setting_end : e ≤ 0 → SetsDone (out_left g n e₁) k₁ end k c
    unfolding sets_all join_all
    setting_end h =
        let y : sets_up k c end ≡ join_all [] (sets_all (out_left g n e₁)) = rw (out_end g n e h) at z.so_far_lem in
        record { sets = sets_up_lem k c end ∙ ap reverse y ∙ sets_joined (out_left g n e₁); only = z.only; under = z.under; few = omega (arith, z.few) }

    module _ (h : 0 < e) (r : ℕ) (q : r ≡ next_out ls (e - 1)) where
      cons : sets_all (out_left g n e) ≡ sets_by (edge_in g (e - 1)).weight ++ sets_all (out_left g n r)
      unfolding sets_all
      cons = rw (way_cons g ls n e r z.way h q)

      pub setting_step : (u : List ℕ) (d : ℕ) → SetStep k u (sets_by (edge_in g (e - 1)).weight) c d end → Setting g ls n e₁ k₁ end r u d
      setting_step u d w =
          let l = simp length-append at (ap length cons) in
          let f = w.few in
          record {
            way = way_next g ls n e r z.way h q;
            so_far_lem =
                ap (λ (a : List ℕ). join_all a (sets_all (out_left g n r))) w.sets
                ∙ sym (join_append (sets_up k c end) (sets_by (edge_in g (e - 1)).weight) (sets_all (out_left g n r)))
                ∙ ap (join_all (sets_up k c end)) (sym cons) ∙ z.so_far_lem;
            only = only_then k₁ k u d c end w.down z.under z.only w.only;
            under = let a = w.down in let b = z.under in omega arith;
            room = let a = z.room in omega arith;
            few = let a = z.few in omega arith;
            high = z.high;
            long = w.only.long ∙ z.long;
          }

    pub setting_ready : 0 < e → SetReady g k (e - 1) c end
    setting_ready h =
        record {
          room = omega (arith, z.room, simp length-append at (ap length (cons h (next_out ls (e - 1)) refl)));
          under = z.under;
          high = z.high;
          long = z.long;
        }
