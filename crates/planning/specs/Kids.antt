-- What a pass along a run finds, and the kids that it writes, in terms of the tables that the code reads.
use Rattle.std.specs.Prelude.{◌≡◌, refl, Option, Some, None, Bool, true, false, cond, ◌&&◌, ◌||◌, not, List, [], ◌∷◌, ◌++◌, ℕ, suc, ◌+◌, ◌/◌, ◌%◌, ◌<◌, ◌≤◌, length, get_or, eqb, ltb}
use Rattle.std.proofs.Common.{sym, ap, ◌∙◌, arith}
use borrow.Author.Tests.{lt-ltb, eq-eqb, ne_eqb, not-true, not-false}
use Rattle.basis.specs.Lists.{any, all}
use Rattle.basis.specs.Members.{split}
use Rattle.store.specs.Graph.{is_solvable, is_unresolved}
use Rattle.store.specs.Table.{node_in}
use Rattle.plan.specs.Fields.{kid_at, kids_from, kids_none, kids_more}
use Rattle.planning.specs.declared.along.Found.{Found}

-- node t's label in the table of marks: 1 for installable
unfoldable pub marked_in : List ℕ → ℕ → Bool
marked_in ms t = eqb (get_or ms t 0 % 2) 1

pub marked_is : (ms : List ℕ) (t w : ℕ) → w ≡ get_or ms t 0 → eqb (w % 2) 1 ≡ marked_in ms t
unfolding marked_in
marked_is ms t w e = rw e

-- a node's group, in a table of numbers: its first member (7 bits), whether it has two or more (1), and one more than the next
-- member's number, or 0 (8)
unfoldable pub lead_at : List ℕ → ℕ → ℕ
lead_at gr t = get_or gr t 0 % 128

unfoldable pub merged_at : List ℕ → ℕ → Bool
merged_at gr t = eqb (get_or gr t 0 / 128 % 2) 1

pub merged_at_is : (gr : List ℕ) (t w : ℕ) → w ≡ get_or gr t 0 → eqb (w / 128 % 2) 1 ≡ merged_at gr t
unfolding merged_at
merged_at_is gr t w e = rw e

unfoldable pub next_at : List ℕ → ℕ → ℕ
next_at gr t = get_or gr t 0 / 256

-- ---- what is found along a run's targets: more than one, an installable one

unfoldable pub found : List ℕ → Found → List ℕ → Found
unfolding marked_in
found ms o [] = o
found ms o (t ∷ ts) = found ms (record { many = true; installable = o.installable || marked_in ms t }) ts

-- at the first of them
abbrev pub first_found : List ℕ → ℕ → Found
first_found ms t = record { many = false; installable = marked_in ms t }

pub found_append : (ms : List ℕ) (o : Found) (ts us : List ℕ) → found ms o (ts ++ us) ≡ found ms (found ms o ts) us
unfolding found
found_append ms o [] us = refl
found_append ms o (t ∷ ts) us = found_append ms (record { many = true; installable = o.installable || marked_in ms t }) ts us

or-false : (b : Bool) → b || false ≡ b
or-false true = refl
or-false false = refl

found_installable : (ms : List ℕ) (o : Found) (ts : List ℕ) → (found ms o ts).installable ≡ o.installable || any (marked_in ms) ts
unfolding found
found_installable ms o [] = sym (or-false o.installable)
found_installable ms o (t ∷ ts) =
    found_installable ms (record { many = true; installable = o.installable || marked_in ms t }) ts
    ∙ split o.installable (λ q. rw q) (λ q. rw q (split (marked_in ms t) (λ m. rw (m, any)) (λ m. rw (m, any))))

found_more : (ms : List ℕ) (o : Found) (ts : List ℕ) → o.many ≡ true → (found ms o ts).many ≡ true
unfolding found
found_more ms o [] m = m
found_more ms o (t ∷ ts) m = found_more ms (record { many = true; installable = o.installable || marked_in ms t }) ts refl

pub any_found : (ms : List ℕ) (t : ℕ) (ts : List ℕ) (c : Found) → c ≡ found ms (first_found ms t) ts → c.installable ≡ any (marked_in ms) (t ∷ ts)
any_found ms t ts c e =
    ap (λ (f : Found). f.installable) e ∙ found_installable ms (first_found ms t) ts ∙ split (marked_in ms t) (λ m. rw (m, any)) (λ m. rw (m, any))

pub many_found : (ms : List ℕ) (t : ℕ) (ts : List ℕ) (c : Found) → c ≡ found ms (first_found ms t) ts → c.many ≡ ltb 1 (length (t ∷ ts))
unfolding found
many_found ms t [] c e = ap (λ (f : Found). f.many) e
many_found ms t (u ∷ ts) c e =
    ap (λ (f : Found). f.many) e
    ∙ found_more ms (record { many = true; installable = marked_in ms t || marked_in ms u }) ts refl
    ∙ sym (lt-ltb 1 (suc (suc (length ts))) (omega arith))

-- the same from no target on: nothing is found in an empty run, and the first target begins what is found in another
abbrev pub found_from : List ℕ → List ℕ → Option Found
found_from ms [] = None
found_from ms (t ∷ ts) = Some (found ms (first_found ms t) ts)

abbrev pub many_in : Option Found → Bool
many_in None = false
many_in (Some c) = c.many

abbrev pub installable_in : Option Found → Bool
installable_in None = false
installable_in (Some c) = c.installable

pub found_any : (ms ts : List ℕ) (o : Option Found) → o ≡ found_from ms ts → installable_in o ≡ any (marked_in ms) ts
found_any ms [] o e = rw e refl
found_any ms (t ∷ ts) o e = rw e (any_found ms t ts (found ms (first_found ms t) ts) refl)

pub found_many : (ms ts : List ℕ) (o : Option Found) → o ≡ found_from ms ts → many_in o ≡ ltb 1 (length ts)
found_many ms [] o e = rw e refl
found_many ms (t ∷ ts) o e = rw e (many_found ms t ts (found ms (first_found ms t) ts) refl)

-- ---- the kids, in the order in which they are popped: those written are `acc`

-- a kid of the same group is there
unfoldable pub group_shown : List ℕ → ℕ → List ℕ → Bool
group_shown gr l acc = any (λ m. eqb (lead_at gr m) l) acc

-- lines 961 to 1055: a solvable, installable where the run is, and of a merged group the first
unfoldable pub takes : List ℕ → List ℕ → List ℕ → Bool → List ℕ → ℕ → Bool
unfolding marked_in group_shown
takes g ms gr want acc t =
    is_solvable (node_in g t) && ((not want || marked_in ms t) && not (merged_at gr t && group_shown gr (lead_at gr t) acc))

-- whether a kid of l's group is among those from place c to the end: those below i are passed
module _ (gr k : List ℕ) (l c i end : ℕ) (inv : group_shown gr l (kids_from k i end) ≡ group_shown gr l (kids_from k c end)) where
  pub shown_none : end ≤ i → false ≡ group_shown gr l (kids_from k c end)
  unfolding group_shown
  shown_none h = rw (kids_none k i end h) at inv

  module _ (h : i < end) (m x : ℕ) (is : m ≡ kid_at k i) (of : x ≡ lead_at gr m) where
    pub shown_hit : x ≡ l → true ≡ group_shown gr l (kids_from k c end)
    unfolding group_shown
    shown_hit q = rw (kids_more k i end h, ← is, ← of, eq-eqb x l q, any) at inv

    pub shown_on : (x ≡ l → ⊥) → group_shown gr l (kids_from k (i + 1) end) ≡ group_shown gr l (kids_from k c end)
    unfolding group_shown
    shown_on q = rw (kids_more k i end h, ← is, ← of, ne_eqb x l q, any) at inv

pub want_yes : (want r m : Bool) → want ≡ true → r ≡ m → r ≡ not want || m
want_yes want r m t e = rw t e

pub want_no : (want m : Bool) → want ≡ false → true ≡ not want || m
want_no want m t = rw t

-- a kid, by tests that leave
module _ (g ms gr : List ℕ) (want : Bool) (acc : List ℕ) (t : ℕ) (a : Bool) (sa : a ≡ is_solvable (node_in g t)) where
  pub takes_plain : not a ≡ true → false ≡ takes g ms gr want acc t
  unfolding takes
  takes_plain h = rw (← sa, not-true a h)

  module _ (ha : not a ≡ false) (b : Bool) (sb : b ≡ not want || marked_in ms t) where
    pub takes_unwanted : not b ≡ true → false ≡ takes g ms gr want acc t
    unfolding takes
    takes_unwanted h = rw (← sa, not-false a ha, ← sb, not-true b h)

    module _ (hb : not b ≡ false) (m : Bool) (sm : m ≡ merged_at gr t) where
      pub takes_single : not m ≡ true → true ≡ takes g ms gr want acc t
      unfolding takes
      takes_single h = rw (← sa, not-false a ha, ← sb, not-false b hb, ← sm, not-true m h)

      pub takes_group : not m ≡ false → (l : ℕ) (d : Bool) → l ≡ lead_at gr t → d ≡ group_shown gr l acc → not d ≡ takes g ms gr want acc t
      unfolding takes
      takes_group h l d ll dd = rw (← sa, not-false a ha, ← sb, not-false b hb, ← sm, not-false m h, ← ll, ← dd)

unfoldable pub kids_by : List ℕ → List ℕ → List ℕ → Bool → List ℕ → List ℕ → List ℕ
unfolding takes
kids_by g ms gr want acc [] = acc
kids_by g ms gr want acc (t ∷ ts) = elim (takes g ms gr want acc t) [ true ↦ kids_by g ms gr want (t ∷ acc) ts | false ↦ kids_by g ms gr want acc ts ]

pub kids_append : (g ms gr : List ℕ) (want : Bool) (acc ts us : List ℕ)
    → kids_by g ms gr want acc (ts ++ us) ≡ kids_by g ms gr want (kids_by g ms gr want acc ts) us
unfolding kids_by
kids_append g ms gr want acc [] us = refl
kids_append g ms gr want acc (t ∷ ts) us =
    split (takes g ms gr want acc t)
    (λ q. rw (q, kids_by) (kids_append g ms gr want (t ∷ acc) ts us))
    (λ q. rw (q, kids_by) (kids_append g ms gr want acc ts us))

-- ---- a run, as the tables tell it: `no_candidates`, `kids_of` and the wording

unfoldable pub lone_by : List ℕ → List ℕ → Bool
lone_by g ts = eqb (length ts) 1 && all (λ n. is_unresolved (node_in g n)) ts

unfoldable pub kids_for : List ℕ → List ℕ → List ℕ → List ℕ → List ℕ
unfolding lone_by kids_by marked_in
kids_for g ms gr ts = cond (lone_by g ts) [] (kids_by g ms gr (any (marked_in ms) ts) [] ts)

abbrev pub wording_by : Bool → Bool → ℕ
wording_by lone installable = cond lone 0 (cond installable 1 2)

unfoldable pub wording_for : List ℕ → List ℕ → List ℕ → ℕ
unfolding lone_by marked_in
wording_for g ms ts = wording_by (lone_by g ts) (any (marked_in ms) ts)
