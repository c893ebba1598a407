-- Laws of a package's text: what is left out of a long group, and how code finds the last of its members.
use Rattle.std.specs.Prelude.{◌≡◌, Option, Some, None, IsSome, ℕ, zero, suc, ◌+◌, ◌-◌, ◌<◌, ◌≤◌, length, ltb}
use Rattle.std.proofs.Math.Path.{refl, ap}
use Rattle.std.proofs.Common.{sym, ◌∙◌, inl, inr, not-suc-le-zero, arith, ltb-true, ltb-false, lt-ltb, le-ltb}
use mathlib.Core.List.{List, [], ◌∷◌, ◌++◌, map, append_assoc, append-nil}
use Rattle.std.proofs.lemmas.List.{length-map}
use Rattle.basis.specs.Lists.{concat_map}
use Rattle.basis.specs.Members.{In, split}
use Rattle.basis.specs.Quote.{utf8}
use Rattle.records.specs.Tables.{Tables}
use Rattle.records.specs.Views.{name_text, solvable_name, version_text}
use Rattle.plan.specs.Plan.{Shown}
use Rattle.plan.specs.Display.{solvable_of, version_of, last_text, displayed, joined_by, members_of, package_text}
use Rattle.plan.specs.Fields.{solvable_in, members_in, lead_in, one_more, mate_in, mate_below, mates_by, mates_from, mates_none, mates_more, mates_less}
use Rattle.plan.specs.Texts.{next_version, ends_text, last_more, last_of_many, version_in, versions_in, further_in, package_in}

-- ---- the display

-- "A group of more than six": up to six nothing changes
pub displayed_few : (vs : List (List ℕ)) → length vs ≤ 6 → displayed vs ≡ vs
displayed_few vs h = rw (le-ltb 6 (length vs) h)

pub displayed_many : (a b c : List ℕ) (vs : List (List ℕ)) → 4 ≤ length vs → displayed (a ∷ b ∷ c ∷ vs) ≡ a ∷ b ∷ c ∷ utf8 "..." ∷ last_text c vs ∷ []
displayed_many a b c vs h = rw (lt-ltb 6 (length (a ∷ b ∷ c ∷ vs)) (omega arith))

-- ---- the last member, by its number plus one

last_of : (v : ℕ → List ℕ) (n : ℕ) (ns : List ℕ) → last_text (v n) (map v ns) ≡ v (last_more (n + 1) ns - 1)
last_of v n [] = let z : n + 1 - 1 ≡ n = omega arith in rw z
last_of v n (m ∷ ns) = last_of v m ns

last_some : (n : ℕ) (ns : List ℕ) → 0 < last_more (n + 1) ns
last_some n [] = omega arith
last_some n (m ∷ ns) = last_some m ns

pub many_is : (ns : List ℕ) → 5 < length ns → last_of_many ns ≡ last_more 0 ns
unfolding last_of_many
many_is ns h = rw (lt-ltb 5 (length ns) h)

pub few_is : (ns : List ℕ) → length ns ≤ 5 → last_of_many ns ≡ 0
unfolding last_of_many
few_is ns h = rw (le-ltb 5 (length ns) h)

many_last : (ns : List ℕ) → 5 < length ns → last_of_many ns ≡ 0 → ⊥
many_last [] h e = omega arith
many_last (n ∷ ns) h e = let a = last_some n ns in let b = many_is (n ∷ ns) h in omega arith

-- as code tells a long group from a short one
pub many_by : (ns : List ℕ) (l : ℕ) → l ≡ last_of_many ns → (l ≡ 0 → ⊥) → 5 < length ns
many_by ns l e h = split (ltb 5 (length ns)) (λ t. ltb-true 5 (length ns) t) (λ t. absurd (h (e ∙ few_is ns (ltb-false 5 (length ns) t))))

pub few_by : (ns : List ℕ) (l : ℕ) → l ≡ last_of_many ns → l ≡ 0 → length ns ≤ 5
few_by ns l e h = split (ltb 5 (length ns)) (λ t. absurd (many_last ns (ltb-true 5 (length ns) t) (sym e ∙ h))) (λ t. ltb-false 5 (length ns) t)

-- ---- the text behind the first version

module _ (T : Tables) (p : List ℕ) where
  further_few : (ns : List ℕ) → length ns ≤ 5 → further_in T p ns ≡ versions_in T p ns
  unfolding further_in
  further_few ns h = rw (le-ltb 5 (length ns) h)

  further_many : (a b : ℕ) (ns : List ℕ) → 5 < length (a ∷ b ∷ ns)
      → further_in T p (a ∷ b ∷ ns) ≡ ends_text T (solvable_in p a) (solvable_in p b) (solvable_in p (last_of_many (a ∷ b ∷ ns) - 1))
  unfolding further_in
  further_many a b ns h = rw (lt-ltb 5 (length (a ∷ b ∷ ns)) h)

  row_is : (ns : List ℕ) → concat_map (λ (w : List ℕ). utf8 " | " ++ w) (map (version_in T p) ns) ≡ versions_in T p ns
  unfolding versions_in
  row_is [] = refl
  row_is (n ∷ ns) = ap (λ (l : List ℕ). next_version T (solvable_in p n) ++ l) (row_is ns)

  -- s: what stands between two versions
  ends_row : (s dots v a b z : List ℕ) → v ++ ((s ++ a) ++ ((s ++ b) ++ ((s ++ dots) ++ ((s ++ z) ++ [])))) ≡ v
      ++ ((s ++ a) ++ (s ++ b) ++ (s ++ dots) ++ (s ++ z))
  ends_row s dots v a b z = simp (append_assoc, append-nil)

  ends_is : (v a b z : List ℕ) → joined_by (v ∷ a ∷ b ∷ utf8 "..." ∷ z ∷ []) ≡ v
      ++ ((utf8 " | " ++ a) ++ (utf8 " | " ++ b) ++ utf8 " | ..." ++ (utf8 " | " ++ z))
  ends_is v a b z = ends_row (utf8 " | ") (utf8 "...") v a b z

  pub joined_is : (n : ℕ) (ns : List ℕ) → joined_by (displayed (map (version_in T p) (n ∷ ns))) ≡ version_in T p n ++ further_in T p ns
  joined_is n ns = split (ltb 5 (length ns)) (λ t. many ns (ltb-true 5 (length ns) t)) (λ t. few (ltb-false 5 (length ns) t))
    where
      few : length ns ≤ 5 → joined_by (displayed (map (version_in T p) (n ∷ ns))) ≡ version_in T p n ++ further_in T p ns
      few h =
          ap joined_by (displayed_few (map (version_in T p) (n ∷ ns)) (omega (arith, length-map (n ∷ ns) (version_in T p))))
          ∙ ap (λ (l : List ℕ). version_in T p n ++ l) (row_is ns ∙ sym (further_few ns h))

      many : (ns : List ℕ) → 5 < length ns → joined_by (displayed (map (version_in T p) (n ∷ ns))) ≡ version_in T p n ++ further_in T p ns
      many [] h = absurd (not-suc-le-zero h)
      many (a ∷ []) h = let z : ⊥ = omega arith in absurd z
      many (a ∷ b ∷ ms) h =
          let l : last_text (version_in T p b) (map (version_in T p) ms) ≡ version_in T p (last_of_many (a ∷ b ∷ ms) - 1) =
          last_of (version_in T p) b ms ∙ ap (λ (x : ℕ). version_in T p (x - 1)) (sym (many_is (a ∷ b ∷ ms) h)) in
          ap joined_by (displayed_many (version_in T p n) (version_in T p a) (version_in T p b) (map (version_in T p) ms) (omega (
            arith,
            length-map ms (version_in T p),
          )))
          ∙ ends_is (version_in T p n) (version_in T p a) (version_in T p b) (last_text (version_in T p b) (map (version_in T p) ms))
          ∙ rw (l, further_many a b ms h)

-- ---- a chain of members that is walked; x: the next by its number plus one, c: how many there were, l: the last of them

mates_few : (p : List ℕ) (c x : ℕ) → length (mates_by p c x) ≤ c
mates_few p zero x = omega arith
mates_few p (suc c) zero = omega arith
mates_few p (suc c) (suc n) = let h = mates_few p c (mate_in p n) in omega arith

pub record Passing (p : List ℕ) (x₁ x c l : ℕ) : Type 0 where
  pub small : x < 256
  pub so_far_lem : c + length (mates_from p x) ≡ length (mates_from p x₁)
  pub few : length (mates_from p x₁) ≤ 256
  pub last : last_more l (mates_from p x) ≡ last_more 0 (mates_from p x₁)
  pub most : c ≤ 256
  pub low : l < 256

pub passing_start : (p : List ℕ) (x : ℕ) → x < 256 → Passing p x x 0 0
unfolding mates_from
passing_start p x h =
    record { small = h; so_far_lem = omega arith; few = (let k = mates_few p (256 - x) x in omega arith); last = refl; most = omega arith; low = omega arith }

module _ (p : List ℕ) (x₁ x c l : ℕ) (z : Passing p x₁ x c l) where
  fewer : 0 < x → c < 256
  fewer h = let a = z.so_far_lem in let b = z.few in let k = mates_less p x h z.small in omega arith

  pub passing_less : 0 < x → (y : ℕ) → y ≡ mate_in p (x - 1) → length (mates_from p y) < length (mates_from p x)
  passing_less h y e = rw e (mates_less p x h z.small)

  pub passing_step : 0 < x → (y : ℕ) → y ≡ mate_in p (x - 1) → Passing p x₁ y (c + 1) x
  passing_step h y e =
      let m = mates_more p x h z.small in
      let n : length (mates_from p x) ≡ suc (length (mates_from p (mate_in p (x - 1)))) = ap length m in
      let w : x - 1 + 1 ≡ x = omega arith in
      let q : last_more l (mates_from p x) ≡ last_more x (mates_from p (mate_in p (x - 1))) = ap (last_more l) m
      ∙ ap (λ (d : ℕ). last_more d (mates_from p (mate_in p (x - 1)))) w in
      record {
        small = rw e (mate_below p (x - 1));
        so_far_lem = rw e (omega (arith, z.so_far_lem));
        few = z.few;
        last = rw e (sym q ∙ z.last);
        most = (let k = fewer h in omega arith);
        low = z.small;
      }

  module _ (h : x ≤ 0) where
    counted : c ≡ length (mates_from p x₁)
    counted = let a = ap length (mates_none p x h) in omega (arith, z.so_far_lem)

    last_is : l ≡ last_more 0 (mates_from p x₁)
    last_is = ap (last_more l) (sym (mates_none p x h)) ∙ z.last

    pub passing_many : 5 < c → l ≡ last_of_many (mates_from p x₁)
    passing_many t = last_is ∙ sym (many_is (mates_from p x₁) (let a = counted in omega arith))

    pub passing_few : c ≤ 5 → 0 ≡ last_of_many (mates_from p x₁)
    passing_few t = sym (few_is (mates_from p x₁) (let a = counted in omega arith))

-- ---- a member as code finds it

pub some_there : (o : Option ℕ) → 1 ≤ one_more o → IsSome o
some_there None h = absurd (not-suc-le-zero h)
some_there (Some n) h = refl

pub one_more_one : (a b : Option ℕ) → one_more a ≡ one_more b → a ≡ b
one_more_one None None e = refl
one_more_one None (Some n) e = absurd (omega arith)
one_more_one (Some m) None e = absurd (omega arith)
one_more_one (Some m) (Some n) e = let h : m ≡ n = omega arith in ap Some h

pub one_more_less : (o : Option ℕ) (n : ℕ) → o ≡ Some n → one_more o - 1 ≡ n
one_more_less o n e = rw e (omega arith)

-- ---- a long group's members as code finds them; l: the last by its number plus one

module _ (p : List ℕ) (x l : ℕ) (e : l ≡ last_of_many (mates_from p x)) where
  pub first_there : (l ≡ 0 → ⊥) → 1 ≤ x
  first_there h =
      let a = many_by (mates_from p x) l e h in
      split (ltb 0 x) (λ t. ltb-true 0 x t) (λ t. let b = ap length (mates_none p x (ltb-false 0 x t)) in let z : ⊥ = omega arith in absurd z)

  module _ (h : l ≡ 0 → ⊥) (k : x < 256) (y : ℕ) (f : y ≡ mate_in p (x - 1)) where
    first_is : mates_from p x ≡ (x - 1) ∷ mates_from p y
    first_is = mates_more p x (first_there h) k ∙ rw f

    pub second_there : 1 ≤ y
    second_there =
        let a = many_by (mates_from p x) l e h in
        let b = ap length first_is in
        split (ltb 0 y) (λ t. ltb-true 0 y t) (λ t. let d = ap length (mates_none p y (ltb-false 0 y t)) in let z : ⊥ = omega arith in absurd z)

    both_are : mates_from p x ≡ (x - 1) ∷ (y - 1) ∷ mates_from p (mate_in p (y - 1))
    both_are = first_is ∙ ap (λ (m : List ℕ). (x - 1) ∷ m) (mates_more p y second_there (rw f (mate_below p (x - 1))))

    -- a, b, d: the solvables of the second member, the third and the last
    pub ends_are : (T : Tables) (a b d : ℕ) → a ≡ solvable_in p (x - 1) → b ≡ solvable_in p (y - 1) → d ≡ solvable_in p (l - 1)
        → further_in T p (mates_from p x) ≡ ends_text T a b d
    ends_are T a b d ea eb ed =
        let m = both_are in
        let n : 5 < length ((x - 1) ∷ (y - 1) ∷ mates_from p (mate_in p (y - 1))) = rw m at (many_by (mates_from p x) l e h) in
        let u : last_of_many ((x - 1) ∷ (y - 1) ∷ mates_from p (mate_in p (y - 1))) ≡ l = ap last_of_many (sym m) ∙ sym e in
        ap (further_in T p) m ∙ further_many T p (x - 1) (y - 1) (mates_from p (mate_in p (y - 1))) n ∙ rw (u, ea, eb, ed)

  pub rest_is : (T : Tables) → l ≡ 0 → further_in T p (mates_from p x) ≡ versions_in T p (mates_from p x)
  rest_is T h = further_few T p (mates_from p x) (few_by (mates_from p x) l e h)

-- ---- the text of the packed plan is the text

map_agree : (v w : ℕ → List ℕ) (ns : List ℕ) → ((x : ℕ) → In x ns → v x ≡ w x) → map v ns ≡ map w ns
map_agree v w [] f = refl
map_agree v w (n ∷ ns) f = rw (f n (inl refl), map_agree v w ns (λ x i. f x (inr i)))

-- where both name the same members with the same solvables
pub package_agrees : (T : Tables) (S : Shown) (p : List ℕ) (n : ℕ) → T ≡ S.tables → members_in p n ≡ members_of S n → solvable_in p n ≡ solvable_of S n
    → ((x : ℕ) → In x (members_of S n) → solvable_in p x ≡ solvable_of S x) → package_in T p n ≡ package_text S n
unfolding package_in
package_agrees T S p n t m s f =
    rw (t, m, s, map_agree (version_in S.tables p) (version_of S) (members_of S n) (λ x i. ap (version_text S.tables) (f x i)))

pub package_alike : (T : Tables) (p q : List ℕ) (n : ℕ) → members_in q n ≡ members_in p n → ((x : ℕ) → solvable_in q x ≡ solvable_in p x)
    → package_in T q n ≡ package_in T p n
unfolding package_in
package_alike T p q n m f =
    rw (m, f n, map_agree (version_in T q) (version_in T p) (members_in p n) (λ x i. ap (version_text T) (f x)))

-- l: the first member
pub package_is : (T : Tables) (p : List ℕ) (n : ℕ) → package_in T p n
    ≡ name_text T (solvable_name T (solvable_in p n)) ++ utf8 " " ++ version_in T p (lead_in p n) ++ further_in T p (mates_from p (mate_in p (lead_in p n)))
unfolding package_in members_in lead_in
package_is T p n =
    let z : lead_in p n + 1 - 1 ≡ lead_in p n = omega arith in
    let m : members_in p n ≡ lead_in p n ∷ mates_from p (mate_in p (lead_in p n)) = mates_more p (lead_in p n + 1) (omega arith) (omega arith) ∙ rw z in
    ap (λ (l : List ℕ). name_text T (solvable_name T (solvable_in p n)) ++ utf8 " " ++ joined_by (displayed (map (version_in T p) l))) m
    ∙ ap (λ (l : List ℕ). name_text T (solvable_name T (solvable_in p n)) ++ utf8 " " ++ l) (joined_is T p (lead_in p n) (mates_from p (mate_in p (lead_in p n))))
    ∙ sym (append_assoc (name_text T (solvable_name T (solvable_in p n))
    ++ utf8 " ") (version_in T p (lead_in p n)) (further_in T p (mates_from p (mate_in p (lead_in p n)))))
