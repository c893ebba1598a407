-- How long the display text of a package is, as the tables tell it.
use Rattle.std.specs.Prelude.{◌≡◌, refl, List, [], ◌∷◌, ◌++◌, ℕ, ◌+◌, ◌*◌, ◌-◌, ◌<◌, ◌≤◌, length, ltb}
use Rattle.std.proofs.Common.{sym, ap, ◌∙◌, arith, length-append, length-take, ltb-true, ltb-false}
use Rattle.std.proofs.Math.ListN.{get_or-eq_default}
use Rattle.basis.specs.Members.{split}
use Rattle.basis.specs.Quote.{utf8}
use Rattle.records.specs.declared.Table.{Table}
use Rattle.records.specs.declared.Table.TheVariants.{Names, Solvables}
use Rattle.records.specs.declared.First.{First}
use Rattle.records.specs.declared.First.TheVariants as F
use Rattle.records.specs.Shapes.{Rec}
use Rattle.records.specs.Tables.{Tables, table_of, at, no_rec}
use Rattle.records.specs.Read.{rec_text, tables_of}
use Rattle.records.specs.Views.{name_text, solvable_name, version_text}
use Rattle.index.specs.Promise.{RightFirst, Valid}
use Rattle.index.specs.Index.{Loaded}
use Rattle.index.specs.Found.{loaded_valid}
use Rattle.plan.specs.Fields.{lead_in, mate_in, mate_field, mate_below, mates_from, mates_none, mates_more, mates_less, solvable_in}
use Rattle.plan.specs.Texts.{ends_text, last_of_many, version_in, versions_in, further_in, package_in}
use Rattle.plan.specs.Laws.Texts.{rest_is, ends_are, package_is}

-- ---- "Text is 1 to 24 bytes"

first_short : (k : First) (r : Rec) → RightFirst k r → length (rec_text r) ≤ 24
first_short F.Length r h = h.1
first_short F.Flag r h = omega (arith, length-take r.first r.text)
first_short F.Unused r h = omega (arith, length-take r.first r.text)

text_short : (T : Tables) → Valid T → (t : Table) (i : ℕ) → length (rec_text (at (table_of t T) i)) ≤ 24
text_short T v t i =
    split (ltb i (length (table_of t T)))
    (λ q. let s = v.sound t i (ltb-true i (length (table_of t T)) q) in first_short s.shape.first (at (table_of t T) i) s.right_first)
    (λ q. rw (get_or-eq_default (table_of t T) no_rec (ltb-false i (length (table_of t T)) q)) (omega arith))

module _ (file ix : List ℕ) (l : Loaded file ix) where
  pub version_short : (s r : ℕ) → r ≡ length (version_text (tables_of file) s) → r ≤ 24
  version_short s r q = omega (arith, text_short (tables_of file) (loaded_valid file ix l) Solvables s)

  pub name_short : (n r : ℕ) → r ≡ length (name_text (tables_of file) n) → r ≤ 24
  name_short n r q = omega (arith, text_short (tables_of file) (loaded_valid file ix l) Names n)

module _ (file ix : List ℕ) (l : Loaded file ix) (n : ℕ) (t : List ℕ) (r : ℕ) where
  pub version_length_is : t ≡ version_text (tables_of file) n → r ≡ length t → (r ≡ length (version_text (tables_of file) n)) × (r ≤ 24)
  version_length_is q e = (e ∙ ap length q, version_short file ix l n r (e ∙ ap length q))

  pub name_length_is : t ≡ name_text (tables_of file) n → r ≡ length t → (r ≡ length (name_text (tables_of file) n)) × (r ≤ 24)
  name_length_is q e = (e ∙ ap length q, name_short file ix l n r (e ∙ ap length q))

-- ---- the members behind the first, from member x - 1 on

pub record Counting (T : Tables) (p : List ℕ) (x₁ x c : ℕ) : Type 0 where
  pub small : x < 256
  pub so_far_lem : c + length (versions_in T p (mates_from p x)) ≡ length (versions_in T p (mates_from p x₁))
  pub few : 0 < x → c ≤ 27 * x
  pub most : c ≤ 6912

pub counting_start : (T : Tables) (p : List ℕ) (x : ℕ) → x < 256 → Counting T p x x 0
counting_start T p x h = record { small = h; so_far_lem = omega arith; few = λ l. omega arith; most = omega arith }

next_more : (p : List ℕ) (n : ℕ) → 0 < mate_in p n → n + 1 < mate_in p n
unfolding mate_in
next_more p n h =
    split (ltb (n + 1) (mate_field p n)) (λ t. rw t (ltb-true (n + 1) (mate_field p n) t)) (λ t. absurd (never (rw t at h)))
  where
    never : 0 < 0 → ⊥
    never h = omega arith

versions_size : (T : Tables) (p : List ℕ) (m : ℕ) (ms : List ℕ) → length (versions_in T p (m ∷ ms)) ≡ 3 + length (version_text T (solvable_in p m))
    + length (versions_in T p ms)
unfolding versions_in
versions_size T p m ms = simp length-append (omega arith)

versions_none : (T : Tables) (p : List ℕ) → length (versions_in T p []) ≡ 0
unfolding versions_in
versions_none T p = refl

module _ (file ix : List ℕ) (l : Loaded file ix) (p : List ℕ) (x₁ x c : ℕ) (z : Counting (tables_of file) p x₁ x c) where
  pub counting_less : 0 < x → (y : ℕ) → y ≡ mate_in p (x - 1) → length (mates_from p y) < length (mates_from p x)
  counting_less h y q = rw q (mates_less p x h z.small)

  pub counting_step : 0 < x → (s v y : ℕ) → s ≡ solvable_in p (x - 1) → v ≡ length (version_text (tables_of file) s) → v ≤ 24 → y ≡ mate_in p (x - 1)
      → Counting (tables_of file) p x₁ y (c + (3 + v))
  counting_step h s v y ss vv vl yy =
      let q = ap (λ (ns : List ℕ). length (versions_in (tables_of file) p ns)) (mates_more p x h z.small)
      ∙ versions_size (tables_of file) p (x - 1) (mates_from p (mate_in p (x - 1))) in
      let w : v ≡ length (version_text (tables_of file) (solvable_in p (x - 1))) = vv ∙ ap (λ (a : ℕ). length (version_text (tables_of file) a)) ss in
      let f = z.few h in
      let o = z.small in
      record {
        small = rw yy (mate_below p (x - 1));
        so_far_lem = rw yy (omega (arith, z.so_far_lem));
        few = λ k. let n = next_more p (x - 1) (rw yy at k) in omega arith;
        most = omega arith;
      }

pub counting_end : (T : Tables) (p : List ℕ) (x₁ x c : ℕ) → Counting T p x₁ x c → x ≤ 0 → c ≡ length (versions_in T p (mates_from p x₁))
counting_end T p x₁ x c z h = omega (arith, z.so_far_lem, ap (λ (ns : List ℕ). length (versions_in T p ns)) (mates_none p x h), versions_none T p)

-- ---- what stands behind the first version; l: the last member of a long group, by its number plus one

ends_size : (T : Tables) (a b z : ℕ) → length (ends_text T a b z) ≡ 15 + length (version_text T a) + length (version_text T b) + length (version_text T z)
ends_size T a b z = simp length-append (omega arith)

module _ (T : Tables) (p : List ℕ) (x l : ℕ) (e : l ≡ last_of_many (mates_from p x)) where
  pub rest_size : (r : ℕ) → l ≡ 0 → r ≡ length (versions_in T p (mates_from p x)) → r ≡ length (further_in T p (mates_from p x))
  rest_size r h q = q ∙ ap length (sym (rest_is p x l e T h))

  pub ends_sum : (h : l ≡ 0 → ⊥) (k : x < 256) (y : ℕ) (f : y ≡ mate_in p (x - 1)) (a b d u v w : ℕ) → a ≡ solvable_in p (x - 1) → b ≡ solvable_in p (y - 1)
      → d ≡ solvable_in p (l - 1)
      → u ≡ length (version_text T a) → v ≡ length (version_text T b) → w ≡ length (version_text T d) → 15 + u + v + w ≡ length (further_in T p (mates_from p x))
  ends_sum h k y f a b d u v w ea eb ed eu ev ew =
      rw (eu, ev, ew) (sym (ap length (ends_are p x l e h k y f T a b d ea eb ed) ∙ ends_size T a b d))

-- ---- the whole

-- what is measured is what is written
unfoldable pub size_in : Tables → List ℕ → ℕ → ℕ
size_in T p n = length (package_in T p n)

four : (a v w : List ℕ) → length (a ++ utf8 " " ++ v ++ w) ≡ length a + (1 + (length v + length w))
four a v w = simp length-append (omega arith)

pub size_is : (T : Tables) (p : List ℕ) (n l s t m a v x r : ℕ) → l ≡ lead_in p n → s ≡ solvable_in p n → m ≡ solvable_name T s → a ≡ length (name_text T m)
    → t ≡ solvable_in p l → v ≡ length (version_text T t)
    → x ≡ mate_in p l → r ≡ length (further_in T p (mates_from p x)) → a + (1 + (v + r)) ≡ size_in T p n
unfolding size_in
size_is T p n l s t m a v x r ll ss mm aa tt vv xx rr =
    rw (aa, vv, rr, mm, tt, xx, ss, ll)
    (sym (ap length (package_is T p n) ∙ four (name_text T (solvable_name T (solvable_in p n))) (version_in T p (lead_in p n))
    (further_in T p (mates_from p (mate_in p (lead_in p n))))))
