-- Laws of a package's text, one for each way out.
use Rattle.std.specs.Prelude.{◌≡◌, refl, List, [], ◌++◌, ℕ, ◌+◌, ◌-◌, ◌≤◌, ◌<◌, length, take, drop}
use Rattle.std.proofs.Common.{ap, ◌∙◌, append-nil, append_assoc, arith, length-append, length-take, length-drop}
use borrow.Rule.Slice.PartMut.{put_mid}
use Rattle.basis.specs.Quote.{utf8}
use Rattle.records.specs.Tables.{Tables}
use Rattle.records.specs.Views.{name_text, solvable_name, version_text}
use Rattle.texts.specs.Wrote.{Wrote}
use Rattle.texts.specs.Laws.Wrote.{wrote_none, wrote_length, behind}
use Rattle.plan.specs.Fields.{solvable_in, lead_in, mate_in, mates_from, mates_none, mates_more, mates_less}
use Rattle.plan.specs.Texts.{next_version, ends_text, last_of_many, versions_in, further_in, package_in}
use Rattle.plan.specs.Laws.Texts.{package_is, rest_is, ends_are}

-- ---- a text that is written piece by piece: what is done, and what is left

pub record Along (whole rest room left : List ℕ) (at : ℕ) : Type 0 where
  pub done : List ℕ
  pub wrote : Wrote done room left at
  pub is : whole ≡ done ++ rest

pub along_start : (t o : List ℕ) → Along t t o o 0
along_start t o = record { done = []; wrote = wrote_none; is = refl }

module _ (whole rest o d : List ℕ) (n : ℕ) (w : Along whole rest o d n) where
  along_within : n + length rest ≡ length whole
  along_within = let c = w.wrote.count in rw (w.is, length-append) (omega arith)

  part_length : length whole ≤ length o → length (take (length d - n) (drop n d)) ≡ length o - n
  part_length h =
      let a = wrote_length w.wrote in
      let b = along_within in
      rw (length-take, length-drop) (omega arith)

  module _ (u rest' : List ℕ) (e : rest ≡ u ++ rest') where
    pub along_room : length whole ≤ length o → length u ≤ length (take (length d - n) (drop n d))
    along_room h =
        let a = along_within in
        let b : length rest ≡ length u + length rest' = rw (e, length-append) in
        rw (part_length h) (omega arith)

    pub along_next : (x : List ℕ) (m : ℕ) → Wrote u (take (length d - n) (drop n d)) x m → Along whole rest' o (put_mid n (length d - n) d x) (n + m)
    along_next x m v = record { done = w.done ++ u; wrote = behind w.wrote v; is = rw (append_assoc, ← e) w.is }

  pub along_end : rest ≡ [] → Wrote whole o d n
  along_end e = rw (w.is, e, append-nil) w.wrote

-- ---- the versions of a group

pub version_room : (t v : List ℕ) (n : ℕ) → t ≡ v → 3 + length v ≤ n → 3 + length t ≤ n
version_room t v n e h = rw e h

pub version_count : (T : Tables) (s r : ℕ) (t : List ℕ) → t ≡ version_text T s → r ≡ 3 + length t → r ≡ 3 + length (version_text T s)
version_count T s r t e q = rw (← e) q

pub version_wrote : (T : Tables) (s : ℕ) (t o d : List ℕ) (r : ℕ) → t ≡ version_text T s → Wrote (utf8 " | " ++ t) o d r → Wrote (next_version T s) o d r
version_wrote T s t o d r e w = rw e at w

ends_size : (T : Tables) (a b z : ℕ) → length (ends_text T a b z) ≡ 15 + length (version_text T a) + length (version_text T b) + length (version_text T z)
ends_size T a b z = simp length-append (omega arith)

-- how many members are left
unfoldable pub mates_left : List ℕ → ℕ → ℕ
mates_left p y = length (mates_from p y)

pub versions_less : (p : List ℕ) (y z : ℕ) → z ≡ mate_in p (y - 1) → 0 < y → y < 256 → mates_left p z < mates_left p y
unfolding mates_left
versions_less p y z e h k = rw e (mates_less p y h k)

module _ (T : Tables) (p : List ℕ) where
  versions_none : (y : ℕ) → y ≤ 0 → versions_in T p (mates_from p y) ≡ []
  unfolding versions_in
  versions_none y h = rw (mates_none p y h)

  versions_more : (y : ℕ) → 0 < y → y < 256 → versions_in T p (mates_from p y) ≡ next_version T (solvable_in p (y - 1))
      ++ versions_in T p (mates_from p (mate_in p (y - 1)))
  unfolding versions_in
  versions_more y h k = rw (mates_more p y h k)

  module _ (whole o d : List ℕ) (n y : ℕ) (w : Along whole (versions_in T p (mates_from p y)) o d n) where
    module _ (s : ℕ) (e : s ≡ solvable_in p (y - 1)) (h : 0 < y) (k : y < 256) where
      more : versions_in T p (mates_from p y) ≡ next_version T s ++ versions_in T p (mates_from p (mate_in p (y - 1)))
      more = rw e (versions_more y h k)

      pub versions_room : length whole ≤ length o → 3 + length (version_text T s) ≤ length (take (length d - n) (drop n d))
      versions_room r =
          let a : length (next_version T s) ≤ length (take (length d - n) (drop n d)) =
          along_room whole (versions_in T p (mates_from p y)) o d n w (next_version T s) (versions_in T p (mates_from p (mate_in p (y - 1)))) more r in
          omega arith

      pub versions_next : (x : List ℕ) (m z : ℕ) → Wrote (next_version T s) (take (length d - n) (drop n d)) x m → z ≡ mate_in p (y - 1)
          → Along whole (versions_in T p (mates_from p z)) o (put_mid n (length d - n) d x) (n + m)
      versions_next x m z v q =
          rw q (along_next whole (versions_in T p (mates_from p y)) o d n w (next_version T s) (versions_in T p (mates_from p (mate_in p (y - 1)))) more x m v)

    pub versions_end : y ≤ 0 → Wrote whole o d n
    versions_end h = along_end whole (versions_in T p (mates_from p y)) o d n w (versions_none y h)

  -- ---- what stands behind the first version; l: the last member of a long group, by its number plus one

  module _ (x l : ℕ) (e : l ≡ last_of_many (mates_from p x)) where
    pub rest_room : (n : ℕ) → l ≡ 0 → length (further_in T p (mates_from p x)) ≤ n → length (versions_in T p (mates_from p x)) ≤ n
    rest_room n z h = rw (rest_is p x l e T z) at h

    pub rest_wrote : (o d : List ℕ) (r : ℕ) → l ≡ 0 → Wrote (versions_in T p (mates_from p x)) o d r → Wrote (further_in T p (mates_from p x)) o d r
    rest_wrote o d r z w = rw (rest_is p x l e T z) w

    module _ (h : l ≡ 0 → ⊥) (k : x < 256) (y : ℕ) (f : y ≡ mate_in p (x - 1)) (a b d : ℕ) (ea : a ≡ solvable_in p (x - 1)) (eb : b
        ≡ solvable_in p (y - 1)) (ed : d ≡ solvable_in p (l - 1)) where
      pub ends_room : (n : ℕ) → length (further_in T p (mates_from p x)) ≤ n
          → 15 + length (version_text T a) + length (version_text T b) + length (version_text T d) ≤ n
      ends_room n w =
          let s : length (further_in T p (mates_from p x)) ≡ length (ends_text T a b d) = ap length (ends_are p x l e h k y f T a b d ea eb ed) in
          let t : length (ends_text T a b d) ≡ 15 + length (version_text T a) + length (version_text T b) + length (version_text T d) = ends_size T a b d in
          omega arith

      pub ends_wrote : (o c : List ℕ) (r : ℕ) → Wrote (ends_text T a b d) o c r → Wrote (further_in T p (mates_from p x)) o c r
      ends_wrote o c r w = rw (ends_are p x l e h k y f T a b d ea eb ed) w

  -- ---- the package's text; l: the first member, y: what follows it

  module _ (n l y s m v : ℕ) (name version : List ℕ) (li : l ≡ lead_in p n) (yi : y ≡ mate_in p l) (si : s ≡ solvable_in p n) (mi : m
      ≡ solvable_name T s) (ni : name ≡ name_text T m)
      (vi : v ≡ solvable_in p l) (ei : version ≡ version_text T v) where
    pieces : package_in T p n ≡ (name ++ utf8 " " ++ version) ++ further_in T p (mates_from p y)
    pieces = package_is T p n ∙ rw (ni, ei, mi, si, vi, yi, li)

    package_size : length (package_in T p n) ≡ length name + 1 + length version + length (further_in T p (mates_from p y))
    package_size = rw (pieces, length-append, length-append, length-append)

    pub package_room : (o : List ℕ) → length (package_in T p n) ≤ length o → length name + 1 + length version + length (further_in T p (mates_from p y)) ≤ length o
    package_room o h = let a = package_size in omega arith

    pub package_wrote : (o d : List ℕ) (r : ℕ) → Wrote ((name ++ utf8 " " ++ version) ++ further_in T p (mates_from p y)) o d r → Wrote (package_in T p n) o d r
    package_wrote o d r w = rw pieces w
