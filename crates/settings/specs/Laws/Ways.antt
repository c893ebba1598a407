-- The ways through the code of the settings file: a law for each way out of a function.
use Rattle.std.specs.Prelude.{◌≡◌, Bool, not, List, [], ◌∷◌, ◌++◌, get_or, take, drop, leb}
use Rattle.std.proofs.Math.Path.{refl, sym}
use Rattle.std.proofs.Common.{ap, ◌∙◌, append-nil, length-drop, drop_of_length-le, drop-cons, drop-drop, take_all}
use Rattle.std.proofs.Math.Bool.{true, false}
use Prim.Native.Nat.{ℕ, zero, suc, ◌+◌, ◌*◌, ◌-◌, ◌/◌, ◌%◌, ◌≤◌, ◌<◌}
use Rattle.std.proofs.Math.Numerals.{add-one}
use native.Mathlib.Omega.{arith}
use Rattle.std.proofs.Math.ListN.{length}
use Rattle.std.proofs.Math.Dec.{eqb}
use borrow.Author.Tests.{le-leb, lt-leb, leb-true, leb-false, eq-eqb, ne_eqb, not-true, not-false}
use borrow.Rule.Slice.PartMut.{put_mid}
use Rattle.basis.specs.Lists.{all}
use Rattle.basis.specs.Members.{split}
use Rattle.basis.specs.Guard.{guard}
use Rattle.basis.specs.Laws.Guard.{guard_no, guard_yes}
use Rattle.texts.specs.Wrote.{Wrote}
use Rattle.settings.specs.declared.Settings.{Settings}
use Rattle.settings.specs.declared.Change.{Change}
use Rattle.settings.specs.Settings.{Row, row, fits_content, lowest_in, lowest, knows, Choice, choice_of, choices, entries_of, zeros, judged_record}
use Rattle.settings.specs.Settings.{refused, put_by, setting_put, settings_from, settings_of}
use Rattle.settings.specs.Change.{record_of, file_in, refusal, appended}
use Rattle.settings.specs.Laws.Table.{known_lowest, lowest_known}

-- ---- the table, row by row

module _ (s c n l h : ℕ) where
  pub row_other : (s ≡ n → ⊥) → false ≡ fits_content s c n l h
  unfolding fits_content guard
  row_other a = rw (ne_eqb s n a)

  pub row_low : s ≡ n → c < l → false ≡ fits_content s c n l h
  unfolding fits_content guard
  row_low a b = rw (eq-eqb s n a, lt-leb l c b)

  pub row_high : s ≡ n → l ≤ c → leb c h ≡ fits_content s c n l h
  unfolding fits_content guard
  row_high a b = rw (eq-eqb s n a, le-leb l c b)

  module _ (v : ℕ) (rs : List Row) (t : Bool) where
    pub low_here : t ≡ true → t ≡ fits_content s c n l h → v ≡ lowest_in (row v n l h ∷ rs) s c
    unfolding lowest_in
    low_here a e = rw (sym e ∙ a)

    pub low_next : (x : ℕ) → t ≡ false → t ≡ fits_content s c n l h → x ≡ lowest_in rs s c → x ≡ lowest_in (row v n l h ∷ rs) s c
    unfolding lowest_in
    low_next x a e q = rw (sym e ∙ a) q

pub low_none : (s c : ℕ) → 0 ≡ lowest_in [] s c
unfolding lowest_in
low_none s c = refl

pub ruleset lows = (low_here, low_next, low_none)

module _ (v s c l : ℕ) (e : l ≡ lowest s c) where
  pub known_none : l < 1 → false ≡ knows v s c
  known_none h =
      split (knows v s c)
      (λ k. let y = known_lowest v s c k in let z : ⊥ = omega (arith, y.0, e) in absurd z)
      (λ k. sym k)

  pub known_since : 1 ≤ l → leb l v ≡ knows v s c
  known_since h =
      split (leb l v)
      (λ a. a ∙ sym (lowest_known v s c (rw e at h) (rw e at (leb-true l v a))))
      (λ a. split (knows v s c)
      (λ k. let y = known_lowest v s c k in let b = leb-false l v a in let z : ⊥ = omega (arith, y.1, e, b) in absurd z)
      (λ k. a ∙ sym k))

-- ---- a setting by its number

pub put_at_lem : (s n c : ℕ) (x y : Settings) → s ≡ n → y ≡ put_by n c x → y ≡ setting_put s c x
unfolding setting_put
put_at_lem s n c x y e q = rw e q

pub put_none : (s c : ℕ) (x : Settings) → (s ≡ 1 → ⊥) → (s ≡ 2 → ⊥) → (s ≡ 3 → ⊥) → x ≡ setting_put s c x
unfolding setting_put
put_none s c x a b d = rw (ne_eqb s 1 a, ne_eqb s 2 b, ne_eqb s 3 d)

-- ---- zeros

unfoldable pub ZeroLeft : List ℕ → ℕ → Type 0
ZeroLeft s k = zeros (drop k s) ≡ zeros s

module _ (s : List ℕ) where
  pub zero_start : ZeroLeft s 0
  unfolding ZeroLeft
  zero_start = refl

  module _ (k b : ℕ) (inv : ZeroLeft s k) (h : k < length s) where
    pub zero_stop : 0 < b → b ≡ get_or s k 0 → false ≡ zeros s
    unfolding ZeroLeft zeros
    zero_stop l e =
        let z : eqb 0 (get_or s k 0) ≡ false = rw (← e) (ne_eqb 0 b (λ q. let y : 0 ≡ b = q in omega arith)) in
        sym (rw (z, all) at (ap (all (eqb 0)) (drop-cons s k 0 h))) ∙ inv

    pub zero_next : b ≤ 0 → b ≡ get_or s k 0 → ZeroLeft s (k + 1)
    unfolding ZeroLeft zeros
    zero_next l e =
        let z : eqb 0 (get_or s k 0) ≡ true = rw (← e) (eq-eqb 0 b (omega arith)) in
        rw add-one (sym (rw (z, all) at (ap (all (eqb 0)) (drop-cons s k 0 h))) ∙ inv)

  pub zero_end : (k : ℕ) → ZeroLeft s k → length s ≤ k → true ≡ zeros s
  unfolding ZeroLeft zeros
  zero_end k inv h = rw (drop_of_length-le s h) at inv

-- a test of a lent rest, as it is lent
pub rest_via : (s : List ℕ) (t : Bool) → t ≡ zeros (take (length s - 4) (drop 4 s)) → t ≡ zeros (drop 4 s)
rest_via s t e = rw (take_all (length s - 4) (drop 4 s) (rw length-drop (omega arith))) at e

-- ---- one record

module _ (reader : ℕ) (e : Choice) (v : ℕ) (q : v ≡ e.version) where
  pub judge_none : v < 1 → 18 ≡ judged_record reader e
  unfolding judged_record guard
  judge_none h = rw (← q, lt-leb 1 v h)

  pub judge_new : 1 ≤ v → reader < v → 18 ≡ judged_record reader e
  unfolding judged_record guard
  judge_new h l = rw (← q, le-leb 1 v h, lt-leb v reader l)

  module _ (a c : ℕ) (t : Bool) (k : t ≡ knows v a c) (x : a ≡ e.setting) (y : c ≡ e.content) where
    pub judge_bad : 1 ≤ v → v ≤ reader → not t ≡ true → 3 ≡ judged_record reader e
    unfolding judged_record guard
    judge_bad h l n = rw (← q, ← x, ← y, le-leb 1 v h, le-leb v reader l, ← k, not-true t n)

    pub judge_rest : (u : Bool) → 1 ≤ v → v ≤ reader → not t ≡ false → u ≡ zeros e.rest → not u ≡ true → 3 ≡ judged_record reader e
    unfolding judged_record guard
    judge_rest u h l n z m = rw (← q, ← x, ← y, le-leb 1 v h, le-leb v reader l, ← k, not-false t n, ← z, not-true u m)

    pub judge_good : (u : Bool) → 1 ≤ v → v ≤ reader → not t ≡ false → u ≡ zeros e.rest → not u ≡ false → 0 ≡ judged_record reader e
    unfolding judged_record guard
    judge_good u h l n z m = rw (← q, ← x, ← y, le-leb 1 v h, le-leb v reader l, ← k, not-false t n, ← z, not-false u m)

-- ---- all records

-- what the records from number i on make of the settings x
unfoldable pub left_of : ℕ → List ℕ → ℕ → Settings → Settings
left_of reader file i x = settings_from reader (choices (length file / 16 - i) (drop (16 * i) file)) i x

-- record i as it is lent
abbrev pub lent : List ℕ → ℕ → List ℕ
lent file i = take (16 * i + 16 - 16 * i) (drop (16 * i) file)

cut_next : (file : List ℕ) (i : ℕ) → i < length file / 16
    → choices (length file / 16 - i) (drop (16 * i) file) ≡ choice_of (lent file i) ∷ choices (length file / 16 - suc i) (drop (16 * suc i) file)
unfolding choices
cut_next file i h =
    let z : length file / 16 - i ≡ suc (length file / 16 - suc i) = omega arith in
    let y : 16 * i + 16 - 16 * i ≡ 16 = omega arith in
    let x : 16 * i + 16 ≡ 16 * suc i = omega arith in
    rw (z, y, choices, drop-drop, x)

module _ (reader : ℕ) (file : List ℕ) where
  pub left_start : (x : Settings) → left_of reader file 0 x ≡ settings_from reader (entries_of file) 0 x
  unfolding left_of
  left_start x = let z : length file / 16 - 0 ≡ length file / 16 = omega arith in rw z

  module _ (i : ℕ) (x W : Settings) (inv : left_of reader file i x ≡ W) (h : i < length file / 16) (k : ℕ) (q : k
      ≡ judged_record reader (choice_of (lent file i))) where
    pub left_stop : (y : Settings) → (k ≡ 0 → ⊥) → y ≡ refused k i → y ≡ W
    unfolding left_of settings_from
    left_stop y n e = go k (sym q) n e
      where
        go : (k : ℕ) → judged_record reader (choice_of (lent file i)) ≡ k → (k ≡ 0 → ⊥) → y ≡ refused k i → y ≡ W
        go zero z n e = absurd (n refl)
        go (suc k) z n e = e ∙ sym (rw (z, settings_from) at (ap (λ l. settings_from reader l i x) (cut_next file i h))) ∙ inv

    pub left_next : (s c : ℕ) (y : Settings) → k ≡ 0 → y ≡ setting_put s c x → s ≡ (choice_of (lent file i)).setting → c ≡ (choice_of (lent file i)).content
        → left_of reader file (i + 1) y ≡ W
    unfolding left_of settings_from
    left_next s c y z e f g =
        let j : judged_record reader (choice_of (lent file i)) ≡ 0 = sym q ∙ z in
        rw (add-one, e, f, g) (sym (rw (j, settings_from) at (ap (λ l. settings_from reader l i x) (cut_next file i h))) ∙ inv)

  pub left_end : (i : ℕ) (x W : Settings) → left_of reader file i x ≡ W → length file / 16 ≤ i → x ≡ W
  unfolding left_of settings_from choices
  left_end i x W inv h = let z : length file / 16 - i ≡ 0 = omega arith in rw z at inv

-- ---- one record behind the file

behind_file : (t room e : List ℕ) (used n : ℕ) → Wrote t (take (length room - used) (drop used room)) e n
    → put_mid used (length room - used) room e ≡ take used room ++ (t ++ drop (used + length t) room)
behind_file t room e used n W =
    let all : take (length room - used) (drop used room) ≡ drop used room = take_all (length room - used) (drop used room) (rw length-drop (omega arith)) in
    let none : drop (length room - used) (drop used room) ≡ [] = drop_of_length-le (drop used room) {i = length room - used} (rw length-drop (omega arith)) in
    rw (W.leaves, all, none, append-nil, drop-drop)

pub append_via : (s c used : ℕ) (room e : List ℕ) (w n : ℕ) → w ≡ lowest s c
    → Wrote ((w % 256) ∷ (s % 256) ∷ (c % 256) ∷ (c / 256 % 256) ∷ 0 ∷ 0 ∷ 0 ∷ 0 ∷ 0 ∷ 0 ∷ 0 ∷ 0 ∷ 0 ∷ 0 ∷ 0 ∷ 0 ∷ [])
    (take (length room - used) (drop used room)) e n
    → put_mid used (length room - used) room e ≡ appended room used s c
unfolding appended record_of file_in
append_via s c used room e w n q W = rw (← q) (behind_file _ room e used n W)

-- ---- refusals: y is what the code answers, or leaves

module _ {X : Type 0} (y bad on : X) where
  pub le_no : (a b : ℕ) → b < a → y ≡ bad → y ≡ guard (leb a b) bad on
  le_no a b h e = e ∙ guard_no bad on (leb a b) (lt-leb a b h)

  pub le_yes : (a b : ℕ) → a ≤ b → y ≡ on → y ≡ guard (leb a b) bad on
  le_yes a b h e = guard_yes bad on (leb a b) y (le-leb a b h) e

  pub eq_no : (a b : ℕ) → (a ≡ b → ⊥) → y ≡ bad → y ≡ guard (eqb a b) bad on
  eq_no a b h e = e ∙ guard_no bad on (eqb a b) (ne_eqb a b h)

  pub eq_yes : (a b : ℕ) → a ≡ b → y ≡ on → y ≡ guard (eqb a b) bad on
  eq_yes a b h e = guard_yes bad on (eqb a b) y (eq-eqb a b h) e

  pub flag_no : (t b : Bool) → t ≡ b → not t ≡ true → y ≡ bad → y ≡ guard b bad on
  flag_no t b q h e = e ∙ guard_no bad on b (sym q ∙ not-true t h)

  pub flag_yes : (t b : Bool) → t ≡ b → not t ≡ false → y ≡ on → y ≡ guard b bad on
  flag_yes t b q h e = guard_yes bad on b y (sym q ∙ not-false t h) e

pub ruleset tests = (le_no, le_yes, eq_no, eq_yes, flag_no, flag_yes)

-- the file in the room is refused, or not
module _ (v used : ℕ) (room : List ℕ) (x : Settings) (q : x ≡ settings_of v (take (used - 0) (drop 0 room))) where
  held : x ≡ settings_of v (file_in room used)
  unfolding file_in
  held = let z : used - 0 ≡ used = omega arith in rw z at q

  pub file_no : (y on : Change) → (x.number ≡ 0 → ⊥) → y ≡ refusal x.number x.place
      → y ≡ guard (eqb (settings_of v (file_in room used)).number 0) (refusal (settings_of v (file_in room used)).number (settings_of v (file_in room used)).place)
      on
  file_no y on h e = rw (← held) (eq_no y (refusal x.number x.place) on x.number 0 h e)

  pub file_kept : {X : Type 0} (y bad on : X) → (x.number ≡ 0 → ⊥) → y ≡ bad → y ≡ guard (eqb (settings_of v (file_in room used)).number 0) bad on
  file_kept y bad on h e = rw (← held) (eq_no y bad on x.number 0 h e)

  pub file_yes : {X : Type 0} (y bad on : X) → x.number ≡ 0 → y ≡ on → y ≡ guard (eqb (settings_of v (file_in room used)).number 0) bad on
  file_yes y bad on h e = rw (← held) (eq_yes y bad on x.number 0 h e)
