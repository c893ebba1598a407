-- Records one behind another: what the reader makes of a good one, of the first that is bad, and of the one that a change appends.
use Rattle.std.specs.Prelude.{◌≡◌, true, List, [], ◌∷◌, ◌++◌, ℕ, zero, suc, ◌+◌, ◌*◌, ◌/◌, ◌%◌, ◌≤◌, ◌<◌, length, take, drop, eqb, leb}
use Rattle.std.proofs.Math.Path.{refl}
use Rattle.std.proofs.Common.{sym, ap, ◌∙◌, arith, length-append, length-drop}
use Rattle.std.proofs.Math.Nat.{mod-eq_of_lt}
use Rattle.std.proofs.lemmas.List.{take-append-le, drop-append-le}
use borrow.Author.Tests.{le-leb, leb-true, eq-eqb, eqb-true}
use Rattle.basis.specs.Guard.{guard}
use Rattle.basis.specs.Members.{split, All}
use Rattle.settings.specs.declared.Settings.{Settings}
use Rattle.settings.specs.Settings.{newest_in, lowest, knows, Choice, choice_of, choices, entries_of, zeros, judged_record, refused, setting_put}
use Rattle.settings.specs.Settings.{defaults, settings_from, settings_of}
use Rattle.settings.specs.Change.{record_of}
use Rattle.settings.specs.Laws.Table.{known_lowest, lowest_knows, known_small, lowest_small}

-- ---- the records of a list

-- a record that reader r takes
abbrev pub Good : ℕ → Choice → Type 0
Good r e = judged_record r e ≡ 0

-- all the changes that records make, one after the other
unfoldable pub puts : List Choice → Settings → Settings
puts [] x = x
puts (e ∷ es) x = puts es (setting_put e.setting e.content x)

-- good records are read by their changes, and what stands behind them is read over those
pub read_good : (r : ℕ) (es fs : List Choice) (i : ℕ) (x : Settings) → All (Good r) es
    → settings_from r (es ++ fs) i x ≡ settings_from r fs (i + length es) (puts es x)
unfolding settings_from puts
read_good r [] fs i x h = let z : i + 0 ≡ i = omega arith in rw z
read_good r (e ∷ es) fs i x h =
    let z : suc i + length es ≡ i + suc (length es) = omega arith in
    rw (h.0, settings_from) (read_good r es fs (suc i) (setting_put e.setting e.content x) h.1
    ∙ ap (λ (j : ℕ). settings_from r fs j (puts es (setting_put e.setting e.content x))) z)

pub read_all : (r : ℕ) (es : List Choice) (x : Settings) → All (Good r) es → settings_from r es 0 x ≡ puts es x
unfolding settings_from puts
read_all r es x h = ends r es 0 x h
  where
    ends : (r : ℕ) (es : List Choice) (i : ℕ) (x : Settings) → All (Good r) es → settings_from r es i x ≡ puts es x
    ends r [] i x h = refl
    ends r (e ∷ es) i x h = rw (h.0, settings_from) (ends r es (suc i) (setting_put e.setting e.content x) h.1)

-- the first bad record is the place of its refusal
pub read_bad : (r : ℕ) (es : List Choice) (e : Choice) (fs : List Choice) (k : ℕ) (x : Settings) → All (Good r) es → judged_record r e ≡ suc k
    → settings_from r (es ++ (e ∷ fs)) 0 x ≡ refused (suc k) (length es)
unfolding settings_from
read_bad r es e fs k x h g = read_good r es (e ∷ fs) 0 x h ∙ stops (0 + length es) ∙ ap (refused (suc k)) (let z : 0 + length es ≡ length es = omega arith in z)
  where
    stops : (i : ℕ) → settings_from r (e ∷ fs) i (puts es x) ≡ refused (suc k) i
    stops i = rw (g, settings_from)

-- put keeps that nothing is refused
pub put_number : (s c : ℕ) (x : Settings) → (setting_put s c x).number ≡ x.number
unfolding setting_put
put_number s c x = split (eqb s 1) (λ a. rw a) (λ a. rw a (split (eqb s 2) (λ b. rw b) (λ b. rw b (split (eqb s 3) (λ d. rw d) (λ d. rw d)))))

read_cons : (r : ℕ) (e : Choice) (es : List Choice) (i : ℕ) (x : Settings) (k : ℕ) → judged_record r e ≡ k → (settings_from r (e ∷ es) i x).number ≡ 0
    → (judged_record r e ≡ 0) × ((settings_from r es (suc i) (setting_put e.setting e.content x)).number ≡ 0)
unfolding settings_from
read_cons r e es i x zero q h = (q, rw (q, settings_from) at h)
read_cons r e es i x (suc k) q h = let z : suc k ≡ 0 = rw (q, settings_from) at h in let y : ⊥ = omega arith in absurd y

-- what is taken has good records only
pub taken_good : (r : ℕ) (es : List Choice) (i : ℕ) (x : Settings) → (settings_from r es i x).number ≡ 0 → All (Good r) es
taken_good r [] i x h = tt
taken_good r (e ∷ es) i x h =
    let c = read_cons r e es i x (judged_record r e) refl h in (c.0, taken_good r es (suc i) (setting_put e.setting e.content x) c.1)

-- ---- the length of a file

-- a file whose length passes is read record by record
pub opened : (r : ℕ) (file : List ℕ) → 1 ≤ r → r ≤ 2 → length file ≤ 4096 → length file % 16 ≡ 0
    → settings_of r file ≡ settings_from r (entries_of file) 0 defaults
unfolding settings_of guard newest_in
opened r file a b d e = rw (le-leb _ _ a, le-leb _ _ b, le-leb _ _ d, eq-eqb _ _ e)

-- what a reader that does not refuse the file knows of it
pub taken : (r : ℕ) (file : List ℕ) → (settings_of r file).number ≡ 0
    → (1 ≤ r) × (r ≤ 2) × (length file ≤ 4096) × (length file % 16 ≡ 0) × (settings_of r file ≡ settings_from r (entries_of file) 0 defaults)
unfolding settings_of guard newest_in
taken r file h =
    split (leb 1 r) (λ a. split (leb r 2) (λ b. split (leb (length file) 4096) (λ d. split (eqb (length file % 16) 0)
    (λ e. let s = leb-true _ _ a in let t = leb-true _ _ b in let u = leb-true _ _ d in let v = eqb-true _ _ e in (s, t, u, v, opened r file s t u v))
    (λ e. never 0 (rw (a, b, d, e) at h)))
    (λ d. never 0 (rw (a, b, d) at h)))
    (λ b. never 11 (rw (a, b) at h)))
    (λ a. never 11 (rw a at h))
  where
    never : {X : Type 0} (k : ℕ) → suc k ≡ 0 → X
    never k z = let y : ⊥ = omega arith in absurd y

-- the records of a file that is taken, and what it says
pub taken_puts : (r : ℕ) (file : List ℕ) → (settings_of r file).number ≡ 0 → All (Good r) (entries_of file) × (settings_of r file ≡ puts (entries_of file) defaults)
taken_puts r file h =
    let g = taken r file h in
    let a = taken_good r (entries_of file) 0 defaults (rw g.4 at h) in
    (a, g.4 ∙ read_all r (entries_of file) defaults a)

pub cut_append : (n : ℕ) (s t : List ℕ) → length s ≡ 16 * n → choices (suc n) (s ++ t) ≡ choices n s ++ (choice_of (take 16 t) ∷ [])
unfolding choices
cut_append zero [] t h = refl
cut_append zero (x ∷ s) t h = let z : ⊥ = omega arith in absurd z
cut_append (suc n) s t h =
    let l : 16 ≤ length s = omega arith in
    let d : length (drop 16 s) ≡ 16 * n = length-drop 16 s ∙ omega arith in
    rw (take-append-le 16 s t l, drop-append-le 16 s t l, cut_append n (drop 16 s) t d, choices)

-- ---- the record that a change appends

pub length_record : (s c : ℕ) → length (record_of s c) ≡ 16
unfolding record_of
length_record s c = refl

take_record : (s c : ℕ) → take 16 (record_of s c) ≡ record_of s c
unfolding record_of
take_record s c = refl

module _ (r s c : ℕ) (k : knows r s c ≡ true) where
  content_is : c % 256 + 256 * (c / 256 % 256) ≡ c
  content_is =
      let y = known_small r s c k in
      let b : c / 256 < 256 = omega (arith, y.2) in
      let a : c / 256 % 256 ≡ c / 256 = mod-eq_of_lt b in
      rw a (omega arith)

  entry_is : choice_of (record_of s c) ≡ record { version = lowest s c; setting = s; content = c; rest = drop 4 (record_of s c) }
  unfolding record_of
  entry_is =
      let y = known_small r s c k in
      let a : s % 256 ≡ s = mod-eq_of_lt (omega (arith, y.1)) in
      let b : lowest s c % 256 ≡ lowest s c = mod-eq_of_lt (lowest_small s c) in
      rw (a, b, content_is)

  rest_good : zeros (drop 4 (record_of s c)) ≡ true
  unfolding record_of zeros
  rest_good = refl

  fields_good : judged_record r (record { version = lowest s c; setting = s; content = c; rest = drop 4 (record_of s c) }) ≡ 0
  unfolding judged_record guard
  fields_good =
      let i = known_lowest r s c k in
      rw (le-leb 1 (lowest s c) i.0, le-leb (lowest s c) r i.1, lowest_knows r s c k, rest_good)

  -- the reader takes the record that a change appends
  record_good : Good r (choice_of (record_of s c))
  record_good = ap (judged_record r) entry_is ∙ fields_good

  turn : (i : ℕ) (x : Settings) → settings_from r (choice_of (record_of s c) ∷ []) i x
      ≡ setting_put (choice_of (record_of s c)).setting (choice_of (record_of s c)).content x
  unfolding settings_from
  turn i x = rw (record_good, settings_from)

  one : (i : ℕ) (x : Settings) → settings_from r (choice_of (record_of s c) ∷ []) i x ≡ setting_put s c x
  one i x = turn i x ∙ ap (λ (e : Choice). setting_put e.setting e.content x) entry_is

  -- a file that a reader takes, given one more record of a setting that this reader knows: it is taken, and that setting alone is
  -- changed. The record is the same whichever version wrote it.
  pub more : (file : List ℕ) → (settings_of r file).number ≡ 0 → length file + 16 ≤ 4096
      → settings_of r (file ++ record_of s c) ≡ setting_put s c (settings_of r file)
  more file h l =
      let g = taken r file h in
      let p = taken_puts r file h in
      let n = length file / 16 in
      let len : length (file ++ record_of s c) ≡ length file + 16 = length-append file (record_of s c) ∙ ap (λ (m : ℕ). length file + m) (length_record s c) in
      let six : length file ≡ 16 * n = omega (arith, g.3) in
      let whole : entries_of (file ++ record_of s c) ≡ entries_of file ++ (choice_of (record_of s c) ∷ []) =
      ap (λ (m : ℕ). choices m (file ++ record_of s c)) (let z : (length file + 16) / 16 ≡ suc n = omega arith in rw len z)
      ∙ (cut_append n file (record_of s c) six ∙ ap (λ (t : List ℕ). choices n file ++ (choice_of t ∷ [])) (take_record s c)) in
      opened r (file ++ record_of s c) g.0 g.1 (rw len l) (rw len (omega (arith, g.3)))
      ∙ ap (λ (es : List Choice). settings_from r es 0 defaults) whole
      ∙ read_good r (entries_of file) (choice_of (record_of s c) ∷ []) 0 defaults p.0
      ∙ one (0 + length (entries_of file)) (puts (entries_of file) defaults)
      ∙ ap (setting_put s c) (sym p.1)
