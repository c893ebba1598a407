-- What order 12 promises, over the contracts of `read` and `set`: the answer of the one is `settings_of`, of the other `change_of`, and
-- what the other leaves in the lent room is `room_of`.
use Rattle.std.specs.Prelude.{◌≡◌, refl, true, false, cond, List, [], ◌∷◌, ◌++◌, take, eqb, leb}
use Rattle.std.proofs.Common.{sym, ap, ◌∙◌, append_assoc, length-take-le}
use Prim.Native.Nat.{ℕ, suc, ◌+◌, ◌*◌, ◌%◌, ◌≤◌}
use native.Mathlib.Omega.{arith}
use Rattle.std.proofs.Math.ListN.{length, drop, length-append}
use Rattle.std.proofs.Math.Seq.{take_at, drop_at}
use borrow.Author.Tests.{le-leb, leb-true, ne_eqb, eqb-true, eqb-false}
use Rattle.basis.specs.Guard.{guard}
use Rattle.basis.specs.Members.{split, All}
use Rattle.settings.specs.declared.Settings.{Settings}
use Rattle.settings.specs.Settings.{table, newest_in, fits_content, knows, Choice, choices, entries_of, zeros, judged_record, refused}
use Rattle.settings.specs.Settings.{setting_put, defaults, settings_from, settings_of}
use Rattle.settings.specs.Change.{record_of, file_in, change_by, change_of, refusal, done, appended, room_of}
use Rattle.settings.specs.Laws.Table.{guard_on, known_small}
use Rattle.settings.specs.Laws.Records.{Good, puts, read_all, read_bad, put_number, taken, taken_puts, opened, length_record, more}

-- the content of a setting
abbrev pub value_of : ℕ → Settings → ℕ
value_of s x = cond (eqb s 1) x.indent (cond (eqb s 2) x.simplify x.edition)

-- ---- one change

pub put_reads : (v s c : ℕ) (x : Settings) → knows v s c ≡ true → value_of s (setting_put s c x) ≡ c
unfolding setting_put
put_reads v s c x k =
    let y = known_small v s c k in
    split (eqb s 1) (λ a. rw a)
    (λ a. split (eqb s 2) (λ b. rw (a, b))
    (λ b. split (eqb s 3) (λ d. rw (a, b, d))
    (λ d. let z : ⊥ = omega (arith, y.0, y.1, eqb-false s 1 a, eqb-false s 2 b, eqb-false s 3 d) in absurd z)))

module _ (s c : ℕ) (x : Settings) where
  put_indent : eqb s 1 ≡ false → (setting_put s c x).indent ≡ x.indent
  unfolding setting_put
  put_indent a = rw a (split (eqb s 2) (λ b. rw b) (λ b. rw b (split (eqb s 3) (λ d. rw d) (λ d. rw d))))

  put_simplify : eqb s 2 ≡ false → (setting_put s c x).simplify ≡ x.simplify
  unfolding setting_put
  put_simplify b = rw b (split (eqb s 1) (λ a. rw a) (λ a. rw a (split (eqb s 3) (λ d. rw d) (λ d. rw d))))

  put_edition : eqb s 3 ≡ false → (setting_put s c x).edition ≡ x.edition
  unfolding setting_put
  put_edition d = rw d (split (eqb s 1) (λ a. rw a) (λ a. rw a (split (eqb s 2) (λ b. rw b) (λ b. rw b))))

  -- every other setting stays
  pub put_keeps : (t : ℕ) → 1 ≤ t → t ≤ 3 → (s ≡ t → ⊥) → value_of t (setting_put s c x) ≡ value_of t x
  put_keeps t l h n =
      split (eqb t 1) (λ a. rw a (put_indent (ne_eqb s 1 (λ q. n (q ∙ sym (eqb-true t 1 a))))))
      (λ a. rw a (split (eqb t 2) (λ b. rw b (put_simplify (ne_eqb s 2 (λ q. n (q ∙ sym (eqb-true t 2 b))))))
      (λ b. rw b (put_edition (ne_eqb s 3 (λ q. n (let z : t ≡ 3 = omega (arith, eqb-false t 1 a, eqb-false t 2 b) in q ∙ sym z)))))))

-- ---- reading

-- what a good record is
pub good_is : (r : ℕ) (e : Choice) → Good r e → (1 ≤ e.version) × (e.version ≤ r) × (knows e.version e.setting e.content ≡ true)
    × (zeros e.rest ≡ true)
unfolding judged_record
good_is r e g =
    let a = guard_on (leb 1 e.version) 18 _ 0 (λ q. let y : ⊥ = omega (arith, q) in y) g in
    let b = guard_on (leb e.version r) 18 _ 0 (λ q. let y : ⊥ = omega (arith, q) in y) a.1 in
    let c = guard_on (knows e.version e.setting e.content) 3 _ 0 (λ q. let y : ⊥ = omega (arith, q) in y) b.1 in
    let d = guard_on (zeros e.rest) 3 0 0 (λ q. let y : ⊥ = omega (arith, q) in y) c.1 in
    (leb-true _ _ a.0, leb-true _ _ b.0, c.0, d.0)

pub is_good_lem : (r : ℕ) (e : Choice) → 1 ≤ e.version → e.version ≤ r → knows e.version e.setting e.content ≡ true → zeros e.rest ≡ true → Good r e
unfolding judged_record guard
is_good_lem r e a b c d = rw (le-leb _ _ a, le-leb _ _ b, c, d)

abbrev pub Other : ℕ → Choice → Type 0
Other s e = e.setting ≡ s → ⊥

puts_other : (s : ℕ) (es : List Choice) (x : Settings) → 1 ≤ s → s ≤ 3 → All (Other s) es → value_of s (puts es x) ≡ value_of s x
unfolding puts
puts_other s [] x l h a = refl
puts_other s (e ∷ es) x l h a = puts_other s es (setting_put e.setting e.content x) l h a.1 ∙ put_keeps e.setting e.content x s l h a.0

puts_append : (es fs : List Choice) (x : Settings) → puts (es ++ fs) x ≡ puts fs (puts es x)
unfolding puts
puts_append [] fs x = refl
puts_append (e ∷ es) fs x = puts_append es fs (setting_put e.setting e.content x)

all_behind : (r : ℕ) (es : List Choice) (e : Choice) (fs : List Choice) → All (Good r) (es ++ (e ∷ fs)) → Good r e
all_behind r [] e fs h = h.0
all_behind r (x ∷ es) e fs h = all_behind r es e fs h.1

-- "The last record for a setting counts"
pub last_counts : (r : ℕ) (file : List ℕ) (es : List Choice) (e : Choice) (fs : List Choice) → (settings_of r file).number ≡ 0 → entries_of file ≡ es ++ (e ∷ fs)
    → All (Other e.setting) fs → value_of e.setting (settings_of r file) ≡ e.content
unfolding puts
last_counts r file es e fs h q a =
    let p = taken_puts r file h in
    let k = good_is r e (all_behind r es e fs (rw q at p.0)) in
    let y = known_small e.version e.setting e.content k.2 in
    ap (value_of e.setting) (p.1 ∙ ap (λ (l : List Choice). puts l defaults) q ∙ puts_append es (e ∷ fs) defaults)
    ∙ puts_other e.setting fs (setting_put e.setting e.content (puts es defaults)) y.0 y.1 a
    ∙ put_reads e.version e.setting e.content (puts es defaults) k.2

default_one : (s : ℕ) → value_of s defaults ≡ 1
default_one s = split (eqb s 1) (λ a. rw a) (λ a. rw a (split (eqb s 2) (λ b. rw b) (λ b. rw b)))

-- "unset ones take the default of order 2, simplify on, edition 1": each is 1
pub unset_default : (r : ℕ) (file : List ℕ) (s : ℕ) → 1 ≤ s → s ≤ 3 → (settings_of r file).number ≡ 0 → All (Other s) (entries_of file)
    → value_of s (settings_of r file) ≡ 1
unset_default r file s l h n a =
    ap (value_of s) (taken_puts r file n).1 ∙ puts_other s (entries_of file) defaults l h a ∙ default_one s

-- "per record (the place)": the first record that is not good is the place, whatever stands behind it
pub first_bad : (r : ℕ) (file : List ℕ) (es : List Choice) (e : Choice) (fs : List Choice) (k : ℕ) → 1 ≤ r → r ≤ 2 → length file ≤ 4096 → length file % 16 ≡ 0
    → entries_of file ≡ es ++ (e ∷ fs) → All (Good r) es → judged_record r e ≡ suc k → settings_of r file ≡ refused (suc k) (length es)
first_bad r file es e fs k a b l m q h g =
    opened r file a b l m ∙ ap (λ (xs : List Choice). settings_from r xs 0 defaults) q ∙ read_bad r es e fs k defaults h g

-- a file with good records only is taken
pub all_taken : (r : ℕ) (file : List ℕ) → 1 ≤ r → r ≤ 2 → length file ≤ 4096 → length file % 16 ≡ 0 → All (Good r) (entries_of file)
    → settings_of r file ≡ puts (entries_of file) defaults
all_taken r file a b l m h = opened r file a b l m ∙ read_all r (entries_of file) defaults h

-- ---- versions

-- an unknown version is 18 whatever else is wrong with the record: "in the order 18, 3"
pub unknown_first : (r : ℕ) (e : Choice) → (1 ≤ e.version → e.version ≤ r → ⊥) → judged_record r e ≡ 18
unfolding judged_record guard
unknown_first r e n =
    split (leb 1 e.version)
    (λ a. rw a (split (leb e.version r) (λ b. absurd (n (leb-true _ _ a) (leb-true _ _ b))) (λ b. rw b)))
    (λ a. rw a)

one_knows : (c : ℕ) → knows 1 3 c ≡ false
unfolding knows fits_content guard
one_knows c = refl

one_no : (r c : ℕ) (t : List ℕ) → 1 ≤ r → judged_record r (record { version = 1; setting = 3; content = c; rest = t }) ≡ 3
unfolding judged_record guard
one_no r c t h = rw (le-leb 1 r h, one_knows c)

-- "an edition setting in a version 1 record is refused"
pub edition_in_one : (r : ℕ) (e : Choice) → 1 ≤ r → e.version ≡ 1 → e.setting ≡ 3 → judged_record r e ≡ 3
edition_in_one r e h v s = go e.version e.setting e.content e.rest v s
  where
    go : (v s c : ℕ) (t : List ℕ) → v ≡ 1 → s ≡ 3 → judged_record r (record { version = v; setting = s; content = c; rest = t }) ≡ 3
    go v s c t a b = rw (a, b) (one_no r c t h)

abbrev Old : Choice → Type 0
Old e = e.version ≡ 1

-- "A version 1 reader that meets version 2 refuses with 18", at the first record that is not of version 1
pub old_refuses : (file : List ℕ) (es : List Choice) (e : Choice) (fs : List Choice) → length file ≤ 4096 → length file % 16 ≡ 0
    → entries_of file ≡ es ++ (e ∷ fs)
    → All (Good 1) es → (e.version ≡ 1 → ⊥) → settings_of 1 file ≡ refused 18 (length es)
old_refuses file es e fs l m q h n =
    first_bad 1 file es e fs 17 (omega arith) (omega arith) l m q h
    (unknown_first 1 e (λ a b. n (let z : e.version ≡ 1 = omega (arith, a, b) in z)))

good_old : (es : List Choice) → All (Good 2) es → All Old es → All (Good 1) es
good_old [] g v = tt
good_old (e ∷ es) g v = (same e g.0 v.0, good_old es g.1 v.1)
  where
    same : (e : Choice) → Good 2 e → Old e → Good 1 e
    same e g v = let k = good_is 2 e g in is_good_lem 1 e k.0 (omega (arith, v)) k.2 k.3

-- a version 1 reader takes every file that holds only version 1 records, as a version 2 reader does
pub old_takes : (file : List ℕ) → (settings_of 2 file).number ≡ 0 → All Old (entries_of file) → settings_of 1 file ≡ settings_of 2 file
old_takes file h v =
    let g = taken 2 file h in
    let p = taken_puts 2 file h in
    all_taken 1 file (omega arith) (omega arith) g.2 g.3 (good_old (entries_of file) p.0 v) ∙ sym p.1

-- a version 1 reader reports edition 1
pub old_edition : (file : List ℕ) → (settings_of 1 file).number ≡ 0 → (settings_of 1 file).edition ≡ 1
old_edition file h = unset_default 1 file 3 (omega arith) (omega arith) h (none (entries_of file) (taken_puts 1 file h).0)
  where
    none : (es : List Choice) → All (Good 1) es → All (Other 3) es
    none [] g = tt
    none (e ∷ es) g = (other e g.0, none es g.1)
      where
        other : (e : Choice) → Good 1 e → e.setting ≡ 3 → ⊥
        other e g s =
            let k = good_is 1 e g in
            let z : e.version ≡ 1 = omega (arith, k.0, k.1) in
            let y : ◌≡◌ {A = ℕ} 3 0 = sym (edition_in_one 1 e (omega arith) z s) ∙ g in
            omega (arith, y)

-- ---- changing a setting

-- a change that is done: every test of the chain passed
module _ (room : List ℕ) (used v s c : ℕ) (ok : (change_of room used v s c).number ≡ 0) where
  pub change_on : {X : Type 0} (bad : ℕ → ℕ → X) (on : X) → (change_by bad on room used v s c ≡ on)
      × (used ≤ length room) × ((settings_of v (file_in room used)).number ≡ 0) × (knows v s c ≡ true) × (used + 16 ≤ 4096) × (used + 16 ≤ length room)
  unfolding change_of change_by guard newest_in
  change_on bad on =
      split (leb 1 v) (λ a. split (leb v 2) (λ b. split (leb used (length room)) (λ d.
      split (eqb (settings_of v (file_in room used)).number 0) (λ e.
      split (knows v s c) (λ f. split (leb (used + 16) 4096) (λ g. split (leb (used + 16) (length room))
      (λ h. (rw (a, b, d, e, f, g, h), leb-true _ _ d, eqb-true _ _ e, f, leb-true _ _ g, leb-true _ _ h))
      (λ h. never 9 (rw (a, b, d, e, f, g, h) at ok)))
      (λ g. never 9 (rw (a, b, d, e, f, g) at ok)))
      (λ f. never 2 (rw (a, b, d, e, f) at ok)))
      (λ e. absurd (eqb-false _ _ e (rw (a, b, d, e) at ok))))
      (λ d. never 0 (rw (a, b, d) at ok)))
      (λ b. never 11 (rw (a, b) at ok)))
      (λ a. never 11 (rw a at ok))
    where
      never : {Y : Type 0} (k : ℕ) → suc k ≡ 0 → Y
      never k z = let y : ⊥ = omega arith in absurd y

  room_is : room_of room used v s c ≡ appended room used s c
  unfolding room_of
  room_is = (change_on (λ k p. room) (appended room used s c)).0

  -- "appends one record, of the lowest version that knows it, and touches no earlier byte"
  pub set_file : file_in (room_of room used v s c) (used + 16) ≡ file_in room used ++ record_of s c
  unfolding file_in appended
  set_file =
      let w = change_on refusal done in
      let l : length (take used room ++ record_of s c) ≡ used + 16 = length-append (take used room) (record_of s c)
      ∙ rw (length-take-le used room w.1, length_record s c) in
      rw room_is (ap (take (used + 16)) (sym (append_assoc (take used room) (record_of s c) (drop (used + 16) room)))
      ∙ take_at (take used room ++ record_of s c) (drop (used + 16) room) (used + 16) l)

  pub set_before : file_in (room_of room used v s c) used ≡ file_in room used
  unfolding file_in appended
  set_before =
      let w = change_on refusal done in rw room_is (take_at (take used room) (record_of s c ++ drop (used + 16) room) used (length-take-le used room w.1))

  pub set_behind : drop (used + 16) (room_of room used v s c) ≡ drop (used + 16) room
  unfolding file_in appended
  set_behind =
      let w = change_on refusal done in
      let l : length (take used room ++ record_of s c) ≡ used + 16 = length-append (take used room) (record_of s c)
      ∙ rw (length-take-le used room w.1, length_record s c) in
      rw room_is (ap (drop (used + 16)) (sym (append_assoc (take used room) (record_of s c) (drop (used + 16) room)))
      ∙ drop_at (take used room ++ record_of s c) (drop (used + 16) room) (used + 16) l)

  set_whole : settings_of v (file_in (room_of room used v s c) (used + 16)) ≡ setting_put s c (settings_of v (file_in room used))
  unfolding file_in
  set_whole =
      let w = change_on refusal done in
      rw set_file (more v s c w.3 (file_in room used) w.2 (rw (length-take-le used room w.1) w.4))

  -- what a change did is read back
  pub set_reads : value_of s (settings_of v (file_in (room_of room used v s c) (used + 16))) ≡ c
  set_reads = ap (value_of s) set_whole ∙ put_reads v s c (settings_of v (file_in room used)) (change_on refusal done).3

  -- the file is taken again, and every other setting stays
  pub set_taken : (settings_of v (file_in (room_of room used v s c) (used + 16))).number ≡ 0
  set_taken = ap (λ (x : Settings). x.number) set_whole ∙ put_number s c (settings_of v (file_in room used)) ∙ (change_on refusal done).2

  pub set_keeps : (t : ℕ) → 1 ≤ t → t ≤ 3 → (s ≡ t → ⊥) → value_of t (settings_of v (file_in (room_of room used v s c) (used + 16)))
      ≡ value_of t (settings_of v (file_in room used))
  set_keeps t l h n = ap (value_of t) set_whole ∙ put_keeps s c (settings_of v (file_in room used)) t l h n

-- a refusal leaves the room as it was
pub set_refused : (room : List ℕ) (used v s c : ℕ) → ((change_of room used v s c).number ≡ 0 → ⊥) → room_of room used v s c ≡ room
unfolding change_of room_of change_by guard
set_refused room used v s c n =
    split (leb 1 v) (λ a. rw a (split (leb v (newest_in table)) (λ b.
    rw b (split (leb used (length room)) (λ d. rw d (split (eqb (settings_of v (file_in room used)).number 0) (λ e.
    rw e (split (knows v s c) (λ f. rw f (split (leb (used + 16) 4096) (λ g. rw g (split (leb (used + 16) (length room))
    (λ h. absurd (n (rw (a, b, d, e, f, g, h))))
    (λ h. rw h)))
    (λ g. rw g)))
    (λ f. rw f)))
    (λ e. rw e)))
    (λ d. rw d)))
    (λ b. rw b)))
    (λ a. rw a)

-- ---- files that changes made

-- the file that these changes give, and the settings after them; the newest change first in the list
unfoldable pub given : List (ℕ × ℕ) → List ℕ
given [] = []
given (x ∷ xs) = given xs ++ record_of x.0 x.1

unfoldable pub after : List (ℕ × ℕ) → Settings
after [] = defaults
after (x ∷ xs) = setting_put x.0 x.1 (after xs)

length_given : (xs : List (ℕ × ℕ)) → length (given xs) ≡ 16 * length xs
unfolding given
length_given [] = refl
length_given (x ∷ xs) = length-append (given xs) (record_of x.0 x.1) ∙ rw (length_given xs, length_record x.0 x.1) (omega arith)

after_good : (xs : List (ℕ × ℕ)) → (after xs).number ≡ 0
unfolding after
after_good [] = refl
after_good (x ∷ xs) = put_number x.0 x.1 (after xs) ∙ after_good xs

-- a reader takes every file that was only given settings that it knows, whichever version wrote it
pub given_takes : (r : ℕ) → 1 ≤ r → r ≤ 2 → (xs : List (ℕ × ℕ)) → All (λ x. knows r x.0 x.1 ≡ true) xs → length xs ≤ 256
    → settings_of r (given xs) ≡ after xs
unfolding given after settings_from choices
given_takes r a b [] k h = opened r [] a b (omega arith) refl
given_takes r a b (x ∷ xs) k h =
    let ih : settings_of r (given xs) ≡ after xs = given_takes r a b xs k.1 (omega arith) in
    more r x.0 x.1 k.0 (given xs) (ap (λ (y : Settings). y.number) ih ∙ after_good xs) (rw (length_given xs) (omega arith))
    ∙ ap (setting_put x.0 x.1) ih
