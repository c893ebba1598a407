-- What the recorded calls on settings show when they are made again.
use Rattle.std.specs.Prelude.{◌≡◌, cond, List, [], ℕ, ◌≤◌, ◌<◌, length, take, replicate, leb}
use Rattle.std.proofs.Common.{ap, ap₂, ◌∙◌, arith, le-leb}
use Rattle.std.proofs.lemmas.Bool.{lt-leb}
use Rattle.texts.specs.Wrote.{over, Wrote}
use Rattle.settings.specs.declared.Settings.{Settings}
use Rattle.settings.specs.Settings.{settings_of}
use Rattle.settings.specs.Change.{change_of, room_of}
use Rattle.calls.specs.declared.Answer.{Answer}
use Rattle.calls.specs.Settings.{change_answer}
use Rattle.again.specs.declared.Seen.{Seen}
use Rattle.again.specs.Sum.{sum_of}
use Rattle.again.specs.Seen.{seen_of, no_call, blank, take_blank, prefix_blank}

-- what a settings file says, in the fields of the others: indent as bytes, simplify as units, the edition as depth
abbrev pub held_as : Settings → Answer
held_as s = record { number = s.number; place = s.place; bytes = s.indent; units = s.simplify; depth = s.edition }

-- the settings of the file by a reader of version v, with nothing lent
unfoldable pub held_in : List ℕ → ℕ → Seen
held_in file v = seen_of (held_as (settings_of v file)) (sum_of [])

-- setting s gets content c by a writer of version v, in the room `out`, which begins with a settings file of `used` bytes
unfoldable pub changed_in : List ℕ → ℕ → ℕ → ℕ → ℕ → Seen
changed_in out used v s c = seen_of (change_answer (change_of out used v s c)) (sum_of (room_of out used v s c))

-- the same in a room of n bytes that begins with the file
unfoldable pub changes_in : List ℕ → ℕ → ℕ → ℕ → ℕ → Seen
changes_in file v s c n = cond (leb (length file) n) (changed_in (over file (blank n)) (length file) v s c) no_call

-- ---- the ways through the code

pub held_in_lem : (file : List ℕ) (v : ℕ) (x : Settings) (a : Answer) (r : Seen) → x ≡ settings_of v file → a ≡ held_as x → r ≡ seen_of a 0 → r ≡ held_in file v
unfolding held_in
held_in_lem file v x a r e w q = rw (q, w, e)

pub changed_in_lem : (out left : List ℕ) (used v s c : ℕ) (a : Answer) (m : ℕ) (r : Seen) → a ≡ change_answer (change_of out used v s c)
    → left ≡ room_of out used v s c → m ≡ sum_of left → r ≡ seen_of a m → r ≡ changed_in out used v s c
unfolding changed_in
changed_in_lem out left used v s c a m r e k p q = q ∙ ap₂ seen_of e (p ∙ ap sum_of k)

-- the file was put into the room before
pub changed_behind : (file out mid : List ℕ) (i used v s c : ℕ) (r : Seen) → Wrote file out mid i → r ≡ changed_in mid used v s c → used ≡ length file
    → r ≡ changed_in (over file out) (length file) v s c
changed_behind file out mid i used v s c r W e u = e ∙ ap₂ (λ (x : List ℕ) (j : ℕ). changed_in x j v s c) W.leaves u

-- the file fits into the first n bytes of the program's room
pub file_fits : (file : List ℕ) (n : ℕ) → length file ≤ n → n ≤ 65536 → length file ≤ length (take n (replicate {A = ℕ} 65536 165))
file_fits file n l k = let e : n ≡ length (take n (replicate {A = ℕ} 65536 165)) = prefix_blank n k in omega (arith, e)

pub changed_blank : (file : List ℕ) (used v s c n : ℕ) (r : Seen) → r ≡ changed_in (over file (take n (replicate 65536 165))) used v s c → n ≤ 65536
    → r ≡ changed_in (over file (blank n)) used v s c
changed_blank file used v s c n r e l = e ∙ ap (λ (x : List ℕ). changed_in (over file x) used v s c) (take_blank {A = ℕ} 165 n 65536 l)

pub changes_short : (file : List ℕ) (v s c n : ℕ) (r : Seen) → n < length file → r ≡ no_call → r ≡ changes_in file v s c n
unfolding changes_in
changes_short file v s c n r l e = rw (lt-leb (length file) n l) e

pub changes_long : (file : List ℕ) (v s c n : ℕ) (r : Seen) → length file ≤ n → r ≡ changed_in (over file (blank n)) (length file) v s c
    → r ≡ changes_in file v s c n
unfolding changes_in
changes_long file v s c n r l e = rw (le-leb (length file) n l) e
