-- What a recorded repair shows when it is made again.
use Rattle.std.specs.Prelude.{◌≡◌, cond, List, ℕ, ◌≤◌, ◌<◌, length, take, replicate, leb}
use Rattle.std.proofs.Common.{ap, ap₂, ◌∙◌, le-leb}
use Rattle.std.proofs.lemmas.Bool.{lt-leb}
use Rattle.salvage.specs.declared.Salvaged.{Salvaged}
use Rattle.salvage.specs.Lent.{salvage_answer, salvage_room, salvage_list}
use Rattle.calls.specs.declared.Answer.{Answer}
use Rattle.again.specs.declared.Seen.{Seen}
use Rattle.again.specs.Sum.{sum_of}
use Rattle.again.specs.Seen.{seen_of, no_call, blank, blank_numbers, take_blank}

-- a repair's answer in the fields of the others: the count of replaced records as units, the bytes dropped as depth
abbrev pub mended_as : Salvaged → Answer
mended_as s = record { number = s.number; place = s.place; bytes = s.bytes; units = s.replaced; depth = s.dropped }

-- the repair in the room `out` beside the list `l`: what the room shows, and what the list does
unfoldable pub mended_in : List ℕ → List ℕ → List ℕ → Seen
mended_in file out l = seen_of (mended_as (salvage_answer file (length out) (length l))) (sum_of (salvage_room file out (length l)))

unfoldable pub replaced_in : List ℕ → List ℕ → List ℕ → Seen
replaced_in file out l = seen_of (mended_as (salvage_answer file (length out) (length l))) (sum_of (salvage_list file (length out) l))

-- the repair beside a room of 65,536 bytes, with a list of at most 8,192 numbers
unfoldable pub mends_in : List ℕ → ℕ → Seen
mends_in file n = cond (leb n 8192) (replaced_in file (blank 65536) (blank_numbers n)) no_call

-- ---- the ways through the code

pub mended_in_lem : (file out l left : List ℕ) (x : Salvaged) (a : Answer) (s : ℕ) (r : Seen) → x ≡ salvage_answer file (length out) (length l)
    → left ≡ salvage_room file out (length l) → a ≡ mended_as x → s ≡ sum_of left → r ≡ seen_of a s → r ≡ mended_in file out l
unfolding mended_in
mended_in_lem file out l left x a s r e k w p q = q ∙ ap₂ seen_of (w ∙ ap mended_as e) (p ∙ ap sum_of k)

pub replaced_in_lem : (file out l left : List ℕ) (x : Salvaged) (a : Answer) (s : ℕ) (r : Seen) → x ≡ salvage_answer file (length out) (length l)
    → left ≡ salvage_list file (length out) l → a ≡ mended_as x → s ≡ sum_of left → r ≡ seen_of a s → r ≡ replaced_in file out l
unfolding replaced_in
replaced_in_lem file out l left x a s r e k w p q = q ∙ ap₂ seen_of (w ∙ ap mended_as e) (p ∙ ap sum_of k)

-- the repair beside the whole list, or the whole room
pub mended_blank : (file l : List ℕ) (n : ℕ) (r : Seen) → r ≡ mended_in file (take n (replicate 65536 165)) l → n ≤ 65536 → r ≡ mended_in file (blank n) l
mended_blank file l n r e k = e ∙ ap (λ (x : List ℕ). mended_in file x l) (take_blank {A = ℕ} 165 n 65536 k)

pub replaced_blank : (file out : List ℕ) (n : ℕ) (r : Seen) → r ≡ replaced_in file out (take n (replicate 8192 42405)) → n ≤ 8192
    → r ≡ replaced_in file out (blank_numbers n)
replaced_blank file out n r e k = e ∙ ap (λ (x : List ℕ). replaced_in file out x) (take_blank {A = ℕ} 42405 n 8192 k)

pub mends_short : (file : List ℕ) (n : ℕ) (r : Seen) → n ≤ 8192 → r ≡ replaced_in file (blank 65536) (blank_numbers n) → r ≡ mends_in file n
unfolding mends_in
mends_short file n r l e = rw (le-leb n 8192 l) e

pub mends_long : (file : List ℕ) (n : ℕ) (r : Seen) → 8192 < n → r ≡ no_call → r ≡ mends_in file n
unfolding mends_in
mends_long file n r l e = rw (lt-leb n 8192 l) e
