-- What the recorded calls of document 02, order 8, show when they are made again: a file added to a report, and two reports joined.
use Rattle.std.specs.Prelude.{◌≡◌, refl, List, ℕ, zero, suc, ◌*◌, ◌-◌, ◌≤◌, ◌<◌, length, take, drop, replicate}
use Rattle.std.proofs.Common.{sym, ap, ap₂, ◌∙◌, arith, length-drop, take_all}
use Rattle.std.proofs.Math.Decide.{dec_le}
use Rattle.calls.specs.declared.Answer.{Answer}
use Rattle.seasons.specs.Season.{Adds}
use Rattle.seasons.specs.Laws.Season.{adds_one}
use Rattle.again.specs.declared.Seen.{Seen}
use Rattle.again.specs.Head.{words_at}
use Rattle.again.specs.Sum.{sum_of, words_from}
use Rattle.again.specs.Seen.{seen_of, answer_in, no_call, blank, take_blank}
use Rattle.again.specs.Joins.{joins_in, prefix_words}

-- the file explained by edition e in the room `out` and added to the report ws: the checksum of the room goes on over the report
pub record AddedTo (e : ℕ) (file : List ℕ) (opt : ℕ) (ws out : List ℕ) (r : Seen) : Type 0 where
  pub report : List ℕ
  pub left : List ℕ
  pub adds : Adds e file opt ws report out left (answer_in r)
  pub sums : r.sum ≡ words_from (sum_of left) report

-- a report of at most 64 words: m words of the recorded bytes; the file is what stands behind them
pub record Seasons (b : List ℕ) (opt e m n : ℕ) (r : Seen) : Type 0 where
  pub within : m ≤ 64 → 8 * m ≤ length b → AddedTo e (drop (8 * m) b) opt (words_at b 0 m) (blank n) r
  pub many : 64 < m → r ≡ no_call
  pub short : length b < 8 * m → r ≡ no_call

-- the call with number k + 18, on a room of n bytes: add a file to a report of t words, by edition s; join a report of t words behind one of
-- s words
unfoldable pub FromEighteen : List ℕ → ℕ → ℕ → ℕ → ℕ → ℕ → Seen → Type 0
FromEighteen file zero opt s t n r = Seasons file opt s t n r
FromEighteen file (suc zero) opt s t n r = r ≡ joins_in file s t
FromEighteen file (suc (suc k)) opt s t n r = r ≡ no_call

-- two results that they allow are equal
pub added_one : (e : ℕ) (file : List ℕ) (opt : ℕ) (ws out : List ℕ) (r q : Seen) → AddedTo e file opt ws out r → AddedTo e file opt ws out q → r ≡ q
added_one e file opt ws out r q S T =
    let h = adds_one e file opt ws S.report T.report out S.left T.left (answer_in r) (answer_in q) S.adds T.adds in
    let k : r.sum ≡ q.sum = S.sums ∙ ap₂ (λ (x y : List ℕ). words_from (sum_of x) y) h.2 h.1 ∙ sym T.sums in
    ap (λ (a : Answer). seen_of a r.sum) h.0 ∙ ap (seen_of (answer_in q)) k

pub seasons_one : (b : List ℕ) (opt e m n : ℕ) (r q : Seen) → Seasons b opt e m n r → Seasons b opt e m n q → r ≡ q
seasons_one b opt e m n r q R Q = go (dec_le m 64) (dec_le (8 * m) (length b))
  where
    go : Dec (m ≤ 64) → Dec (8 * m ≤ length b) → r ≡ q
    go (yes l) (yes k) = added_one e (drop (8 * m) b) opt (words_at b 0 m) (blank n) r q (R.within l k) (Q.within l k)
    go (no l) _ = let k : 64 < m = omega (arith, l) in R.many k ∙ sym (Q.many k)
    go (yes _) (no l) = let k : length b < 8 * m = omega (arith, l) in R.short k ∙ sym (Q.short k)

pub from_eighteen_one : (file : List ℕ) (k opt s t n : ℕ) (r q : Seen) → FromEighteen file k opt s t n r → FromEighteen file k opt s t n q → r ≡ q
unfolding FromEighteen
from_eighteen_one file zero opt s t n r q R Q = seasons_one file opt s t n r q R Q
from_eighteen_one file (suc zero) opt s t n r q R Q = R ∙ sym Q
from_eighteen_one file (suc (suc k)) opt s t n r q R Q = R ∙ sym Q

-- ---- the ways through the code

pub added_in_lem : (e : ℕ) (file : List ℕ) (opt : ℕ) (ws vs out left : List ℕ) (a : Answer) (k m : ℕ) (r : Seen) → Adds e file opt ws vs out left a → k ≡ sum_of left
    → m ≡ words_from k vs → r ≡ seen_of a m → AddedTo e file opt ws out r
added_in_lem e file opt ws vs out left a k m r A p s q =
    rw q (record { report = vs; left = left; adds = A; sums = s ∙ ap (λ (x : ℕ). words_from x vs) p })

pub added_read : (e : ℕ) (b file : List ℕ) (opt : ℕ) (ws vs out : List ℕ) (r : Seen) → AddedTo e file opt vs out r → vs ≡ words_at b 0 (length ws)
    → AddedTo e file opt (words_at b 0 (length ws)) out r
added_read e b file opt ws vs out r S q = rw q at S

pub added_parts : (e : ℕ) (b file : List ℕ) (opt m n : ℕ) (r : Seen)
    → AddedTo e file opt (words_at b 0 (length (take m (replicate {A = ℕ} 64 0)))) (take n (replicate {A = ℕ} 65536 165)) r → m ≤ 64 → n ≤ 65536
    → AddedTo e file opt (words_at b 0 m) (blank n) r
added_parts e b file opt m n r S k l = rw (← prefix_words m k, take_blank {A = ℕ} 165 n 65536 l) at S

module _ (b : List ℕ) (opt e m n : ℕ) (r : Seen) where
  pub seasons_many : 64 < m → r ≡ no_call → Seasons b opt e m n r
  seasons_many l q = record { within = λ k _. let f : ⊥ = omega arith in absurd f; many = λ _. q; short = λ _. q }

  pub seasons_short : (i : ℕ) → length b < 8 * i → i ≡ m → r ≡ no_call → Seasons b opt e m n r
  seasons_short i l p q =
      record { within = λ _ k. let f : ⊥ = omega (arith, p) in absurd f; many = λ _. q; short = λ _. q }

  pub seasons_within : (i : ℕ) → AddedTo e (take (length b - 8 * i) (drop (8 * i) b)) opt (words_at b 0 i) (blank n) r → i ≡ m → m ≤ 64 → 8 * i ≤ length b
      → Seasons b opt e m n r
  seasons_within i S p k l =
      record {
        within = λ _ _. rw (take_all (length b - 8 * i) (drop (8 * i) b) (rw length-drop (omega arith)), p) at S;
        many = λ j. let f : ⊥ = omega arith in absurd f;
        short = λ j. let f : ⊥ = omega (arith, p) in absurd f;
      }

module _ (file : List ℕ) (k opt s t n : ℕ) (r : Seen) where
  pub at_season : k ≡ 0 → Seasons file opt s t n r → FromEighteen file k opt s t n r
  unfolding FromEighteen
  at_season q e = rw q e

  pub at_joins : k ≡ 1 → r ≡ joins_in file s t → FromEighteen file k opt s t n r
  unfolding FromEighteen
  at_joins q e = rw q e

pub at_no_last : (file : List ℕ) (k opt s t n : ℕ) (r : Seen) → (k ≡ 0 → ⊥) → (k ≡ 1 → ⊥) → r ≡ no_call → FromEighteen file k opt s t n r
unfolding FromEighteen
at_no_last file zero opt s t n r a b e = absurd (a refl)
at_no_last file (suc zero) opt s t n r a b e = absurd (b refl)
at_no_last file (suc (suc k)) opt s t n r a b e = e
