-- What the recorded calls of document 02, order 8, show when they are made again: two reports joined.
use Rattle.std.specs.Prelude.{◌≡◌, cond, List, ℕ, ◌*◌, ◌≤◌, ◌<◌, length, take, replicate, leb}
use Rattle.std.proofs.Common.{sym, ap, ap₂, ◌∙◌, arith, le-leb}
use Rattle.std.proofs.lemmas.List.{length-replicate}
use Rattle.std.proofs.lemmas.Bool.{lt-leb}
use Rattle.season.specs.Words.{join_words}
use Rattle.calls.specs.declared.Answer.{Answer}
use Rattle.seasons.specs.Season.{join_answer}
use Rattle.again.specs.declared.Seen.{Seen}
use Rattle.again.specs.Head.{words_at}
use Rattle.again.specs.Sum.{words_from}
use Rattle.again.specs.Seen.{seen_of, no_call, take_blank}

-- the report vs put behind the report ws
unfoldable pub joined_in : List ℕ → List ℕ → Seen
joined_in ws vs = seen_of (join_answer ws vs) (words_from 0 (join_words ws vs))

-- reports of at most 64 words: s words of the recorded bytes, and t behind them
unfoldable pub joins_in : List ℕ → ℕ → ℕ → Seen
joins_in b s t = cond (leb s 64) (cond (leb t 64) (joined_in (words_at b 0 s) (words_at b (8 * s) t)) no_call) no_call

-- ---- the ways through the code

pub joined_in_lem : (ws vs left : List ℕ) (a : Answer) (m : ℕ) (r : Seen) → a ≡ join_answer ws vs → left ≡ join_words ws vs → m ≡ words_from 0 left
    → r ≡ seen_of a m → r ≡ joined_in ws vs
unfolding joined_in
joined_in_lem ws vs left a m r e k p q = q ∙ ap₂ seen_of e (p ∙ ap (words_from 0) k)

-- both reports were filled before
pub joined_read : (b ws vs us ts : List ℕ) (at : ℕ) (r : Seen) → r ≡ joined_in us ts → us ≡ words_at b 0 (length ws) → ts ≡ words_at b at (length vs)
    → at ≡ 8 * length ws → r ≡ joined_in (words_at b 0 (length ws)) (words_at b (8 * length ws) (length vs))
joined_read b ws vs us ts at r e p q k = e ∙ ap₂ joined_in p (q ∙ ap (λ (i : ℕ). words_at b i (length vs)) k)

-- a part of the program's words
pub prefix_words : (m : ℕ) → m ≤ 64 → m ≡ length (take m (replicate {A = ℕ} 64 0))
prefix_words m l = sym (ap length (take_blank {A = ℕ} 0 m 64 l) ∙ length-replicate {A = ℕ} m 0)

pub words_fit : (m : ℕ) → m ≤ 64 → length (take m (replicate {A = ℕ} 64 0)) ≤ 64
words_fit m l = let e : m ≡ length (take m (replicate {A = ℕ} 64 0)) = prefix_words m l in omega (arith, e)

pub joined_parts : (b : List ℕ) (m n : ℕ) (r : Seen)
    → r ≡ joined_in (words_at b 0 (length (take m (replicate {A = ℕ} 64 0))))
    (words_at b (8 * length (take m (replicate {A = ℕ} 64 0))) (length (take n (replicate {A = ℕ} 64 0))))
    → m ≤ 64 → n ≤ 64 → r ≡ joined_in (words_at b 0 m) (words_at b (8 * m) n)
joined_parts b m n r e k l =
    e ∙ sym (ap₂ (λ (i j : ℕ). joined_in (words_at b 0 i) (words_at b (8 * i) j)) (prefix_words m k) (prefix_words n l))

pub joins_first : (b : List ℕ) (s t : ℕ) (r : Seen) → 64 < s → r ≡ no_call → r ≡ joins_in b s t
unfolding joins_in
joins_first b s t r l e = rw (lt-leb s 64 l) e

pub joins_second : (b : List ℕ) (s t : ℕ) (r : Seen) → 64 < t → s ≤ 64 → r ≡ no_call → r ≡ joins_in b s t
unfolding joins_in
joins_second b s t r l k e = rw (le-leb s 64 k, cond, lt-leb t 64 l) e

pub joins_both : (b : List ℕ) (s t m n : ℕ) (r : Seen) → r ≡ joined_in (words_at b 0 m) (words_at b (8 * m) n) → m ≡ s → n ≡ t → s ≤ 64 → t ≤ 64
    → r ≡ joins_in b s t
unfolding joins_in
joins_both b s t m n r e p q k l =
    rw (le-leb s 64 k, cond, le-leb t 64 l) (e ∙ ap₂ (λ (i j : ℕ). joined_in (words_at b 0 i) (words_at b (8 * i) j)) p q)
