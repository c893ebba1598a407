-- Laws of quoted texts: of joined ones, and of one that is gone through byte by byte.
use Rattle.std.specs.Prelude.{◌≡◌, refl, false, List, [], ◌∷◌, ◌++◌, ℕ, zero, suc, ◌+◌, ◌-◌, ◌<◌, ◌≤◌, length, take, drop, get_or, set, eqb}
use Rattle.std.proofs.Common.{sym, ap, ◌∙◌, true≢false, append-nil, append_assoc, not-suc-le-zero, le_of_suc-le-suc, add-one, arith, length-append, length-take, length-drop, eq-eqb, ne_eqb}
use Rattle.std.proofs.lemmas.Bool.{eqb-false}
use borrow.Rule.Slice.PartMut.{put_mid}
use Rattle.basis.specs.Lists.{any, has}
use Rattle.basis.specs.Members.{split}
use Rattle.basis.specs.Quote.{utf8}
use Rattle.texts.specs.Wrote.{Wrote}
use Rattle.texts.specs.Laws.Wrote.{wrote_none, wrote_length, behind}
use Rattle.display.specs.Quoted.{escaped, quoted}

-- ---- a byte

module _ (c : ℕ) where
  mark_is : c ≡ 34 → escaped c ≡ 92 ∷ 34 ∷ []
  unfolding escaped
  mark_is e = rw (eq-eqb c 34 e)

  plain_is : (c ≡ 34 → ⊥) → escaped c ≡ c ∷ []
  unfolding escaped
  plain_is e = rw (ne_eqb c 34 e)

  pub mark_size : c ≡ 34 → 2 ≡ length (escaped c)
  mark_size e = rw (mark_is e)

  pub plain_size : (c ≡ 34 → ⊥) → 1 ≡ length (escaped c)
  plain_size e = rw (plain_is e)

  pub mark_count : (r : ℕ) → c ≡ 34 → r ≡ 2 → r ≡ length (escaped c)
  mark_count r e q = q ∙ mark_size e

  pub mark_room : (n : ℕ) → c ≡ 34 → length (escaped c) ≤ n → 2 ≤ n
  mark_room n e h = rw (mark_is e) at h

  pub plain_room : (n : ℕ) → (c ≡ 34 → ⊥) → length (escaped c) ≤ n → 0 < n
  plain_room n e h = rw (plain_is e) at h

  pub mark_wrote : (o d : List ℕ) (r : ℕ) → c ≡ 34 → Wrote (utf8 "\\\"") o d r → Wrote (escaped c) o d r
  mark_wrote o d r e w = rw (mark_is e) w

  pub plain_wrote : (o : List ℕ) → (c ≡ 34 → ⊥) → length (escaped c) ≤ length o → Wrote (escaped c) o (set o 0 c) 1
  plain_wrote [] e h = absurd (not-suc-le-zero (plain_room 0 e h))
  plain_wrote (x ∷ o) e h = rw (plain_is e) (record { count = refl; leaves = refl; fits = omega arith })

-- ---- texts that are joined

pub quoted_append : (a b : List ℕ) → quoted (a ++ b) ≡ quoted a ++ quoted b
unfolding quoted
quoted_append [] b = refl
quoted_append (x ∷ a) b = ap (λ (l : List ℕ). escaped x ++ l) (quoted_append a b) ∙ sym (append_assoc (escaped x) (quoted a) (quoted b))

-- a text without a quote stands as it is
pub quoted_plain : (t : List ℕ) → has 34 t ≡ false → quoted t ≡ t
unfolding quoted
quoted_plain [] h = refl
quoted_plain (x ∷ t) h =
    split (eqb 34 x) (λ u. absurd (true≢false (rw (u, any) at h)))
    (λ u. ap (λ (l : List ℕ). l ++ quoted t) (plain_is x (λ e. eqb-false 34 x u (sym e))) ∙ ap (λ (l : List ℕ). x ∷ l) (quoted_plain t (rw (u, any) at h)))

-- ---- a text byte by byte: what its first i bytes become

unfoldable pub quoted_to : List ℕ → ℕ → List ℕ
quoted_to t i = quoted (take i t)

take_next : (t : List ℕ) (i : ℕ) → i < length t → quoted (take (suc i) t) ≡ quoted (take i t) ++ escaped (get_or t i 0)
unfolding quoted
take_next [] i h = absurd (not-suc-le-zero h)
take_next (x ∷ t) zero h = append-nil (escaped x)
take_next (x ∷ t) (suc i) h =
    ap (λ (l : List ℕ). escaped x ++ l) (take_next t i (le_of_suc-le-suc h)) ∙ sym (append_assoc (escaped x) (quoted (take i t)) (escaped (get_or t i 0)))

more_behind : (e a b : List ℕ) → length a ≤ length b → length (e ++ a) ≤ length (e ++ b)
more_behind e a b h = rw (length-append, length-append) (omega arith)

take_within : (t : List ℕ) (i : ℕ) → length (quoted (take i t)) ≤ length (quoted t)
unfolding quoted
take_within [] zero = omega arith
take_within [] (suc i) = omega arith
take_within (x ∷ t) zero = omega arith
take_within (x ∷ t) (suc i) = more_behind (escaped x) (quoted (take i t)) (quoted t) (take_within t i)

take_end : (t : List ℕ) (i : ℕ) → length t ≤ i → take i t ≡ t
take_end [] zero h = refl
take_end [] (suc i) h = refl
take_end (x ∷ t) zero h = absurd (not-suc-le-zero h)
take_end (x ∷ t) (suc i) h = ap (λ (l : List ℕ). x ∷ l) (take_end t i (le_of_suc-le-suc h))

module _ (t : List ℕ) (i c : ℕ) (h : i < length t) (e : c ≡ get_or t i 0) where
  to_next : quoted_to t (i + 1) ≡ quoted_to t i ++ escaped c
  unfolding quoted_to
  to_next = rw (add-one, e) (take_next t i h)

  to_size : length (quoted_to t i) + length (escaped c) ≡ length (quoted_to t (i + 1))
  to_size = rw (to_next, length-append)

to_within : (t : List ℕ) (i : ℕ) → length (quoted_to t i) ≤ length (quoted t)
unfolding quoted_to
to_within t i = take_within t i

to_end : (t : List ℕ) (i : ℕ) → length t ≤ i → quoted_to t i ≡ quoted t
unfolding quoted_to
to_end t i h = rw (take_end t i h)

-- measured

pub sizing_start : (t : List ℕ) → 0 ≡ length (quoted_to t 0)
unfolding quoted_to quoted
sizing_start t = refl

pub sizing_next : (t : List ℕ) (i c n w : ℕ) → n ≡ length (quoted_to t i) → i < length t → c ≡ get_or t i 0 → w ≡ length (escaped c)
    → n + w ≡ length (quoted_to t (i + 1))
sizing_next t i c n w q h e z = let a = to_size t i c h e in omega arith

pub sizing_end : (t : List ℕ) (i n : ℕ) → n ≡ length (quoted_to t i) → length t ≤ i → n ≡ length (quoted t)
sizing_end t i n q h = q ∙ ap length (to_end t i h)

-- written

pub quoting_start : (t o : List ℕ) → Wrote (quoted_to t 0) o o 0
unfolding quoted_to quoted
quoting_start t o = wrote_none

module _ (t o d : List ℕ) (i n : ℕ) (w : Wrote (quoted_to t i) o d n) where
  module _ (c : ℕ) (h : i < length t) (e : c ≡ get_or t i 0) where
    pub quoting_room : length (quoted t) ≤ length o → length (escaped c) ≤ length (take (length d - n) (drop n d))
    quoting_room k =
        let a = wrote_length w in
        let b = to_size t i c h e in
        let f = to_within t (i + 1) in
        let g = w.count in
        rw (length-take, length-drop) (omega arith)

    pub quoting_next : (x : List ℕ) (m : ℕ) → Wrote (escaped c) (take (length d - n) (drop n d)) x m
        → Wrote (quoted_to t (i + 1)) o (put_mid n (length d - n) d x) (n + m)
    quoting_next x m v = rw (to_next t i c h e) (behind w v)

  pub quoting_end : length t ≤ i → Wrote (quoted t) o d n
  quoting_end h = rw (to_end t i h) at w

  pub quoting_count : length t ≤ i → n ≡ length (quoted t)
  quoting_count h = (quoting_end h).count
