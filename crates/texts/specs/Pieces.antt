-- The levels above a line's own, two to a store of ten bytes of which six to ten count. What a store leaves beyond them is
-- written over by the next, and at the end by the seven bytes of the deepest level.
use Rattle.std.specs.Prelude.{◌≡◌, Bool, true, false, List, [], ◌∷◌, ◌++◌, ℕ, zero, suc, ◌+◌, ◌-◌, ◌/◌, ◌%◌, ◌≤◌, length, take, drop}
use Rattle.std.proofs.Common.{sym, ap, ◌∙◌, append_assoc, append-nil, arith, length-append, length-drop, take_all, drop-drop}
use Rattle.std.proofs.Math.Seq.{drop-length, take-append-add, drop-append-add}
use Rattle.std.proofs.lemmas.List.{take-append-le}
use borrow.Rule.Slice.PartMut.{put_mid}
use Rattle.basis.specs.Quote.{utf8}
use Rattle.texts.specs.Indent.{older}
use Rattle.texts.specs.Wrote.{over, Wrote}

-- the third byte of "└" and of "├"
unfoldable pub corner_of : Bool → ℕ
corner_of true = 148
corner_of false = 156

-- the k lowest bytes of w, the lowest first
unfoldable pub bytes_of : ℕ → ℕ → List ℕ
bytes_of zero w = []
bytes_of (suc k) w = w % 256 ∷ bytes_of k (w / 256)

-- eight of the ten bytes of two levels, as a word; the other two are spaces
unfoldable pub pair_word : Bool → Bool → ℕ
pair_word true true = 0x2020202020202020
pair_word true false = 0x20208294E2202020
pair_word false true = 0x20202020208294E2
pair_word false false = 0x8294E220208294E2

unfoldable pub pair_bytes : Bool → Bool → List ℕ
unfolding older
pair_bytes a b = take 10 (older a ++ older b ++ utf8 "    ")

-- bytes bs were written, of which u count
pub record BytesLaid (u bs room left : List ℕ) (r : ℕ) : Type 0 where
  pub count : r ≡ length u
  pub front : take (length u) bs ≡ u
  pub short : length u ≤ length bs
  pub slack : length bs ≤ length u + 7
  pub leaves : left ≡ over bs room
  pub fits : length bs ≤ length room

-- text stands at the start of the room, and from 7 bytes behind it on the room is as it was
pub record Near (text room left : List ℕ) (n : ℕ) : Type 0 where
  pub count : n ≡ length text
  pub front : take n left ≡ text
  pub rest : drop (n + 7) left ≡ drop (n + 7) room
  pub same : length left ≡ length room
  pub within : n ≤ length left

-- what is lent on and comes back as e, behind the n first
lent : (d : List ℕ) (n : ℕ) → n ≤ length d → take (length d - n) (drop n d) ≡ drop n d
lent d n h = take_all (length d - n) (drop n d) (let z : length (drop n d) ≡ length d - n = length-drop n d in omega arith)

put_back : (d e t : List ℕ) (n : ℕ) → n ≤ length d → take n d ≡ t → put_mid n (length d - n) d e ≡ t ++ e
put_back d e t n h f =
    let z : length (drop n d) ≡ length d - n = length-drop n d in
    let x : drop (length d - n) (drop n d) ≡ [] = rw (← z) (drop-length (drop n d)) in
    rw (f, x, append-nil)

-- what is laid is near
pub laid_near : {u bs o d : List ℕ} {r : ℕ} → BytesLaid u bs o d r → Near u o d r
laid_near {u} {bs} {o} {d} {r} v =
    let ru : r ≡ length u = v.count in
    let s : length u ≤ length bs = v.short in
    let k : length bs ≤ length u + 7 = v.slack in
    let f : length bs ≤ length o = v.fits in
    let j : length u + 7 ≡ length bs + (length u + 7 - length bs) = omega arith in
    let size : length (bs ++ drop (length bs) o) ≡ length o = rw (length-append, length-drop) (omega arith) in
    record {
      count = ru;
      front = rw (v.leaves, ru) (take-append-le (length u) bs (drop (length bs) o) s ∙ v.front);
      rest = rw (v.leaves, ru, j) (drop-append-add bs (drop (length bs) o) (length u + 7 - length bs)
          ∙ drop-drop (length u + 7 - length bs) (length bs) o);
      same = rw v.leaves size;
      within = rw (v.leaves, size) (omega arith);
    }

pub near_more : {t u o d e : List ℕ} {n m : ℕ} → Near t o d n → Near u (take (length d - n) (drop n d)) e m
    → Near (t ++ u) o (put_mid n (length d - n) d e) (n + m)
near_more {t} {u} {o} {d} {e} {n} {m} w v =
    let x = drop n d in
    let lx : length x ≡ length d - n = length-drop n d in
    let l : take (length d - n) x ≡ x = lent d n w.within in
    let g : put_mid n (length d - n) d e ≡ t ++ e = put_back d e t n w.within w.front in
    let nt : n ≡ length t = w.count in
    let wi : n ≤ length d = w.within in
    let le : length e ≡ length x = rw l at v.same in
    let size : length (t ++ e) ≡ length d = rw (length-append, le, lx, ← nt) (omega arith) in
    let vr : drop (m + 7) e ≡ drop (m + 7) x = rw l at v.rest in
    let old : drop (m + 7) x ≡ drop (n + (m + 7)) o =
    drop-drop (m + 7) n d ∙ (let z : n + (m + 7) ≡ n + 7 + m = omega arith in
    rw z (sym (drop-drop m (n + 7) d) ∙ ap (λ (y : List ℕ). drop m y) w.rest ∙ drop-drop m (n + 7) o)) in
    let b7 : n + m + 7 ≡ length t + (m + 7) = omega arith in
    let c7 : n + m + 7 ≡ n + (m + 7) = omega arith in
    record {
      count = rw (nt, v.count, length-append);
      front =
          rw g
          (ap (λ (y : ℕ). take (y + m) (t ++ e)) nt ∙ take-append-add t e m ∙ ap (λ (y : List ℕ). t ++ y) v.front);
      rest = rw g (ap (λ (y : ℕ). drop y (t ++ e)) b7 ∙ drop-append-add t e (m + 7) ∙ vr ∙ old ∙ ap (λ (y : ℕ). drop y o) (sym c7));
      same = rw (g, size) w.same;
      within = rw (g, size) (let y = v.within in omega arith);
    }

pub near_last : {t u o d e : List ℕ} {n m : ℕ} → Near t o d n → Wrote u (take (length d - n) (drop n d)) e m → 7 ≤ length u
    → Wrote (t ++ u) o (put_mid n (length d - n) d e) (n + m)
near_last {t} {u} {o} {d} {e} {n} {m} w v h =
    let x = drop n d in
    let lx : length x ≡ length d - n = length-drop n d in
    let l : take (length d - n) x ≡ x = lent d n w.within in
    let fx : length u ≤ length x = rw (← l) v.fits in
    let g : put_mid n (length d - n) d e ≡ t ++ (u ++ drop (length u) x) = rw (put_back d e t n w.within w.front, v.leaves, l) in
    let nt : n ≡ length t = w.count in
    let wi : n ≤ length d = w.within in
    let sm : length d ≡ length o = w.same in
    let j : n + length u ≡ n + 7 + (length u - 7) = omega arith in
    let old : drop (length u) x ≡ drop (length t + length u) o =
    drop-drop (length u) n d ∙ rw (← nt, j) (sym (drop-drop (length u - 7) (n + 7) d) ∙ ap (λ (y : List ℕ). drop (length u - 7) y) w.rest
    ∙ drop-drop (length u - 7) (n + 7) o) in
    record {
      count = rw (nt, v.count, length-append);
      leaves = rw (g, length-append, old) (sym (append_assoc t u (drop (length t + length u) o)));
      fits = rw length-append (omega arith);
    }
