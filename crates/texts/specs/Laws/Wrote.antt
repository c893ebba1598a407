-- One writer behind another; what a writer leaves is determined.
use Rattle.std.specs.Prelude.{◌≡◌, refl, List, [], ◌++◌, ℕ, ◌+◌, ◌-◌, ◌≤◌, length, take, drop}
use Rattle.std.proofs.Common.{sym, ◌∙◌, append_assoc, append-nil, arith, length-append, length-drop, drop-drop}
use Rattle.std.proofs.Math.Seq.{take-length, drop-length, take-append_seam, drop-append_seam}
use borrow.Rule.Slice.PartMut.{put_mid}
use Rattle.texts.specs.Wrote.{Wrote}

pub wrote_none : {o : List ℕ} → Wrote [] o o 0
wrote_none = record { count = refl; leaves = refl; fits = omega arith }

-- t stands in the room o; the rest, from n on, is lent to a writer of u and comes back as e
pub behind : {t u o d e : List ℕ} {n m : ℕ} → Wrote t o d n → Wrote u (take (length d - n) (drop n d)) e m
    → Wrote (t ++ u) o (put_mid n (length d - n) d e) (n + m)
behind {t} {u} {o} {d} {e} {n} {m} w v =
    let x = drop (length t) o in
    let h1 : drop n d ≡ x = rw (w.count, w.leaves) (drop-append_seam t x) in
    let h2 : length d - n ≡ length x = rw (w.count, w.leaves, length-append) (omega arith) in
    let h3 : take n d ≡ t = rw (w.count, w.leaves) (take-append_seam t x) in
    let h4 : take (length d - n) (drop n d) ≡ x = rw (h2, h1) (take-length x) in
    let h5 : drop (length d - n) (drop n d) ≡ [] = rw (h2, h1) (drop-length x) in
    let h6 : length u ≤ length x = rw (← h4) v.fits in
    record {
      count = rw (w.count, v.count, length-append);
      leaves =
          rw (h3, h5, v.leaves, h4, append-nil, length-append, ← drop-drop)
          (sym (append_assoc t u (drop (length u) x)));
      fits = rw length-append (omega (arith, w.fits, length-drop (length t) o, h6));
    }

-- the room keeps its length
pub wrote_length : {t o d : List ℕ} {n : ℕ} → Wrote t o d n → length d ≡ length o
wrote_length {t} {o} {d} {n} w = rw (w.leaves, length-append, length-drop) (omega (arith, w.fits))

-- two results that the relation allows are equal
pub wrote_one : {t o d e : List ℕ} {n m : ℕ} → Wrote t o d n → Wrote t o e m → (d ≡ e) × (n ≡ m)
wrote_one w v = (w.leaves ∙ sym v.leaves, w.count ∙ sym v.count)
