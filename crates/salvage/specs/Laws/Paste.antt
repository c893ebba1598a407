-- The blank clause over the listed records of a file makes the repaired one.
use Rattle.std.specs.Prelude.{◌≡◌, refl, List, ◌++◌, ℕ, ◌+◌, ◌*◌, ◌≤◌, ◌<◌, length, get_or, take, drop}
use Rattle.std.proofs.Common.{sym, ap, ◌∙◌, append_assoc, arith, add-one, length-append, length-take, drop_of_length-le, drop-cons, get_or-take, take_at, drop_at, le-leb}
use Rattle.std.proofs.lemmas.Bool.{lt-leb}
use Rattle.basis.specs.Guard.{guard}
use Rattle.records.specs.Tables.{Tables}
use Rattle.reader.specs.Pieces.{joined, Pasted}
use Rattle.reader.specs.Laws.Pieces.{PiecesWhole}
use Rattle.salvage.specs.Salvage.{blank}
use Rattle.salvage.specs.Writing.{blank_at, blanks}
use Rattle.salvage.specs.Laws.Mending.{Mends, ends, keeps, blanks as blanked}

pub blank_out : (d : List ℕ) (l : ℕ) → length d < 32 * l + 32 → d ≡ blank_at d l
unfolding blank_at guard
blank_out d l h = rw (lt-leb (32 * l + 32) (length d) h)

pub blank_in : (d : List ℕ) (l : ℕ) (o : List ℕ) → 32 * l + 32 ≤ length d → Pasted d (32 * l) blank 32 o → o ≡ blank_at d l
unfolding blank_at guard
blank_in d l o h p = rw (le-leb (32 * l + 32) (length d) h) p.is

-- from number j of the first k on
unfoldable pub blanks_left : List ℕ → ℕ → ℕ → List ℕ → List ℕ
unfolding blanks
blanks_left list k j d = blanks (drop j (take k list)) d

pub blanks_start : (list : List ℕ) (k : ℕ) (d : List ℕ) → blanks_left list k 0 d ≡ blanks (take k list) d
unfolding blanks_left
blanks_start list k d = refl

pub blanks_next : (list : List ℕ) (k j : ℕ) (d w u : List ℕ) (g l : ℕ)
    → blanks_left list k j d ≡ w → j < k → k ≤ length list → g ≡ get_or list j 0 → l ≡ g → u ≡ blank_at d l → blanks_left list k (j + 1) u ≡ w
unfolding blanks_left blanks
blanks_next list k j d w u g l e h n q f p =
    let t : length (take k list) ≡ k = rw length-take (omega arith) in
    let z : get_or (take k list) j 0 ≡ l = get_or-take k list j 0 h ∙ sym (f ∙ q) in
    rw (add-one, p) (rw (drop-cons (take k list) j 0 (omega arith), z) at e)

pub blanks_end : (list : List ℕ) (k j : ℕ) (d w : List ℕ) → blanks_left list k j d ≡ w → k ≤ j → d ≡ w
unfolding blanks_left blanks
blanks_end list k j d w e h = let t : length (take k list) ≤ j = rw length-take (omega arith) in rw (drop_of_length-le (take k list) t) at e

-- ---- blanking the listed records of the file gives the repaired one

blank_here : (p x : List ℕ) (i : ℕ) (rest : List ℕ) → length p ≡ 32 * i → length x ≡ 32 → blank_at (p ++ (x ++ rest)) i ≡ p ++ (blank ++ rest)
unfolding blank_at guard
blank_here p x i rest lp lx =
    let a = take_at p (x ++ rest) (32 * i) lp in
    let b : drop (32 * i + 32) (p ++ (x ++ rest)) ≡ rest =
    ap (drop (32 * i + 32)) (sym (append_assoc p x rest)) ∙ drop_at (p ++ x) rest (32 * i + 32) (rw length-append (omega arith)) in
    let l : 32 * i + 32 ≤ length (p ++ (x ++ rest)) = rw (length-append, length-append) (omega arith) in
    rw (le-leb (32 * i + 32) (length (p ++ (x ++ rest))) l, a, b) (append_assoc p blank rest)

pub blanks_mend : {T : Tables} {i : ℕ} {xs ys : List (List ℕ)} {ls : List ℕ} → Mends T i xs ys ls
    → PiecesWhole xs → (p rest : List ℕ) → length p ≡ 32 * i → blanks ls (p ++ (joined xs ++ rest)) ≡ p ++ (joined ys ++ rest)
unfolding blanks joined
blanks_mend ends w p rest h = refl
blanks_mend (keeps {x = x} {xs = xs} {ys = ys} {ls = ls} t s m) w p rest h =
    let lx : length x ≡ 32 = w.0 in
    let e = blanks_mend m w.1 (p ++ x) rest (rw length-append (omega arith)) in
    ap (λ (d : List ℕ). blanks ls (p ++ d)) (append_assoc x (joined xs) rest)
    ∙ (ap (blanks ls) (sym (append_assoc p x (joined xs ++ rest)))
    ∙ (e ∙ (append_assoc p x (joined ys ++ rest) ∙ ap (λ (d : List ℕ). p ++ d) (sym (append_assoc x (joined ys) rest)))))
blanks_mend {i = i} (blanked {x = x} {xs = xs} {ys = ys} {ls = ls} g m) w p rest h =
    let lx : length x ≡ 32 = w.0 in
    let e = blanks_mend m w.1 (p ++ blank) rest (rw length-append (omega arith)) in
    ap (λ (d : List ℕ). blanks ls (blank_at (p ++ d) i)) (append_assoc x (joined xs) rest)
    ∙ (ap (blanks ls) (blank_here p x i (joined xs ++ rest) h w.0)
    ∙ (ap (blanks ls) (sym (append_assoc p blank (joined xs ++ rest))) ∙ (e ∙ append_assoc p blank (joined ys ++ rest))))
