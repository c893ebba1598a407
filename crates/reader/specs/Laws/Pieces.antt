-- A file cut into its records and put together again.
use Rattle.std.specs.Prelude.{◌≡◌, refl, List, [], ◌∷◌, ◌++◌, map, ℕ, zero, suc, ◌+◌, ◌*◌, ◌/◌, ◌%◌, ◌≤◌, ◌<◌, length, get_or, take, drop}
use Rattle.std.proofs.Common.{sym, ap, ◌∙◌, arith, not-suc-le-zero, le_of_suc-le-suc, length-take, length-drop, length-append, drop-drop, take_at, drop_at, take-add, take_all}
use Rattle.basis.specs.Members.{All}
use Rattle.records.specs.Shapes.{Rec, cut, rec_of, records_of}
use Rattle.reader.specs.Pieces.{pieces, joined}

-- 32 bytes each
abbrev pub PiecesWhole : List (List ℕ) → Type 0
PiecesWhole xs = All (λ x. length x ≡ 32) xs

pub length_pieces : (n : ℕ) (s : List ℕ) → length (pieces n s) ≡ n
unfolding pieces
length_pieces zero s = refl
length_pieces (suc n) s = ap suc (length_pieces n (drop 32 s))

pub pieces_whole : (n : ℕ) (s : List ℕ) → 32 * n ≤ length s → PiecesWhole (pieces n s)
unfolding pieces
pieces_whole zero s h = tt
pieces_whole (suc n) s h = (rw length-take (omega arith), pieces_whole n (drop 32 s) (rw length-drop (omega arith)))

pub cut_pieces : (n : ℕ) (s : List ℕ) → cut n s ≡ map rec_of (pieces n s)
unfolding pieces cut
cut_pieces zero s = refl
cut_pieces (suc n) s = ap (λ (l : List Rec). rec_of (take 32 s) ∷ l) (cut_pieces n (drop 32 s))

pub pieces_at : (n : ℕ) (s : List ℕ) (j : ℕ) → j < n → get_or (pieces n s) j [] ≡ take 32 (drop (32 * j) s)
unfolding pieces
pieces_at zero s j h = absurd (not-suc-le-zero h)
pieces_at (suc n) s zero h = refl
pieces_at (suc n) s (suc j) h =
    let m : 32 + 32 * j ≡ 32 * suc j = omega arith in
    pieces_at n (drop 32 s) j (le_of_suc-le-suc h) ∙ ap (λ (t : List ℕ). take 32 t) (drop-drop (32 * j) 32 s ∙ ap (λ (k : ℕ). drop k s) m)

-- ---- and together again

pub length_joined : (xs : List (List ℕ)) → PiecesWhole xs → length (joined xs) ≡ 32 * length xs
unfolding joined
length_joined [] w = refl
length_joined (x ∷ xs) w =
    let a : length x ≡ 32 = w.0 in
    let b : length (joined xs) ≡ 32 * length xs = length_joined xs w.1 in
    rw length-append (omega arith)

pub pieces_joined : (xs : List (List ℕ)) → PiecesWhole xs → pieces (length xs) (joined xs) ≡ xs
unfolding pieces joined
pieces_joined [] w = refl
pieces_joined (x ∷ xs) w =
    rw (take_at x (joined xs) 32 w.0, drop_at x (joined xs) 32 w.0) (ap (λ (l : List (List ℕ)). x ∷ l) (pieces_joined xs w.1))

pub joined_pieces : (n : ℕ) (s : List ℕ) → joined (pieces n s) ≡ take (32 * n) s
unfolding pieces joined
joined_pieces zero s = refl
joined_pieces (suc n) s =
    let m : 32 + 32 * n ≡ 32 * suc n = omega arith in
    ap (λ (l : List ℕ). take 32 s ++ l) (joined_pieces n (drop 32 s)) ∙ (sym (take-add 32 (32 * n) s) ∙ ap (λ (k : ℕ). take k s) m)

pub joined_file : (s : List ℕ) → length s % 32 ≡ 0 → joined (pieces (length s / 32) s) ≡ s
joined_file s h =
    let m : length s ≤ 32 * (length s / 32) = omega arith in
    joined_pieces (length s / 32) s ∙ take_all (32 * (length s / 32)) s m

pub records_joined : (xs : List (List ℕ)) → PiecesWhole xs → records_of (joined xs) ≡ map rec_of xs
records_joined xs w =
    let l : length (joined xs) ≡ 32 * length xs = length_joined xs w in
    let m : length (joined xs) / 32 ≡ length xs = omega arith in
    cut_pieces (length (joined xs) / 32) (joined xs) ∙ (ap (λ (n : ℕ). map rec_of (pieces n (joined xs))) m ∙ ap (map rec_of) (pieces_joined xs w))
