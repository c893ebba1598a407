-- The levels above a line's own as text, level by level: laws of the loop that writes them.
use Rattle.std.specs.Prelude.{◌≡◌, refl, Bool, true, false, List, [], ◌∷◌, ◌++◌, ℕ, zero, suc, ◌+◌, ◌*◌, ◌-◌, ◌≤◌, ◌<◌, length, take, drop}
use Rattle.std.proofs.Common.{sym, ap, ◌∙◌, append_assoc, append-nil, not-suc-le-zero, add-one, arith, length-append, length-drop, length-take}
use borrow.Rule.Slice.PartMut.{put_mid}
use Rattle.texts.specs.Indent.{older, deepest, unless_top, above, indent}
use Rattle.texts.specs.MarkBits.{bit, marks_at}
use Rattle.texts.specs.Wrote.{Wrote}
use Rattle.texts.specs.Laws.Wrote.{wrote_none}
use Rattle.texts.specs.Pieces.{Near, near_more, near_last}

-- the first level shown: the top one only with the option
unfoldable pub shown_first : Bool → ℕ
shown_first true = 0
shown_first false = 1

-- the text of the n upper levels, none of them the line's own
unfoldable pub above_text : Bool → List ℕ → ℕ → List ℕ
above_text top ws n = above top (marks_at ws n) []

above_behind : (top : Bool) (ms : List Bool) (rest : List ℕ) → above top ms rest ≡ above top ms [] ++ rest
unfolding above
above_behind top [] rest = refl
above_behind top (m ∷ ms) rest =
    let p = unless_top top ms (older m) in
    above_behind top ms (p ++ rest) ∙ sym (append_assoc (above top ms []) p rest)
    ∙ ap (λ (l : List ℕ). l ++ rest) (ap (λ (l : List ℕ). above top ms [] ++ l) (sym (append-nil p)) ∙ sym (above_behind top ms (p ++ [])))

shown_level : (top : Bool) (ws : List ℕ) (i : ℕ) (t : List ℕ) → shown_first top ≤ i → unless_top top (marks_at ws i) t ≡ t
unfolding shown_first marks_at
shown_level true ws i t h = refl
shown_level false ws zero t h = absurd (not-suc-le-zero h)
shown_level false ws (suc i) t h = refl

pub next : (top : Bool) (ws : List ℕ) (i : ℕ) → shown_first top ≤ i → above_text top ws (suc i) ≡ above_text top ws i ++ older (bit ws i)
unfolding above_text above marks_at
next top ws i h =
    ap (λ (l : List ℕ). above top (marks_at ws i) (l ++ [])) (shown_level top ws i (older (bit ws i)) h)
    ∙ ap (λ (l : List ℕ). above top (marks_at ws i) l) (append-nil (older (bit ws i)))
    ∙ above_behind top (marks_at ws i) (older (bit ws i))

-- the text of the k levels from level i on
unfoldable pub levels_from : List ℕ → ℕ → ℕ → List ℕ
levels_from ws i zero = []
levels_from ws i (suc k) = older (bit ws i) ++ levels_from ws (i + 1) k

next_all : (top : Bool) (ws : List ℕ) (i k : ℕ) → shown_first top ≤ i → above_text top ws (i + k) ≡ above_text top ws i ++ levels_from ws i k
unfolding levels_from
next_all top ws i zero h = let z : i + 0 ≡ i = omega arith in rw z (sym (append-nil (above_text top ws i)))
next_all top ws i (suc k) h =
    let z : i + suc k ≡ i + 1 + k = omega arith in
    rw z (next_all top ws (i + 1) k (omega arith) ∙ rw (add-one, next top ws i h) (append_assoc (above_text top ws i)
    (older (bit ws i)) (levels_from ws (suc i) k)))

own : (top : Bool) (ws : List ℕ) (n : ℕ) → shown_first top ≤ n
    → indent top (marks_at ws (suc n)) ≡ above_text top ws n ++ deepest (bit ws n)
unfolding indent marks_at above_text
own top ws n h =
    ap (λ (l : List ℕ). above top (marks_at ws n) l) (shown_level top ws n (deepest (bit ws n)) h)
    ∙ above_behind top (marks_at ws n) (deepest (bit ws n))

pub own_none : (top : Bool) (ws : List ℕ) (n : ℕ) → n ≤ shown_first top → indent top (marks_at ws n) ≡ []
unfolding indent marks_at shown_first above
own_none top ws zero h = refl
own_none true ws (suc n) h = absurd (not-suc-le-zero h)
own_none false ws (suc zero) h = refl
own_none false ws (suc (suc n)) h = absurd (not-suc-le-zero (let k : suc n ≤ 0 = omega arith in k))

-- ---- widths

older_least : (m : Bool) → 3 ≤ length (older m)
unfolding older
older_least true = omega arith
older_least false = omega arith

levels_more : (ws : List ℕ) (i j k : ℕ) → j ≤ k → length (levels_from ws i j) ≤ length (levels_from ws i k)
unfolding levels_from
levels_more ws i zero k h = omega arith
levels_more ws i (suc j) zero h = absurd (not-suc-le-zero h)
levels_more ws i (suc j) (suc k) h = let l = levels_more ws (i + 1) j k (omega arith) in rw (length-append, length-append) (omega arith)

pub levels_least : (ws : List ℕ) (i k : ℕ) → 3 * k ≤ length (levels_from ws i k)
unfolding levels_from
levels_least ws i zero = omega arith
levels_least ws i (suc k) = let l = levels_least ws (i + 1) k in let o = older_least (bit ws i) in rw length-append (omega arith)

-- with s of the n - i levels to come there is room for them
pub room_for : (top : Bool) (ws o d : List ℕ) (i n s j at : ℕ) → Near (above_text top ws i) o d at → s ≡ j → s ≤ n - i
    → shown_first top ≤ i → i < n
    → length (above_text top ws n) + 7 ≤ length o → length (levels_from ws i j) + 7 ≤ length (take (length d - at) (drop at d))
room_for top ws o d i n s j at w e g h l r =
    let z : i + (n - i) ≡ n = omega arith in
    let y : length (above_text top ws n) ≡ length (above_text top ws i) + length (levels_from ws i (n - i)) =
    ap length (rw z at (next_all top ws i (n - i) h)) ∙ length-append (above_text top ws i) (levels_from ws i (n - i)) in
    let m = levels_more ws i j (n - i) (omega arith) in
    let c : at ≡ length (above_text top ws i) = w.count in
    let q : length d ≡ length o = w.same in
    rw (length-take, length-drop) (omega arith)

-- ---- ways through the loop

pub above_start : (top : Bool) (ws o : List ℕ) (i : ℕ) → i ≡ shown_first top → Near (above_text top ws i) o o 0
unfolding above_text above marks_at shown_first
above_start true ws o i e = rw e (record { count = refl; front = refl; rest = refl; same = refl; within = omega arith })
above_start false ws o i e = rw e (record { count = refl; front = refl; rest = refl; same = refl; within = omega arith })

pub above_more : (top : Bool) (ws : List ℕ) (i s j : ℕ) {o d e : List ℕ} {n m : ℕ} → Near (above_text top ws i) o d n
    → Near (levels_from ws i j) (take (length d - n) (drop n d)) e m → s ≡ j → shown_first top ≤ i
    → Near (above_text top ws (i + s)) o (put_mid n (length d - n) d e) (n + m)
above_more top ws i s j w v e h = rw (e, next_all top ws i j h) (near_more w v)

pub above_end : (top : Bool) (ws : List ℕ) (i k : ℕ) {o d : List ℕ} {n : ℕ} → Near (above_text top ws i) o d n → i ≤ k → k ≤ i → Near (above_text top ws k) o d n
above_end top ws i k w h l = let z : k ≡ i = omega arith in rw z w

-- ---- ways through `put_indent`; f is what `first` gave

pub deepest_size : (m : Bool) → length (deepest m) ≡ 7
unfolding deepest
deepest_size true = refl
deepest_size false = refl

pub own_of : (top : Bool) (ws : List ℕ) (c f : ℕ) → f < c → f ≡ shown_first top
    → indent top (marks_at ws c) ≡ above_text top ws (c - 1) ++ deepest (bit ws (c - 1))
own_of top ws c f h e =
    let z : c ≡ suc (c - 1) = omega arith in
    ap (λ (n : ℕ). indent top (marks_at ws n)) z ∙ own top ws (c - 1) (omega arith)

pub indent_none : (top : Bool) (ws : List ℕ) (c f : ℕ) {o : List ℕ} → c ≤ f → f ≡ shown_first top → Wrote (indent top (marks_at ws c)) o o 0
indent_none top ws c f h e = rw (own_none top ws (c) (omega arith)) wrote_none

pub indent_from : (top : Bool) (ws : List ℕ) (c f : ℕ) → f < c → f ≡ shown_first top → shown_first top ≤ c - 1
indent_from top ws c f h e = omega arith

pub indent_room : (top : Bool) (ws : List ℕ) (c f : ℕ) (o : List ℕ) → length (indent top (marks_at ws c)) ≤ length o → f < c → f ≡ shown_first top
    → length (above_text top ws (c - 1)) + 7 ≤ length o
indent_room top ws c f o r h e =
    let m = bit ws (c - 1) in
    let a = above_text top ws (c - 1) in
    omega (arith, ap length (own_of top ws c f h e), length-append a (deepest m), deepest_size m)

pub deepest_room : (top : Bool) (ws : List ℕ) (i n : ℕ) (o d : List ℕ) → Near (above_text top ws i) o d n → length (above_text top ws i) + 7 ≤ length o
    → 7 ≤ length (take (length d - n) (drop n d))
deepest_room top ws i n o d w r =
    let k : n ≡ length (above_text top ws i) = w.count in
    let s : length d ≡ length o = w.same in
    rw (length-take, length-drop) (omega arith)

pub indent_some : (top : Bool) (ws : List ℕ) (c f : ℕ) (m : Bool) {o d e : List ℕ} {n k : ℕ} → Near (above_text top ws (c - 1)) o d n
    → Wrote (deepest m) (take (length d - n) (drop n d)) e k → m ≡ bit ws (c - 1) → f < c → f ≡ shown_first top
    → Wrote (indent top (marks_at ws c)) o (put_mid n (length d - n) d e) (n + k)
indent_some top ws c f m w v q h e = rw (own_of top ws c f h e, ← q) (near_last w v (omega (arith, deepest_size m)))
