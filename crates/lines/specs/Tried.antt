-- One line, written whole or not at all; and the lines of an entry, of which the room may take only the first.
use Rattle.std.specs.Prelude.{◌≡◌, refl, List, [], ◌∷◌, ◌++◌, ℕ, ◌+◌, ◌-◌, ◌≤◌, ◌<◌, length, Some, None, Ok, Err}
use Rattle.std.specs.declared.option.Option.{Option}
use Rattle.std.specs.declared.result.Result.{Result}
use Rattle.std.proofs.Common.{sym, ap, ◌∙◌, arith, length-append}
use Rattle.basis.specs.Lists.{concat_map}
use Rattle.texts.specs.Wrote.{Wrote}
use Rattle.texts.specs.Laws.Wrote.{wrote_one}
use Rattle.lines.specs.declared.sets.Part.{Part}

pub record LineWrote (line room left : List ℕ) (b : ℕ) : Type 0 where
  pub wrote : Wrote line room left b
  pub some : 0 < b
  pub within : b ≤ length room

pub record LineFull (line room left : List ℕ) : Type 0 where
  pub same : left ≡ room
  pub over : length room < length line

-- the line's length, or none where the room is too short for it
abbrev pub Tried : List ℕ → List ℕ → List ℕ → Option ℕ → Type 0
Tried line room left (Some b) = LineWrote line room left b
Tried line room left None = LineFull line room left

pub tried_wrote : {line o d : List ℕ} {b : ℕ} → Wrote line o d b → 0 < length line → Tried line o d (Some b)
tried_wrote {line} {o} {d} {b} w h =
    record { wrote = w; some = let c = w.count in omega arith; within = let c = w.count in let f = w.fits in omega arith }

pub tried_full : (line o : List ℕ) → length o < length line → Tried line o o None
tried_full line o h = record { same = refl; over = h }

-- ---- the lines of an entry, one behind another

abbrev pub text_all : List (List ℕ) → List ℕ
text_all ls = concat_map (λ l. l) ls

pub record LinesWhole (ls : List (List ℕ)) (room left : List ℕ) (bytes units : ℕ) : Type 0 where
  pub wrote : Wrote (text_all ls) room left bytes
  pub count : units ≡ length ls

-- `line` is the first that does not fit
pub record Broken (ls : List (List ℕ)) (room left : List ℕ) (bytes units : ℕ) : Type 0 where
  pub first : List (List ℕ)
  pub line : List ℕ
  pub rest : List (List ℕ)
  pub is : ls ≡ first ++ (line ∷ rest)
  pub wrote : Wrote (text_all first) room left bytes
  pub count : units ≡ length first
  pub over : length room < bytes + length line

-- all lines, or those before the first that does not fit
abbrev pub Lined : List (List ℕ) → List ℕ → List ℕ → Result Part Part → Type 0
Lined ls o d (Ok s) = LinesWhole ls o d s.bytes s.units
Lined ls o d (Err s) = Broken ls o d s.bytes s.units

-- no more bytes than the room has, and no more lines than bytes
abbrev pub Bounded : ℕ → Result Part Part → Type 0
Bounded n (Ok s) = (s.bytes ≤ n) × (s.units ≤ s.bytes)
Bounded n (Err s) = (s.bytes ≤ n) × (s.units ≤ s.bytes)

-- ---- two results that the relations allow are equal

pub tried_one : (line o d e : List ℕ) (r q : Option ℕ) → Tried line o d r → Tried line o e q → (r ≡ q) × (d ≡ e)
tried_one line o d e (Some n) (Some m) x y = let w = wrote_one x.wrote y.wrote in (ap Some w.1, w.0)
tried_one line o d e (Some n) None x y =
    let z : ⊥ = (let f = x.wrote.fits in let g = y.over in omega arith) in
    absurd z
tried_one line o d e None (Some m) x y =
    let z : ⊥ = (let f = x.over in let g = y.wrote.fits in omega arith) in
    absurd z
tried_one line o d e None None x y = (refl, x.same ∙ sym y.same)

text_length_lem : (l : List ℕ) (ls : List (List ℕ)) → length (text_all (l ∷ ls)) ≡ length l + length (text_all ls)
text_length_lem l ls = length-append l (text_all ls)

text_least : (ls : List (List ℕ)) (l : List ℕ) (ms : List (List ℕ)) → length (text_all ls) + length l ≤ length (text_all (ls ++ (l ∷ ms)))
text_least [] l ms = let a = text_length_lem l ms in omega arith
text_least (x ∷ ls) l ms = let h = text_least ls l ms in let a = text_length_lem x ls in let b = text_length_lem x (ls ++ (l ∷ ms)) in omega arith

same_head : {A : Type 0} {x y : A} {xs ys : List A} → ◌≡◌ {A = List A} (x ∷ xs) (y ∷ ys) → x ≡ y
same_head e = cc

same_tail : {A : Type 0} {x y : A} {xs ys : List A} → ◌≡◌ {A = List A} (x ∷ xs) (y ∷ ys) → xs ≡ ys
same_tail e = cc

-- the lines before the first that does not fit
same_first : (f g : List (List ℕ)) (l m : List ℕ) (fs gs : List (List ℕ)) (room : ℕ) → f ++ (l ∷ fs) ≡ g ++ (m ∷ gs) → length (text_all f) ≤ room
    → room < length (text_all f) + length l
    → length (text_all g) ≤ room → room < length (text_all g) + length m → f ≡ g
same_first [] [] l m fs gs room e a b c d = refl
same_first [] (y ∷ g) l m fs gs room e a b c d =
    let q : length l ≡ length y = ap length (same_head e) in
    let t = text_length_lem y g in
    let z : ⊥ = omega arith in
    absurd z
same_first (x ∷ f) [] l m fs gs room e a b c d =
    let q : length x ≡ length m = ap length (same_head e) in
    let t = text_length_lem x f in
    let z : ⊥ = omega arith in
    absurd z
same_first (x ∷ f) (y ∷ g) l m fs gs room e a b c d =
    let q = same_head e in
    let i = text_length_lem x f in
    let j = text_length_lem y g in
    let n : length x ≡ length y = ap length q in
    let t = same_first f g l m fs gs (room - length x) (same_tail e) (omega arith) (omega arith) (omega arith) (omega arith) in
    rw (q, t)

whole_broken : {ls : List (List ℕ)} {o d e : List ℕ} {b c u v : ℕ} → LinesWhole ls o d b u → Broken ls o e c v → ⊥
whole_broken {ls} {o} {d} {e} {b} {c} {u} {v} x y =
    let t = text_least y.first y.line y.rest in
    let q : length (text_all ls) ≡ length (text_all (y.first ++ (y.line ∷ y.rest))) = ap (λ (z : List (List ℕ)). length (text_all z)) y.is in
    let f = x.wrote.fits in
    let g = y.wrote.count in
    let h = y.over in
    omega arith

part_one : (s t : Part) → s.bytes ≡ t.bytes → s.units ≡ t.units → s ≡ t
part_one s t a b = ap (λ (n : ℕ). record { bytes = n; units = s.units }) a ∙ ap (λ (n : ℕ). record { bytes = t.bytes; units = n }) b

pub lined_one : (ls : List (List ℕ)) (o d e : List ℕ) (r q : Result Part Part) → Lined ls o d r → Lined ls o e q → (r ≡ q) × (d ≡ e)
lined_one ls o d e (Ok s) (Ok t) x y =
    let w = wrote_one x.wrote y.wrote in (ap Ok (part_one s t w.1 (x.count ∙ sym y.count)), w.0)
lined_one ls o d e (Ok s) (Err t) x y = absurd (whole_broken x y)
lined_one ls o d e (Err s) (Ok t) x y = absurd (whole_broken y x)
lined_one ls o d e (Err s) (Err t) x y =
    let p = x.wrote.count in
    let q = y.wrote.count in
    let f : x.first ≡ y.first =
    same_first x.first y.first x.line y.line x.rest y.rest (length o) (sym x.is ∙ y.is) x.wrote.fits (let h = x.over in
    omega arith) y.wrote.fits (let h = y.over in omega arith) in
    let w = wrote_one x.wrote (rw (← f) at y.wrote) in
    (ap Err (part_one s t w.1 (x.count ∙ ap length f ∙ sym y.count)), w.0)
