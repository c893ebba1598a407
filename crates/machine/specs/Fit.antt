-- Laws of the text that fits: what is taken is a beginning, it is within the room, and the next unit is not.
use Rattle.std.specs.Prelude.{◌≡◌, refl, List, [], ◌∷◌, ◌++◌, ℕ, ◌+◌, ◌-◌, ◌≤◌, ◌<◌, max, length, leb}
use Rattle.std.proofs.Common.{sym, ap, ◌∙◌, append_assoc, zero-le, arith, length-append, le-leb, leb-true, leb-false}
use Rattle.std.proofs.lemmas.Bool.{lt-leb}
use Rattle.basis.specs.Lists.{concat_map}
use Rattle.basis.specs.Members.{All, split}
use Rattle.machine.specs.Units.{TextUnit, text_of, depth_of, written, fitting, fit}

pub concat_append : {A B : Type 0} (f : A → List B) (xs ys : List A) → concat_map f (xs ++ ys) ≡ concat_map f xs ++ concat_map f ys
concat_append f [] ys = refl
concat_append f (x ∷ xs) ys = rw (concat_append f xs ys) (sym (append_assoc (f x) (concat_map f xs) (concat_map f ys)))

pub text_append : (us vs : List TextUnit) → text_of (us ++ vs) ≡ text_of us ++ text_of vs
text_append us vs = concat_append (λ (u : TextUnit). u.bytes) us vs

pub size_append : (us vs : List TextUnit) → length (text_of (us ++ vs)) ≡ length (text_of us) + length (text_of vs)
size_append us vs = rw text_append (length-append (text_of us) (text_of vs))

pub size_cons : (u : TextUnit) (us : List TextUnit) → length (text_of (u ∷ us)) ≡ length u.bytes + length (text_of us)
size_cons u us = length-append u.bytes (text_of us)

pub depth_append : (us vs : List TextUnit) → depth_of (us ++ vs) ≡ max (depth_of us) (depth_of vs)
depth_append [] vs = omega arith
depth_append (u ∷ us) vs = let h = depth_append us vs in omega arith

pub depth_within : (D : ℕ) (us : List TextUnit) → All (λ u. u.openings ≤ D) us → depth_of us ≤ D
depth_within D [] a = zero-le
depth_within D (u ∷ us) a = let h = depth_within D us a.1 in let l = a.0 in omega arith

-- ---- the units that are taken

pub fitting_begins : (room : ℕ) (us : List TextUnit) → (rest : List TextUnit) × (us ≡ fitting room us ++ rest)
fitting_begins room [] = ([], refl)
fitting_begins room (u ∷ us) =
    split (leb (length u.bytes) room)
    (λ q. let f = fitting_begins (room - length u.bytes) us in (f.0, rw (q, fitting) (ap (λ (l : List TextUnit). u ∷ l) f.1)))
    (λ q. (u ∷ us, rw (q, fitting)))

pub fitting_within : (room : ℕ) (us : List TextUnit) → length (text_of (fitting room us)) ≤ room
fitting_within room [] = zero-le
fitting_within room (u ∷ us) =
    split (leb (length u.bytes) room)
    (λ q.
    let h = fitting_within (room - length u.bytes) us in
    let l : length u.bytes ≤ room = leb-true (length u.bytes) room q in
    rw (q, fitting, size_cons u (fitting (room - length u.bytes) us)) (omega arith))
    (λ q. rw (q, fitting) zero-le)

-- they are these, if the next does not fit
pub fitting_stop : (room : ℕ) (ws : List TextUnit) (u : TextUnit) (vs : List TextUnit) → length (text_of ws) ≤ room
    → room < length (text_of ws) + length u.bytes → fitting room (ws ++ (u ∷ vs)) ≡ ws
fitting_stop room [] u vs h k = rw (lt-leb (length u.bytes) room (omega arith), fitting)
fitting_stop room (w ∷ ws) u vs h k =
    let l : length (w.bytes ++ text_of ws) ≡ length w.bytes + length (text_of ws) = size_cons w ws in
    rw (le-leb (length w.bytes) room (omega arith), fitting)
    (ap (λ (l : List TextUnit). w ∷ l) (fitting_stop (room - length w.bytes) ws u vs (omega arith) (omega arith)))

-- where not all fits there is a next unit, and it does not fit
pub record Next (room : ℕ) (us : List TextUnit) : Type 0 where
  pub unit : TextUnit
  pub rest : List TextUnit
  pub is : us ≡ fitting room us ++ (unit ∷ rest)
  pub over : room < length (text_of (fitting room us)) + length unit.bytes

pub next_unit : (room : ℕ) (us : List TextUnit) → room < length (text_of us) → Next room us
next_unit room [] h = let z : ⊥ = omega arith in absurd z
next_unit room (u ∷ us) h =
    let l : length (u.bytes ++ text_of us) ≡ length u.bytes + length (text_of us) = size_cons u us in
    split (leb (length u.bytes) room)
    (λ q.
    let b : length u.bytes ≤ room = leb-true (length u.bytes) room q in
    let x = next_unit (room - length u.bytes) us (omega arith) in
    record {
      unit = x.unit;
      rest = x.rest;
      is = rw (q, fitting) (ap (λ (l : List TextUnit). u ∷ l) x.is);
      over = rw (q, fitting, size_cons u (fitting (room - length u.bytes) us)) (let o = x.over in omega arith);
    })
    (λ q.
    let b : room < length u.bytes = leb-false (length u.bytes) room q in
    record { unit = u; rest = us; is = rw (q, fitting); over = rw (q, fitting) (omega arith) })

-- ---- the answer

module _ (num place room : ℕ) where
  pub fit_whole : (us : List TextUnit) → length (text_of us) ≤ room → fit num place room us ≡ written num place us
  fit_whole us h = rw (le-leb (length (text_of us)) room h)

  pub fit_less : (us : List TextUnit) → room < length (text_of us) → fit num place room us ≡ written 10 (length (fitting room us)) (fitting room us)
  fit_less us h = rw (lt-leb (length (text_of us)) room h)

  -- ws were written, and u does not fit: 10, whatever follows
  pub fit_full : (ws : List TextUnit) (u : TextUnit) (vs : List TextUnit) → length (text_of ws) ≤ room
      → room < length (text_of ws) + length u.bytes → fit num place room (ws ++ (u ∷ vs)) ≡ written 10 (length ws) ws
  fit_full ws u vs h k =
      let a = size_append ws (u ∷ vs) in
      let b : length (u.bytes ++ text_of vs) ≡ length u.bytes + length (text_of vs) = size_cons u vs in
      fit_less (ws ++ (u ∷ vs)) (omega arith) ∙ rw (fitting_stop room ws u vs h k)
