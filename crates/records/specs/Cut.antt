-- The records of a file by their numbers: record i is bytes 32 i to 32 i + 31, and past the last one stands `no_rec`.
use Rattle.std.specs.Prelude.{◌≡◌, refl, cond, List, [], ◌∷◌, ℕ, zero, suc, ◌+◌, ◌*◌, ◌-◌, ◌/◌, ◌≤◌, ◌<◌, length, get_or, take, drop, ltb}
use Rattle.std.proofs.Common.{sym, ap, ◌∙◌, arith, not-suc-le-zero, le_of_suc-le-suc, length-take, drop-drop, get_or-take, get_or-drop, take-take, take_all, lt-ltb, le-ltb, ltb-true, ltb-false}
use Rattle.std.proofs.Math.Nat.{add-sub_cancel_left}
use Rattle.std.proofs.Math.ListN.{get_or-eq_default}
use Rattle.std.proofs.Math.Seq.{take-nil, drop-nil}
use Rattle.basis.specs.Members.{split}
use Rattle.records.specs.Shapes.{Rec, cut, rec_of, records_of, le16}
use Rattle.records.specs.Tables.{no_rec, at}
use Rattle.records.specs.Read.{rec_text}

pub length_cut : (n : ℕ) (s : List ℕ) → length (cut n s) ≡ n
unfolding cut
length_cut zero s = refl
length_cut (suc n) s = ap suc (length_cut n (drop 32 s))

pub cut_at : (n : ℕ) (s : List ℕ) (i : ℕ) → i < n → get_or (cut n s) i no_rec ≡ rec_of (take 32 (drop (32 * i) s))
unfolding cut
cut_at zero s i h = absurd (not-suc-le-zero h)
cut_at (suc n) s zero h = refl
cut_at (suc n) s (suc i) h =
    let m : 32 + 32 * i ≡ 32 * suc i = omega arith in
    cut_at n (drop 32 s) i (le_of_suc-le-suc h) ∙ ap (λ (t : List ℕ). rec_of (take 32 t)) (drop-drop (32 * i) 32 s ∙ ap (λ (k : ℕ). drop k s) m)

pub cut_past : (n : ℕ) (s : List ℕ) (i : ℕ) → n ≤ i → get_or (cut n s) i no_rec ≡ no_rec
cut_past n s i h = let l : length (cut n s) ≡ n = length_cut n s in get_or-eq_default (cut n s) no_rec (omega arith)

-- byte k of record i
unfoldable pub byte_in : List ℕ → ℕ → ℕ → ℕ
byte_in file i k = cond (ltb i (length file / 32)) (get_or file (32 * i + k) 0) 0

-- the 16-bit field at byte k of record i
unfoldable pub word_in : List ℕ → ℕ → ℕ → ℕ
word_in file i k = byte_in file i k + 256 * byte_in file i (k + 1)

module _ (file : List ℕ) (i : ℕ) where
  pub byte_in_lem : (k x : ℕ) → i < length file / 32 → x ≡ get_or file (32 * i + k) 0 → x ≡ byte_in file i k
  unfolding byte_in
  byte_in_lem k x h e = rw (lt-ltb _ _ h) e

  pub byte_past : (k : ℕ) → length file / 32 ≤ i → 0 ≡ byte_in file i k
  unfolding byte_in
  byte_past k h = rw (le-ltb _ _ h)

  -- a byte of the record's 32
  byte_of : (k : ℕ) → i < length file / 32 → k < 32 → byte_in file i k ≡ get_or (take 32 (drop (32 * i) file)) k 0
  byte_of k h l = sym (byte_in_lem k (get_or (take 32 (drop (32 * i) file)) k 0) h (get_or-take 32 (drop (32 * i) file) k 0 l ∙ get_or-drop (32 * i) file k 0))

  -- a value that the record has by its 32 bytes, and `no_rec` as it is read past the end
  either : (f : Rec → ℕ) (x : ℕ) → (i < length file / 32 → x ≡ f (rec_of (take 32 (drop (32 * i) file)))) → (length file / 32 ≤ i → x ≡ f no_rec)
      → x ≡ f (at (records_of file) i)
  either f x inside past =
      split (ltb i (length file / 32))
      (λ q. let h : i < length file / 32 = ltb-true _ _ q in inside h ∙ ap f (sym (cut_at (length file / 32) file i h)))
      (λ q. let h : length file / 32 ≤ i = ltb-false _ _ q in past h ∙ ap f (sym (cut_past (length file / 32) file i h)))

  word_of : (k : ℕ) → i < length file / 32 → k + 1 < 32 → word_in file i k ≡ le16 (take 32 (drop (32 * i) file)) k
  unfolding word_in
  word_of k h l = rw (byte_of k h (omega arith), byte_of (k + 1) h l)

  word_past : (k : ℕ) → length file / 32 ≤ i → word_in file i k ≡ 0
  unfolding word_in
  word_past k h = rw (← byte_past k h, ← byte_past (k + 1) h)

  pub kind_is : (x : ℕ) → x ≡ byte_in file i 0 → x ≡ (at (records_of file) i).kind
  kind_is x e = e ∙ either (λ r. r.kind) (byte_in file i 0) (λ h. byte_of 0 h (omega arith)) (λ h. sym (byte_past 0 h))

  pub first_is : (x : ℕ) → x ≡ byte_in file i 1 → x ≡ (at (records_of file) i).first
  first_is x e = e ∙ either (λ r. r.first) (byte_in file i 1) (λ h. byte_of 1 h (omega arith)) (λ h. sym (byte_past 1 h))

  pub a_is : (x : ℕ) → x ≡ word_in file i 2 → x ≡ (at (records_of file) i).a
  a_is x e = e ∙ either (λ r. r.a) (word_in file i 2) (λ h. word_of 2 h (omega arith)) (λ h. word_past 2 h)

  pub b_is : (x : ℕ) → x ≡ word_in file i 4 → x ≡ (at (records_of file) i).b
  b_is x e = e ∙ either (λ r. r.b) (word_in file i 4) (λ h. word_of 4 h (omega arith)) (λ h. word_past 4 h)

  pub c_is : (x : ℕ) → x ≡ word_in file i 6 → x ≡ (at (records_of file) i).c
  c_is x e = e ∙ either (λ r. r.c) (word_in file i 6) (λ h. word_of 6 h (omega arith)) (λ h. word_past 6 h)

-- ---- the text as a part of the file

drop_take : {A : Type 0} (k n : ℕ) (l : List A) → drop k (take (k + n) l) ≡ take n (drop k l)
drop_take zero n l = let e : 0 + n ≡ n = omega arith in ap (λ (m : ℕ). take m l) e
drop_take (suc k) n [] = simp (take-nil, drop-nil)
drop_take (suc k) n (x ∷ xs) = let e : suc k + n ≡ suc (k + n) = omega arith in ap (λ (m : ℕ). drop (suc k) (take m (x ∷ xs))) e ∙ drop_take k n xs

text_bytes : (file : List ℕ) (i n : ℕ) → n ≤ 24 → take n (rec_of (take 32 (drop (32 * i) file))).text ≡ take n (drop (32 * i + 8) file)
text_bytes file i n h =
    take-take n 24 (drop 8 (take 32 (drop (32 * i) file))) h
    ∙ (ap (take n) (drop_take 8 24 (drop (32 * i) file)) ∙ (take-take n 24 (drop 8 (drop (32 * i) file)) h ∙ ap (take n) (drop-drop 8 (32 * i) file)))

module _ (file : List ℕ) (i b n : ℕ) (h : i < length file / 32) (is : b ≡ (at (records_of file) i).first) (w : n ≡ b) where
  rec_is : at (records_of file) i ≡ rec_of (take 32 (drop (32 * i) file))
  rec_is = cut_at (length file / 32) file i h

  pub text_short : n ≤ 24 → take (32 * i + 8 + n - (32 * i + 8)) (drop (32 * i + 8) file) ≡ rec_text (at (records_of file) i)
  text_short l = rw (add-sub_cancel_left, ← text_bytes file i n l, w, is, rec_is)

  pub text_long : 24 < n → take (32 * i + 32 - (32 * i + 8)) (drop (32 * i + 8) file) ≡ rec_text (at (records_of file) i)
  text_long l =
      let m : 32 * i + 32 - (32 * i + 8) ≡ 24 = omega arith in
      let r : length (rec_of (take 32 (drop (32 * i) file))).text ≤ 24 = simp length-take (omega arith) in
      let g : take n (rec_of (take 32 (drop (32 * i) file))).text ≡ (rec_of (take 32 (drop (32 * i) file))).text = take_all n _ (omega arith) in
      let v : take 24 (rec_of (take 32 (drop (32 * i) file))).text ≡ (rec_of (take 32 (drop (32 * i) file))).text = take_all 24 _ r in
      rw (m, ← text_bytes file i 24 (omega arith), v, ← g, w, is, rec_is)

pub text_none : (file : List ℕ) (i : ℕ) → length file / 32 ≤ i → take (0 - 0) (drop 0 file) ≡ rec_text (at (records_of file) i)
text_none file i h = rw (cut_past (length file / 32) file i h)

-- the text's bytes from byte n on, unused ones and all
pub text_rest : (file : List ℕ) (i b n : ℕ) → i < length file / 32 → n ≡ b → b ≤ 24
    → take (32 * i + 32 - (32 * i + 8 + n)) (drop (32 * i + 8 + n) file) ≡ drop b (at (records_of file) i).text
text_rest file i b n h w l =
    let m : 32 * i + 32 - (32 * i + 8 + b) ≡ 24 - b = omega arith in
    let p : b + (24 - b) ≡ 24 = omega arith in
    let q : 32 * i + (8 + b) ≡ 32 * i + 8 + b = omega arith in
    let d : drop b (take 24 (drop 8 (drop (32 * i) file))) ≡ take (24 - b) (drop b (drop 8 (drop (32 * i) file))) =
    ap (λ (k : ℕ). drop b (take k (drop 8 (drop (32 * i) file)))) (sym p) ∙ drop_take b (24 - b) (drop 8 (drop (32 * i) file)) in
    rw (w, m, rec_is file i (at (records_of file) i).first (at (records_of file) i).first h refl refl)
    (sym (ap (λ (t : List ℕ). drop b (take 24 t)) (drop_take 8 24 (drop (32 * i) file))
    ∙ (ap (drop b) (take-take 24 24 (drop 8 (drop (32 * i) file)) (omega arith))
    ∙ (d ∙ ap (take (24 - b)) (drop-drop b 8 (drop (32 * i) file) ∙ (drop-drop (8 + b) (32 * i) file ∙ ap (λ (k : ℕ). drop k file) q))))))

pub rest_none : (file : List ℕ) (i b : ℕ) → length file / 32 ≤ i → take (0 - 0) (drop 0 file) ≡ drop b (at (records_of file) i).text
rest_none file i b h = rw (cut_past (length file / 32) file i h) (sym (drop-nil b))
