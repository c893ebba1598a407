-- A line's bytes and its length, by the ways through the code that writes it.
use Rattle.std.specs.Prelude.{◌≡◌, refl, List, [], ◌∷◌, ◌++◌, ℕ, ◌+◌, ◌-◌, ◌/◌, ◌%◌, ◌≤◌, ◌<◌, length, take, drop}
use Rattle.std.proofs.Common.{sym, ap, ◌∙◌, append_assoc, arith, length-append}
use borrow.Author.Tests.{lt-ltb, le-ltb}
use borrow.Rule.Slice.PartMut.{put_mid}
use Rattle.basis.specs.Quote.{utf8}
use Rattle.records.specs.Tables.{Tables}
use Rattle.store.specs.declared.ConflictNode.{ConflictNode}
use Rattle.store.specs.declared.ConflictEdge.{ConflictEdge}
use Rattle.store.specs.declared.Edge as Stored
use Rattle.store.specs.Table.{node_in, edge_in}
use Rattle.texts.specs.Wrote.{Wrote}
use Rattle.drawing.specs.declared.PenAnswer.{PenAnswer}
use Rattle.drawing.specs.Pen.{Fine, Adds, adds_one, adds_full}
use Rattle.wall.specs.Captions.{node_caption, edge_caption}
use Rattle.tgf.specs.Lines.{decimal, digit, node_line, edge_line, hash_line}
use Rattle.wall.specs.Export.{node_text, edge_text}
use Rattle.wall.specs.ExportSteps.{node_size, edge_size}

-- ---- numbers

module _ (n : ℕ) where
  decimal_one : n < 10 → decimal n ≡ digit n ∷ []
  unfolding decimal
  decimal_one h = rw (lt-ltb n 10 h)

  decimal_two : 10 ≤ n → n < 100 → decimal n ≡ digit (n / 10) ∷ digit (n % 10) ∷ []
  unfolding decimal
  decimal_two l h = rw (le-ltb n 10 l, lt-ltb n 100 h)

  decimal_three : 10 ≤ n → 100 ≤ n → decimal n ≡ digit (n / 100) ∷ digit (n / 10 % 10) ∷ digit (n % 10) ∷ []
  unfolding decimal
  decimal_three k l = rw (le-ltb n 10 k, le-ltb n 100 l)

  pub one_size : n < 10 → 1 ≡ length (decimal n)
  one_size h = rw (decimal_one h)

  pub two_size : 10 ≤ n → n < 100 → 2 ≡ length (decimal n)
  two_size l h = rw (decimal_two l h)

  pub three_size : 10 ≤ n → 100 ≤ n → 3 ≡ length (decimal n)
  three_size k l = rw (decimal_three k l)

  pub one_room : (m : ℕ) → n < 10 → length (decimal n) ≤ m → 1 ≤ m
  one_room m h k = rw (decimal_one h) at k

  pub two_room : (m : ℕ) → 10 ≤ n → n < 100 → length (decimal n) ≤ m → 2 ≤ m
  two_room m l h k = rw (decimal_two l h) at k

  pub three_room : (m : ℕ) → 10 ≤ n → 100 ≤ n → length (decimal n) ≤ m → 3 ≤ m
  three_room m j l k = rw (decimal_three j l) at k

  module _ (o d : List ℕ) (r : ℕ) where
    pub one_wrote : n < 10 → Wrote ((48 + n) ∷ []) o d r → Wrote (decimal n) o d r
    one_wrote h w = rw (decimal_one h) w

    pub two_wrote : 10 ≤ n → n < 100 → Wrote ((48 + n / 10) ∷ (48 + n % 10) ∷ []) o d r → Wrote (decimal n) o d r
    two_wrote l h w = rw (decimal_two l h) w

    pub three_wrote : 10 ≤ n → 100 ≤ n → Wrote ((48 + n / 100) ∷ (48 + n / 10 % 10) ∷ (48 + n % 10) ∷ []) o d r → Wrote (decimal n) o d r
    three_wrote k l w = rw (decimal_three k l) w

    -- how many bytes were written
    pub one_count : n < 10 → Wrote ((48 + n) ∷ []) o d r → r ≡ length (decimal n)
    one_count h w = (one_wrote h w).count

    pub two_count : 10 ≤ n → n < 100 → Wrote ((48 + n / 10) ∷ (48 + n % 10) ∷ []) o d r → r ≡ length (decimal n)
    two_count l h w = (two_wrote l h w).count

    pub three_count : 10 ≤ n → 100 ≤ n → Wrote ((48 + n / 100) ∷ (48 + n / 10 % 10) ∷ (48 + n % 10) ∷ []) o d r → r ≡ length (decimal n)
    three_count k l w = (three_wrote k l w).count

-- ---- lines

node_is : (T : Tables) (i : ℕ) (x : ConflictNode) → decimal i ++ utf8 " " ++ node_caption T x ++ utf8 "\n" ≡ node_text T i x
unfolding node_text node_line
node_is T i x =
    ap (λ (l : List ℕ). l ++ (10 ∷ [])) (append_assoc (decimal i) (32 ∷ []) (node_caption T x))
    ∙ append_assoc (decimal i) (32 ∷ node_caption T x) (10 ∷ [])

node_length : (T : Tables) (i : ℕ) (x : ConflictNode) → length (node_text T i x) ≡ node_size T i x
node_length T i x = ap length (sym (node_is T i x)) ∙ simp length-append (omega arith)

edge_is : (T : Tables) (a b : ℕ) (w : ConflictEdge) → decimal a ++ utf8 " " ++ decimal b ++ utf8 " " ++ edge_caption T w ++ utf8 "\n" ≡ edge_text T a b w
unfolding edge_text edge_line
edge_is T a b w =
    let x = decimal a in let y = decimal b in let z = edge_caption T w in
    ap (λ (l : List ℕ). l ++ (32 ∷ []) ++ z ++ (10 ∷ [])) (append_assoc x (32 ∷ []) y)
    ∙ ap (λ (l : List ℕ). l ++ z ++ (10 ∷ [])) (append_assoc x (32 ∷ y) (32 ∷ []))
    ∙ ap (λ (l : List ℕ). l ++ (10 ∷ [])) (append_assoc x (32 ∷ (y ++ (32 ∷ []))) z)
    ∙ append_assoc x (32 ∷ ((y ++ (32 ∷ [])) ++ z)) (10 ∷ [])
    ∙ ap (λ (l : List ℕ). x ++ (32 ∷ (l ++ (10 ∷ [])))) (append_assoc y (32 ∷ []) z)
    ∙ ap (λ (l : List ℕ). x ++ (32 ∷ l)) (append_assoc y (32 ∷ z) (10 ∷ []))

edge_length : (T : Tables) (a b : ℕ) (w : ConflictEdge) → length (edge_text T a b w) ≡ edge_size T a b w
edge_length T a b w = ap length (sym (edge_is T a b w)) ∙ simp length-append (omega arith)

pub node_wrote : (T : Tables) (i : ℕ) (x : ConflictNode) (o d : List ℕ) (r : ℕ) → Wrote (decimal i ++ utf8 " " ++ node_caption T x ++ utf8 "\n") o d r
    → Wrote (node_text T i x) o d r
node_wrote T i x o d r w = rw (node_is T i x) at w

pub edge_wrote : (T : Tables) (a b : ℕ) (w : ConflictEdge) (o d : List ℕ) (r : ℕ)
    → Wrote (decimal a ++ utf8 " " ++ decimal b ++ utf8 " " ++ edge_caption T w ++ utf8 "\n") o d r → Wrote (edge_text T a b w) o d r
edge_wrote T a b w o d r z = rw (edge_is T a b w) at z

-- ---- a line behind the earlier ones

module _ (a : List ℕ) (p : PenAnswer) (f : Fine a p) (z : p.number ≡ 0) where
  module _ (T : Tables) (i : ℕ) (x : ConflictNode) where
    pub node_adds : (d : List ℕ) (m : ℕ) → Wrote (node_text T i x) (take (length a - p.bytes) (drop p.bytes a)) d m
        → Adds (node_text T i x ∷ []) a p (put_mid p.bytes (length a - p.bytes) a d) (record {
          number = 0;
          place = 0;
          bytes = p.bytes + m;
          units = p.units + 1;
          depth = 0;
        })
    node_adds d m w = adds_one (node_text T i x) a p f z d m w (omega (arith, node_length T i x))

    pub node_full : (n : ℕ) → n ≡ node_size T i x → length a - p.bytes < n
        → Adds (node_text T i x ∷ []) a p a (record { number = 10; place = p.units; bytes = p.bytes; units = p.units; depth = 0 })
    node_full n q h = adds_full (node_text T i x) a p f z n (q ∙ sym (node_length T i x)) h

  module _ (T : Tables) (s t : ℕ) (w : ConflictEdge) where
    pub edge_adds : (d : List ℕ) (m : ℕ) → Wrote (edge_text T s t w) (take (length a - p.bytes) (drop p.bytes a)) d m
        → Adds (edge_text T s t w ∷ []) a p (put_mid p.bytes (length a - p.bytes) a d) (record {
          number = 0;
          place = 0;
          bytes = p.bytes + m;
          units = p.units + 1;
          depth = 0;
        })
    edge_adds d m v = adds_one (edge_text T s t w) a p f z d m v (omega (arith, edge_length T s t w))

    pub edge_full : (n : ℕ) → n ≡ edge_size T s t w → length a - p.bytes < n
        → Adds (edge_text T s t w ∷ []) a p a (record { number = 10; place = p.units; bytes = p.bytes; units = p.units; depth = 0 })
    edge_full n q h = adds_full (edge_text T s t w) a p f z n (q ∙ sym (edge_length T s t w)) h

  pub hash_adds : (d : List ℕ) (m : ℕ) → Wrote hash_line (take (length a - p.bytes) (drop p.bytes a)) d m
      → Adds (hash_line ∷ []) a p (put_mid p.bytes (length a - p.bytes) a d) (record {
        number = 0;
        place = 0;
        bytes = p.bytes + m;
        units = p.units + 1;
        depth = 0;
      })
  hash_adds d m w = adds_one hash_line a p f z d m w (omega arith)

  pub hash_full : length a - p.bytes < 2 → Adds (hash_line ∷ []) a p a (record { number = 10; place = p.units; bytes = p.bytes; units = p.units; depth = 0 })
  hash_full h = adds_full hash_line a p f z 2 refl h

-- ---- a node and an edge as the table holds them

pub node_at : (T : Tables) (g : List ℕ) (i : ℕ) (x : ConflictNode) (a : List ℕ) (p : PenAnswer) (b : List ℕ) (q : PenAnswer)
    → Adds (node_text T i x ∷ []) a p b q → x ≡ node_in g i → Adds (node_text T i (node_in g i) ∷ []) a p b q
node_at T g i x a p b q A e = rw e at A

pub edge_at : (T : Tables) (g : List ℕ) (i s t : ℕ) (e : Stored.Edge) (a : List ℕ) (p : PenAnswer) (b : List ℕ) (q : PenAnswer)
    → Adds (edge_text T s t e.weight ∷ []) a p b q → e ≡ edge_in g i → s ≡ (edge_in g i).source → t ≡ (edge_in g i).target
    → Adds (edge_text T (edge_in g i).source (edge_in g i).target (edge_in g i).weight ∷ []) a p b q
edge_at T g i s t e a p b q A qe qs qt = rw (qs, qt, qe) at A
