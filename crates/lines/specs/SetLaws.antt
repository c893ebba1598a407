-- Laws of the lines under "would constrain", and of all lines of a package.
use Rattle.std.specs.Prelude.{◌≡◌, Bool, true, false, ℕ, ◌+◌, ◌-◌, ◌≤◌, ◌<◌, length, take, drop, eqb, leb, Some, None, Ok, Err}
use Rattle.std.proofs.Math.Path.{refl}
use Rattle.std.proofs.Common.{ap, ◌∙◌, add-zero, arith, length-append, length-take, length-drop}
use Rattle.std.proofs.Math.Bool.{cond}
use mathlib.Core.List.{List, [], ◌∷◌, ◌++◌, append-nil, append_assoc}
use borrow.Author.Tests.{eq-eqb, ne_eqb, lt-leb, le-leb, leb-true, leb-false}
use borrow.Rule.Slice.PartMut.{put_mid}
use Rattle.std.specs.declared.option.Option.{Option}
use Rattle.std.specs.declared.result.Result.{Result}
use Rattle.basis.specs.Lists.{is_nil}
use Rattle.basis.specs.Members.{split}
use Rattle.basis.specs.Quote.{utf8}
use Rattle.records.specs.Tables.{Tables}
use Rattle.records.specs.Views.{name_text, set_name, set_text}
use Rattle.machine.specs.Fit.{concat_append}
use Rattle.texts.specs.Wrote.{Wrote}
use Rattle.texts.specs.Laws.Wrote.{wrote_none, wrote_length, behind}
use Rattle.texts.specs.Indent.{indent}
use Rattle.texts.specs.MarkBits.{marks_in, pushed, last_set}
use Rattle.texts.specs.Levels.{marks_count, pushed_below}
use Rattle.texts.specs.declared.Indenter.{Indenter}
use Rattle.plan.specs.Fields.{set_at, sets_from, sets_none, sets_more, sets_in, sets_first, sets_end, tag_in}
use Rattle.lines.specs.declared.sets.Part.{Part}
use Rattle.lines.specs.Said.{set_said, sets_said, package_said, package_all}
use Rattle.lines.specs.Tried.{Tried, LineWrote, LineFull, tried_wrote, tried_full, text_all, LinesWhole, Broken, Lined}

-- ---- the line of a version set; m: its name

abbrev pub set_pieces : Indenter → List ℕ → List ℕ → List ℕ
set_pieces g name set =
    indent g.top (marks_in g) ++ name ++ utf8 " " ++ set ++ utf8 ", which conflicts with any installable versions previously reported\n"

pub set_tried : (T : Tables) (g : Indenter) (v m : ℕ) (name set o d : List ℕ) (r : Option ℕ) → Tried (set_pieces g name set) o d r → name ≡ name_text T m
    → m ≡ set_name T v → set ≡ set_text T v
    → Tried (set_said T g.top (marks_in g) v) o d r
unfolding set_said
set_tried T g v m name set o d r t ni mi si = rw (ni, mi, si) at t

module _ (g : Indenter) (name set : List ℕ) where
  set_size : length (set_pieces g name set) ≡ length (indent g.top (marks_in g)) + 69 + length name + length set
  set_size = rw (length-append, length-append, length-append, length-append) (omega arith)

  pub set_wrote : (o d : List ℕ) (r : ℕ) → Wrote (set_pieces g name set) o d r → Tried (set_pieces g name set) o d (Some r)
  set_wrote o d r h = let l = set_size in tried_wrote h (omega arith)

  module _ (o : List ℕ) (a : ℕ) (ai : a ≡ length (indent g.top (marks_in g))) where
    pub words_full : length o < a + 69 → Tried (set_pieces g name set) o o None
    words_full h = let l = set_size in tried_full (set_pieces g name set) o (omega arith)

    pub name_full : length o - (a + 69) < length name → Tried (set_pieces g name set) o o None
    name_full h = let l = set_size in tried_full (set_pieces g name set) o (omega arith)

    pub set_full : length o - (a + 69) - length name < length set → Tried (set_pieces g name set) o o None
    set_full h = let l = set_size in tried_full (set_pieces g name set) o (omega arith)

-- ---- one level further

-- the levels above a line's own
unfoldable pub parents : List Bool → List Bool
parents [] = []
parents (m ∷ ms) = ms

-- a level that is pushed has siblings remaining
pushed_is : (g h : Indenter) → marks_in h ≡ pushed false (marks_in g) → g.count < 4160 → marks_in h ≡ false ∷ marks_in g
pushed_is g h m c = m ∙ pushed_below false (marks_in g) (let z = marks_count g in omega arith)

pub pushed_own : (g h : Indenter) → marks_in h ≡ pushed false (marks_in g) → g.count < 4160 → marks_in h ≡ false ∷ parents (marks_in h)
unfolding parents
pushed_own g h m c = rw (pushed_is g h m c)

-- the final line has the last mark, the others as it was pushed
pub turn_last : (T : Tables) (k : List ℕ) (g h : Indenter) (v i f : ℕ) (o d : List ℕ) (r : Option ℕ)
    → Tried (set_said T h.top (marks_in h) v) o d r
    → marks_in h ≡ last_set (marks_in g) → h.top ≡ g.top → v ≡ set_at k i → marks_in g ≡ false ∷ parents (marks_in g) → i ≤ f
    → Tried (set_said T g.top (leb i f ∷ parents (marks_in g)) (set_at k i)) o d r
turn_last T k g h v i f o d r t m q e p l =
    let n : marks_in h ≡ true ∷ parents (marks_in g) = m ∙ ap last_set p in
    rw (le-leb i f l) (rw (n, q, e) at t)

pub turn_others : (T : Tables) (k : List ℕ) (g : Indenter) (v i f : ℕ) (o d : List ℕ) (r : Option ℕ)
    → Tried (set_said T g.top (marks_in g) v) o d r
    → v ≡ set_at k i → marks_in g ≡ false ∷ parents (marks_in g) → f < i
    → Tried (set_said T g.top (leb i f ∷ parents (marks_in g)) (set_at k i)) o d r
turn_others T k g v i f o d r t e p l =
    let s : set_said T g.top (marks_in g) v ≡ set_said T g.top (false ∷ parents (marks_in g)) (set_at k i) =
    rw e (ap (λ (ms : List Bool). set_said T g.top ms (set_at k i)) p) in
    rw (lt-leb i f l) (rw s at t)

-- ---- lines that are written one by one

pub record Done (whole rest : List (List ℕ)) (room left : List ℕ) (at units : ℕ) : Type 0 where
  pub lines : List (List ℕ)
  pub so : LinesWhole lines room left at units
  pub is : whole ≡ lines ++ rest

pub done_start : (ls : List (List ℕ)) (o : List ℕ) → Done ls ls o o 0 0
done_start ls o = record { lines = []; so = record { wrote = wrote_none; count = refl }; is = refl }

text_more : (ls : List (List ℕ)) (l : List ℕ) → text_all (ls ++ (l ∷ [])) ≡ text_all ls ++ l
text_more ls l = concat_append (λ (x : List ℕ). x) ls (l ∷ []) ∙ rw append-nil

-- a part that was lent and comes back as it was
pub part_back : {t o d : List ℕ} {n : ℕ} (e : List ℕ) → Wrote t o d n → e ≡ take (length d - n) (drop n d) → Wrote t o (put_mid n (length d - n) d e) n
part_back {t} {o} {d} {n} e w q =
    let v : Wrote [] (take (length d - n) (drop n d)) e 0 = rw q wrote_none in
    rw (append-nil, add-zero) at (behind w v)

pub part_length : {t o d : List ℕ} {n : ℕ} → Wrote t o d n → length (take (length d - n) (drop n d)) + n ≡ length o
part_length {t} {o} {d} {n} w = let a = wrote_length w in let b = w.count in let c = w.fits in rw (length-take, length-drop) (omega arith)

module _ (whole rest : List (List ℕ)) (o d : List ℕ) (n u : ℕ) (w : Done whole rest o d n u) where
  pub done_end : rest ≡ [] → LinesWhole whole o d n u
  done_end e = rw (w.is, e, append-nil) w.so

  module _ (line : List ℕ) (rest' : List (List ℕ)) (e : rest ≡ line ∷ rest') (x : List ℕ) where
    pub done_next : (m : ℕ) → LineWrote line (take (length d - n) (drop n d)) x m → Done whole rest' o (put_mid n (length d - n) d x) (n + m) (u + 1)
    done_next m t =
        record {
          lines = w.lines ++ (line ∷ []);
          so = record {
            wrote = rw (text_more w.lines line) (behind w.so.wrote t.wrote);
            count = let c = w.so.count in rw length-append (omega arith);
          };
          is = rw (append_assoc, ← e) w.is;
        }

    pub done_full : LineFull line (take (length d - n) (drop n d)) x → Broken whole o (put_mid n (length d - n) d x) n u
    done_full t =
        record {
          first = w.lines;
          line = line;
          rest = rest';
          is = rw (← e) w.is;
          wrote = part_back x w.so.wrote t.same;
          count = w.so.count;
          over = let a = part_length w.so.wrote in let b = t.over in omega arith;
        }

-- ---- the version sets from the end down

module _ (T : Tables) (top : Bool) (ms : List Bool) (k : List ℕ) where
  nil_sets : (i e : ℕ) → is_nil (sets_from k i e) ≡ leb e i
  nil_sets i e = split (leb e i) (λ q. rw (q, sets_none k i e (leb-true e i q))) (λ q. rw (q, sets_more k i e (leb-false e i q)))

  sets_first_lem : (i e : ℕ) → i < e
      → sets_said T top ms (sets_from k i e) ≡ set_said T top (leb (e - 1) i ∷ ms) (set_at k (e - 1)) ∷ sets_said T top ms (sets_from k i (e - 1))
  unfolding sets_said
  sets_first_lem i e h = rw (sets_more k i e h, nil_sets i (e - 1))

  sets_last : (i e : ℕ) → e ≤ i → sets_said T top ms (sets_from k i e) ≡ []
  unfolding sets_said
  sets_last i e h = rw (sets_none k i e h)

  module _ (whole : List (List ℕ)) (o d : List ℕ) (n u i e : ℕ) (w : Done whole (sets_said T top ms (sets_from k i e)) o d n u) where
    pub sets_end_lem : e ≤ i → LinesWhole whole o d n u
    sets_end_lem h = done_end whole (sets_said T top ms (sets_from k i e)) o d n u w (sets_last i e h)

    module _ (h : i < e) (x : List ℕ) where
      pub sets_next : (m : ℕ) → LineWrote (set_said T top (leb (e - 1) i ∷ ms) (set_at k (e - 1))) (take (length d - n) (drop n d)) x m
          → Done whole (sets_said T top ms (sets_from k i (e - 1))) o (put_mid n (length d - n) d x) (n + m) (u + 1)
      sets_next m t =
          done_next whole (sets_said T top ms (sets_from k i e)) o d n u w (set_said T top (leb (e - 1) i ∷ ms) (set_at k (e - 1)))
          (sets_said T top ms (sets_from k i (e - 1))) (sets_first_lem i e h) x m t

      pub sets_full : LineFull (set_said T top (leb (e - 1) i ∷ ms) (set_at k (e - 1))) (take (length d - n) (drop n d)) x
          → Broken whole o (put_mid n (length d - n) d x) n u
      sets_full t =
          done_full whole (sets_said T top ms (sets_from k i e)) o d n u w (set_said T top (leb (e - 1) i ∷ ms) (set_at k (e - 1)))
          (sets_said T top ms (sets_from k i (e - 1))) (sets_first_lem i e h) x t

pub sets_of : (T : Tables) (p k : List ℕ) (g h : Indenter) (n a b : ℕ) (o d : List ℕ) (r : Result Part Part)
    → Lined (sets_said T h.top (parents (marks_in h)) (sets_from k a b)) o d r → marks_in h ≡ pushed false (marks_in g) → h.top ≡ g.top
    → g.count < 4160 → a ≡ sets_first p n → b ≡ sets_end p n → Lined (sets_said T g.top (marks_in g) (sets_in p k n)) o d r
unfolding sets_in parents
sets_of T p k g h n a b o d r l m t c ai bi = rw (pushed_is g h m c, t, ai, bi) at l

-- ---- all lines of a package

-- b bytes of its own line, and the lines under it
abbrev pub joined_part : ℕ → Part → Part
joined_part b s = record { bytes = b + s.bytes; units = 1 + s.units }

module _ (T : Tables) (p k : List ℕ) (top : Bool) (ms : List Bool) (n : ℕ) (o d : List ℕ) where
  pub package_full : LineFull (package_said T p top ms n) o d → Lined (package_all T p k top ms n) o d (Err (record { bytes = 0; units = 0 }))
  unfolding package_all
  package_full t =
      record {
        first = [];
        line = package_said T p top ms n;
        rest = cond (eqb (tag_in p n) 3) (sets_said T top ms (sets_in p k n)) [];
        is = refl;
        wrote = rw t.same wrote_none;
        count = refl;
        over = let h = t.over in omega arith;
      }

  module _ (r : ℕ) (t : LineWrote (package_said T p top ms n) o d r) (x : ℕ) (xi : x ≡ tag_in p n) where
    pub package_one : (x ≡ 3 → ⊥) → Lined (package_all T p k top ms n) o d (Ok (record { bytes = r; units = 1 }))
    unfolding package_all
    package_one h = rw (← xi, ne_eqb x 3 h) (record { wrote = rw append-nil t.wrote; count = refl })

    module _ (h : x ≡ 3) (e : List ℕ) (s a : Part) (q : a ≡ joined_part r s) where
      pub package_sets : LinesWhole (sets_said T top ms (sets_in p k n)) (take (length d - r) (drop r d)) e s.bytes s.units
          → Lined (package_all T p k top ms n) o (put_mid r (length d - r) d e) (Ok a)
      unfolding package_all
      package_sets l =
          rw (q, ← xi, eq-eqb x 3 h) (record { wrote = behind t.wrote l.wrote; count = let c = l.count in omega arith })

      pub package_short : Broken (sets_said T top ms (sets_in p k n)) (take (length d - r) (drop r d)) e s.bytes s.units
          → Lined (package_all T p k top ms n) o (put_mid r (length d - r) d e) (Err a)
      unfolding package_all
      package_short l =
          rw (q, ← xi, eq-eqb x 3 h)
          (record {
            first = package_said T p top ms n ∷ l.first;
            line = l.line;
            rest = l.rest;
            is = ap (λ (x : List (List ℕ)). package_said T p top ms n ∷ x) l.is;
            wrote = behind t.wrote l.wrote;
            count = let c = l.count in omega arith;
            over = let a = l.over in let c = part_length t.wrote in omega arith;
          })
