-- A text is cut into its units at its newlines: each line ends in one and has no other.
use Rattle.std.specs.Prelude.{◌≡◌, refl, Bool, true, false, ◌&&◌, List, [], ◌∷◌, ◌++◌, map, ℕ, ◌+◌, ◌≤◌, length, take, drop, eqb, leb}
use Rattle.std.proofs.Common.{sym, ap, ◌∙◌, subst, append_assoc, arith, leb-true, ne_eqb}
use Rattle.std.proofs.lemmas.Bool.{false≢true}
use Rattle.std.proofs.Math.Seq.{take-append_seam}
use Rattle.basis.specs.Lists.{all, is_nil, snoc}
use Rattle.basis.specs.Quote.{utf8}
use Rattle.basis.specs.Members.{All, all_append, split}
use Rattle.records.specs.Tables.{Tables}
use Rattle.records.specs.Views.{reason_text}
use Rattle.index.specs.Promise.{Valid}
use Rattle.store.specs.Graph.{Graph}
use Rattle.labels.specs.Runs.{Run}
use Rattle.machine.specs.Machine.{Plan, Op, requirement, candidate, Entry, entry, shows}
use Rattle.machine.specs.Units.{TextUnit, text_of}
use Rattle.machine.specs.Explained.{units_of, units_for}
use Rattle.plan.specs.Plan.{Shown, shown_of, Kind, excluded, bare, conflicting, constraining, requiring, line_kind}
use Rattle.plan.specs.Display.{package_text}
use Rattle.texts.specs.Indent.{deepest, older, unless_top, above, indent, at_top}
use Rattle.lines.specs.Lines.{top_of, run_line, set_line, set_lines, package_lines, lines_of}
use Rattle.calls.specs.declared.Answer.{Answer}
use Rattle.demands.specs.Rules.{WholeUnits, plan_in, start_in, units_in, cut_lines, lines_in}
use Rattle.demands.specs.Laws.Texts.{in_text, Clean, all_both, all_weaker, run_clean, set_clean, package_clean, reason_clean}
use Rattle.demands.specs.Laws.ReadOff.{all_first}

abbrev high : ℕ → Bool
high x = leb 32 x

-- bytes from 32 on, then a newline
pub record OneLine (l : List ℕ) : Type 0 where
  pub before : List ℕ
  pub clean : all high before ≡ true
  pub ends : l ≡ before ++ (10 ∷ [])

-- ---- cutting

cut_one : (t so rest : List ℕ) → all high t ≡ true → cut_lines so ((t ++ (10 ∷ [])) ++ rest) ≡ (so ++ (t ++ (10 ∷ []))) ∷ cut_lines [] rest
cut_one [] so rest h = refl
cut_one (x ∷ t) so rest h =
    split (high x)
    (λ q. let m : 32 ≤ x = leb-true 32 x q in
    let e : eqb x 10 ≡ false = ne_eqb x 10 (λ z. omega arith) in
    rw (e, cut_lines) (cut_one t (snoc so x) rest (rw (q, all) at h)
    ∙ ap (λ (l : List ℕ). l ∷ cut_lines [] rest) (append_assoc so (x ∷ []) (t ++ (10 ∷ [])))))
    (λ q. absurd (false≢true (rw (q, all) at h)))

pub cut_units : (us : List TextUnit) → All (λ (u : TextUnit). OneLine u.bytes) us → lines_in (text_of us) ≡ map (λ (u : TextUnit). u.bytes) us
cut_units [] a = refl
cut_units (u ∷ us) a =
    let o = a.0 in
    ap (λ (l : List ℕ). cut_lines [] (l ++ text_of us)) o.ends
    ∙ cut_one o.before [] (text_of us) o.clean
    ∙ ap (λ (l : List ℕ). l ∷ cut_lines [] (text_of us)) (sym o.ends)
    ∙ ap (λ (l : List (List ℕ)). u.bytes ∷ l) (cut_units us a.1)

-- ---- the lines of an entry

older_high : (m : Bool) → all high (older m) ≡ true
unfolding older
older_high true = refl
older_high false = refl

deepest_high : (m : Bool) → all high (deepest m) ≡ true
unfolding deepest
deepest_high true = refl
deepest_high false = refl

unless_high : (top : Bool) (ms : List Bool) (t : List ℕ) → all high t ≡ true → all high (unless_top top ms t) ≡ true
unless_high true ms t h = h
unless_high false [] t h = refl
unless_high false (m ∷ ms) t h = h

above_high : (top : Bool) (ms : List Bool) (rest : List ℕ) → all high rest ≡ true → all high (above top ms rest) ≡ true
unfolding above
above_high top [] rest h = h
above_high top (m ∷ ms) rest h =
    above_high top ms (unless_top top ms (older m) ++ rest) (all_both high (unless_top top ms (older m)) rest (unless_high top ms (older m) (older_high m)) h)

indent_high : (top : Bool) (ms : List Bool) → all high (indent top ms) ≡ true
unfolding indent
indent_high top [] = refl
indent_high top (m ∷ ms) = above_high top ms (unless_top top ms (deepest m)) (unless_high top ms (deepest m) (deepest_high m))

clean_high : (l : List ℕ) → Clean l → all high l ≡ true
clean_high l h = all_weaker in_text high (λ x t. both (leb 32 x) (leb x 126) t) l h
  where
    both : (a b : Bool) → a && b ≡ true → a ≡ true
    both true b e = refl
    both false b e = absurd (false≢true e)

module _ (e : ℕ) (T : Tables) (valid : Valid T) (G : Graph) (opt : ℕ) where
  abbrev S : Shown
  S = shown_of T G

  abbrev P : Plan Run
  P = plan_in e T G

  shown_valid : Valid S.tables
  unfolding shown_of
  shown_valid = valid

  line_one : (ms : List Bool) (t : List ℕ) → Clean t → OneLine (indent (top_of opt) ms ++ t ++ utf8 "\n")
  line_one ms t h =
      record { before = indent (top_of opt) ms ++ t; clean = all_both high (indent (top_of opt) ms) t (indent_high (top_of opt) ms) (clean_high t h); ends = refl }

  -- a wording that ends in the newline
  said_one : (ms : List Bool) (p w : List ℕ) → Clean p → Clean w → OneLine (indent (top_of opt) ms ++ p ++ (w ++ utf8 "\n"))
  said_one ms p w h g =
      let i : List ℕ = indent (top_of opt) ms in
      record {
        before = i ++ p ++ w;
        clean = all_both high (i ++ p) w (all_both high i p (indent_high (top_of opt) ms) (clean_high p h)) (clean_high w g);
        ends = sym (append_assoc (i ++ p) w (utf8 "\n"));
      }

  sets_one : (ms : List Bool) (n : ℕ) (vs : List ℕ) → All (λ (u : TextUnit). OneLine u.bytes)
      (map (λ l. record { bytes = l; openings = n }) (set_lines S opt ms vs))
  sets_one ms n [] = tt
  sets_one ms n (v ∷ vs) = (line_one (is_nil vs ∷ ms) (set_line S v) (set_clean S shown_valid v), sets_one ms n vs)

  kind_one : (ms : List Bool) (m n : ℕ) (k : Kind) → All (λ (u : TextUnit). OneLine u.bytes)
      (map (λ l. record { bytes = l; openings = m }) (package_lines S opt ms n k))
  kind_one ms m n (excluded r) =
      let i : List ℕ = indent (top_of opt) ms in
      let p : List ℕ = package_text S n in
      let w : List ℕ = utf8 " is excluded because " in
      let t : List ℕ = reason_text S.tables r in (
        record {
          before = i ++ p ++ w ++ t;
          clean =
              all_both high (i ++ p ++ w) t (all_both high (i ++ p) w (all_both high i p (indent_high (top_of opt) ms)
              (clean_high p (package_clean S shown_valid n))) refl)
              (clean_high t (reason_clean S shown_valid r));
          ends = refl;
        },
        tt,
      )
  kind_one ms m n bare = (line_one ms (package_text S n) (package_clean S shown_valid n), tt)
  kind_one ms m n conflicting =
      (said_one ms (package_text S n) (utf8 ", which conflicts with the versions reported above.") (package_clean S shown_valid n) refl, tt)
  kind_one ms m n (constraining vs) = (said_one ms (package_text S n) (utf8 " would constrain") (package_clean S shown_valid n) refl, sets_one ms m vs)
  kind_one ms m n requiring = (said_one ms (package_text S n) (utf8 " would require") (package_clean S shown_valid n) refl, tt)

  entry_one : (o : Op Run) (ms : List Bool) (b : List ℕ) → All (λ (u : TextUnit). OneLine u.bytes) (units_of P (lines_of S opt) (entry o ms b))
  entry_one (requirement r) ms b = (line_one ms (run_line S (at_top ms) r) (run_clean S shown_valid (at_top ms) r), tt)
  entry_one (candidate n) ms b = kind_one ms _ n (line_kind S n)

  entries_one : (es : List (Entry Run)) → All (λ (u : TextUnit). OneLine u.bytes) (units_for P (lines_of S opt) es)
  entries_one [] = tt
  entries_one (x ∷ es) =
      all_append (λ (u : TextUnit). OneLine u.bytes) (units_of P (lines_of S opt) x) (units_for P (lines_of S opt) es) (entry_one x.op x.marks x.branch)
      (entries_one es)

  pub units_one : (n : ℕ) → All (λ (u : TextUnit). OneLine u.bytes) (units_in e T G opt n)
  units_one n = entries_one (shows P n (start_in T G))

-- the bytes written
pub written_lines : (e : ℕ) (T : Tables) → Valid T → (G : Graph) (opt : ℕ) (out left : List ℕ) (r : Answer) (w : WholeUnits e T G opt out left r)
    → lines_in (take r.bytes left) ≡ map (λ (u : TextUnit). u.bytes) w.first
written_lines e T valid G opt out left r w =
    let b = w.begins 0 in
    let t : List ℕ = text_of w.first in
    let h : take r.bytes left ≡ t = ap (λ (n : ℕ). take n left) w.bytes ∙ ap (λ (l : List ℕ). take (length t) l) w.room
    ∙ take-append_seam t (drop (length t) out) in
    ap lines_in h
    ∙ cut_units w.first
    (all_first (λ (u : TextUnit). OneLine u.bytes) w.first b.0
    (subst (All (λ (u : TextUnit). OneLine u.bytes)) b.1 (units_one e T valid G opt (w.turns + 0))))
