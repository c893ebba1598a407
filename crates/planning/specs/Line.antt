-- The kind of a package's line, by its outgoing edges: each way out of the code.
use Rattle.std.specs.Prelude.{◌≡◌, Bool, true, false, ℕ, suc, ◌+◌, ◌-◌, ◌<◌, ◌≤◌, length}
use Rattle.std.proofs.Math.Path.{refl, sym, ap}
use Rattle.std.proofs.Common.{◌∙◌, arith}
use Rattle.std.proofs.Math.Bool.{cond}
use mathlib.Core.List.{List, [], ◌∷◌}
use Rattle.basis.specs.Lists.{any, is_nil}
use Rattle.store.specs.declared.Edge.{Edge}
use Rattle.links.specs.Walk.{out_left, next_out, out_end}
use Rattle.plan.specs.Plan.{Kind, excluded, bare, conflicting, constraining, requiring, is_forbid, sets_of, by_sets, by_reasons}
use Rattle.plan.specs.Fields.{kind_by, sets_from, sets_none, sets_more}
use Rattle.planning.specs.Along.{way_cons, Only, only_none}
use Rattle.planning.specs.EdgeMarks.{edge_mark, reasons_in, forbids_in}
use Rattle.planning.specs.declared.kinds.LineKind.{LineKind}
use Rattle.planning.specs.declared.kinds.LineKind.TheVariants as L
use Rattle.planning.specs.Sets.{sets_all, SetsReady, SetsDone}

-- `kind_of`, over the stored nodes
unfoldable pub kind_for : List ℕ → List Edge → Kind
unfolding reasons_in
kind_for g es = by_reasons es (reasons_in g es)

-- what a package's words say of its line: the number of its kind, its reason, its version sets
abbrev pub kind_tag : Kind → ℕ
kind_tag (excluded r) = 0
kind_tag bare = 1
kind_tag conflicting = 2
kind_tag (constraining vs) = 3
kind_tag requiring = 4

abbrev pub kind_reason : Kind → ℕ
kind_reason (excluded r) = r
kind_reason bare = 0
kind_reason conflicting = 0
kind_reason (constraining vs) = 0
kind_reason requiring = 0

abbrev pub kind_sets : Kind → List ℕ
kind_sets (excluded r) = []
kind_sets bare = []
kind_sets conflicting = []
kind_sets (constraining vs) = vs
kind_sets requiring = []

-- the same of a line as the code holds it: its number, its reason, and where its version sets begin, which end at kc
abbrev pub line_tag : LineKind → ℕ
line_tag (L.Excluded r) = 0
line_tag L.Bare = 1
line_tag L.Conflicting = 2
line_tag (L.Constraining c) = 3
line_tag L.Requiring = 4

abbrev pub line_reason : LineKind → ℕ
line_reason (L.Excluded r) = r
line_reason L.Bare = 0
line_reason L.Conflicting = 0
line_reason (L.Constraining c) = 0
line_reason L.Requiring = 0

abbrev pub line_first : ℕ → LineKind → ℕ
line_first kc (L.Excluded r) = kc
line_first kc L.Bare = kc
line_first kc L.Conflicting = kc
line_first kc (L.Constraining c) = c
line_first kc L.Requiring = kc

pub record LineDone (g : List ℕ) (es : List Edge) (k : List ℕ) (kc : ℕ) (u : List ℕ) (kind reason kid : ℕ) : Type 0 where
  pub is : kind_by kind reason (sets_from u kid kc) ≡ kind_for g es
  pub kind_is : kind ≡ kind_tag (kind_for g es)
  pub reason_is : reason ≡ kind_reason (kind_for g es)
  pub sets_are : sets_from u kid kc ≡ kind_sets (kind_for g es)
  pub only : Only k u kid kc
  pub under : kid ≤ kc
  pub few : kc ≤ kid + length (sets_all es)
  pub small : kind < 8
  pub narrow : reason < 65536

some_reason : (l : List ℕ) (m : ℕ) → m ≡ edge_mark l → 0 < m → (es : List Edge) → kind_by 0 (m - 1) [] ≡ by_reasons es l
unfolding edge_mark
some_reason [] m e h es = absurd (never e h)
  where
    never : m ≡ 0 → 0 < m → ⊥
    never e h = omega arith
some_reason (r ∷ l) m e h es = let z : m - 1 ≡ r = omega arith in rw z

no_reason : (l : List ℕ) (m : ℕ) → m ≡ edge_mark l → m ≤ 0 → (es : List Edge) → by_reasons es [] ≡ by_reasons es l
unfolding edge_mark
no_reason [] m e h es = refl
no_reason (r ∷ l) m e h es = absurd (never e h)
  where
    never : m ≡ suc r → m ≤ 0 → ⊥
    never e h = omega arith

module _ (g ls k : List ℕ) (n e kc : ℕ) (z : SetsReady g ls k n e kc) (m : ℕ) (is : m ≡ edge_mark (reasons_in g (out_left g n e))) where
  pub line_excluded : m ≤ 65536 → 0 < m → LineDone g (out_left g n e) k kc k 0 (m - 1) kc
  unfolding kind_for
  line_excluded l h =
      let y : kind_by 0 (m - 1) [] ≡ kind_for g (out_left g n e) = some_reason (reasons_in g (out_left g n e)) m is h (out_left g n e) in
      record {
        is = y;
        kind_is = ap kind_tag y;
        reason_is = ap kind_reason y;
        sets_are = sets_none k kc kc (omega arith) ∙ ap kind_sets y;
        only = only_none k kc;
        under = omega arith;
        few = omega arith;
        small = omega arith;
        narrow = omega arith;
      }

  module _ (h : m ≤ 0) where
    plain : kind_for g (out_left g n e) ≡ by_reasons (out_left g n e) []
    unfolding kind_for
    plain = sym (no_reason (reasons_in g (out_left g n e)) m is h (out_left g n e))

    pub line_bare : e ≡ 0 → LineDone g (out_left g n e) k kc k 1 0 kc
    line_bare q =
        let y : kind_by 1 0 [] ≡ kind_for g (out_left g n e) = sym (plain ∙ ap (λ (es : List Edge). by_reasons es []) (out_end g n e (omega arith))) in
        record {
          is = y;
          kind_is = ap kind_tag y;
          reason_is = ap kind_reason y;
          sets_are = sets_none k kc kc (omega arith) ∙ ap kind_sets y;
          only = only_none k kc;
          under = omega arith;
          few = omega arith;
          small = omega arith;
          narrow = omega arith;
        }

    module _ (s : e ≡ 0 → ⊥) (b : Bool) (bb : b ≡ forbids_in (out_left g n e)) where
      some_edge : kind_for g (out_left g n e) ≡ cond b (kind_by 2 0 []) (by_sets (sets_of (out_left g n e)))
      unfolding forbids_in
      some_edge =
          let c = way_cons g ls n e (next_out ls (e - 1)) z.way (omega (arith, s)) refl in
          plain ∙ ap (λ (x : Bool). cond x (kind_by 1 0 []) (cond (any (λ e. is_forbid e.weight) (out_left g n e)) (kind_by 2 0 [])
          (by_sets (sets_of (out_left g n e))))) (ap is_nil c)
          ∙ ap (λ (x : Bool). cond x (kind_by 2 0 []) (by_sets (sets_of (out_left g n e)))) (sym bb)

      pub line_forbid : b ≡ true → LineDone g (out_left g n e) k kc k 2 0 kc
      line_forbid t =
          let y : kind_by 2 0 [] ≡ kind_for g (out_left g n e) = sym (some_edge ∙ ap (λ (x : Bool). cond x (kind_by 2 0 []) (by_sets (sets_of (out_left g n e)))) t) in
          record {
            is = y;
            kind_is = ap kind_tag y;
            reason_is = ap kind_reason y;
            sets_are = sets_none k kc kc (omega arith) ∙ ap kind_sets y;
            only = only_none k kc;
            under = omega arith;
            few = omega arith;
            small = omega arith;
            narrow = omega arith;
          }

      module _ (t : b ≡ false) (u : List ℕ) (c : ℕ) (y : SetsDone (out_left g n e) k kc u c) where
        last : kind_for g (out_left g n e) ≡ by_sets (sets_from u c kc)
        last = some_edge ∙ ap (λ (x : Bool). cond x (kind_by 2 0 []) (by_sets (sets_of (out_left g n e)))) t ∙ ap by_sets (sym y.sets)

        pub line_constrains : c < kc → LineDone g (out_left g n e) k kc u 3 0 c
        line_constrains l =
            let x : kind_by 3 0 (sets_from u c kc) ≡ kind_for g (out_left g n e) =
            sym (last ∙ ap by_sets (sets_more u c kc l) ∙ ap (kind_by 3 0) (sym (sets_more u c kc l))) in
            record {
              is = x;
              kind_is = ap kind_tag x;
              reason_is = ap kind_reason x;
              sets_are = ap kind_sets x;
              only = y.only;
              under = y.under;
              few = y.few;
              small = omega arith;
              narrow = omega arith;
            }

        pub line_requires : kc ≤ c → LineDone g (out_left g n e) k kc u 4 0 c
        line_requires l =
            let x : kind_by 4 0 [] ≡ kind_for g (out_left g n e) = sym (last ∙ ap by_sets (sets_none u c kc l)) in
            record {
              is = x;
              kind_is = ap kind_tag x;
              reason_is = ap kind_reason x;
              sets_are = sets_none u c kc l ∙ ap kind_sets x;
              only = y.only;
              under = y.under;
              few = y.few;
              small = omega arith;
              narrow = omega arith;
            }
