-- The ways through the code of `urzulempa_explain_air`.
use Rattle.std.specs.Prelude.{◌≡◌, refl, Bool, true, cond, List, ℕ, ◌≤◌, ◌<◌, leb, eqb, Err}
use Rattle.std.proofs.Common.{sym, ◌∙◌, subst}
use Rattle.std.proofs.Math.Path.{ap}
use Rattle.std.proofs.Math.Bool.{false}
use Rattle.std.proofs.lemmas.Bool.{lt-leb}
use Rattle.records.specs.Tables.{Tables}
use Rattle.records.specs.Read.{Reading, good, bad, read_of, tables_of}
use Rattle.index.specs.Index.{Loaded}
use Rattle.index.specs.Found.{loaded_good}
use Rattle.store.specs.declared.Size.{Size}
use Rattle.store.specs.Table.{graph_in}
use Rattle.graph.specs.Graphs.{drawn, refused, graph_of}
use Rattle.graph.specs.Files.{Made, Makes}
use Rattle.graph.specs.Laws.Files.{makes_refused}
use Rattle.drawing.specs.Same.{option_of}
use Rattle.air.specs.declared.Profile.{Profile}
use Rattle.air.specs.declared.Profile.TheVariants.{Passed, Refused}
use Rattle.air.specs.Profile.{profile_of}
use Rattle.calls.specs.declared.Answer.{Answer}
use Rattle.calls.specs.Answers.{refusal_of}
use Rattle.calls.specs.Laws.Says.{option_is}
use Rattle.calls.specs.Says.{Says}
use Rattle.calls.specs.Laws.Says.{says_option, says_refused}
use Rattle.calls.specs.Air.{air_built, air_read, air_of, SaysBy, SaysAir}

module _ (file : List ℕ) (opt : ℕ) (out left : List ℕ) (r : Answer) (x : Profile) (e : air_of file opt ≡ x) where
  by_profile : SaysBy x file opt out left r → SaysAir file opt out left r
  by_profile s = record { says = rw e s }

-- "12" is tested first
pub air_option : (file : List ℕ) (opt : ℕ) (out : List ℕ) (r : Answer) → 1 < opt → r ≡ refusal_of 12 0 → SaysAir file opt out out r
unfolding air_of
air_option file opt out r h q = by_profile file opt out out r Passed (rw (lt-leb opt 1 h)) (says_option 1 file opt out r h q)

option_leb : (t : Bool) → leb (option_of t) 1 ≡ true
option_leb true = refl
option_leb false = refl

-- m is what the file makes: 1 to 9
module _ (file ix g w : List ℕ) (m : Made) (R : Makes file ix g w m) where
  pub air_unmade : (t : Bool) (out : List ℕ) (r : Answer) (k p : ℕ) → m ≡ Err (record { number = k; place = p }) → r ≡ refusal_of k p → SaysAir file (option_of t) out out r
  unfolding air_of
  air_unmade t out r k p e h =
      by_profile file (option_of t) out out r Passed
      (rw (option_leb t) (makes_refused file ix g w m R air_read (λ l i. Passed) (λ l i. refl) (λ T l i z. ap (air_built T) z) k p e))
      (says_refused file ix g w m R t false out r k p e h)

-- the file is drawn, and x is what the profile says
module _ (file ix g : List ℕ) (s : Size) (x : Profile) (q : x ≡ profile_of (tables_of file) (graph_in g s)) (L : Loaded file ix)
    (e : graph_of (tables_of file) ≡ drawn (graph_in g s)) where
  is : (t : Bool) → air_of file (option_of t) ≡ x
  unfolding air_of
  is t = rw (option_leb t, loaded_good file ix L, e) (sym q)

  pub air_denied : (t : Bool) (out : List ℕ) (r : Answer) (k p : ℕ) → x ≡ Refused k p → r ≡ refusal_of k p → SaysAir file (option_of t) out out r
  air_denied t out r k p z h = by_profile file (option_of t) out out r (Refused k p) (is t ∙ z) (h, refl)

  pub air_passed : (t : Bool) (out left : List ℕ) (r : Answer) → x ≡ Passed → Says 1 file (option_of t) out left r → SaysAir file (option_of t) out left r
  air_passed t out left r z h = by_profile file (option_of t) out left r Passed (is t ∙ z) h

pub air_file : (file : List ℕ) (opt : ℕ) (out left : List ℕ) (r : Answer) → opt ≤ 1 → SaysAir file (option_of (eqb opt 1)) out left r
    → SaysAir file opt out left r
air_file file opt out left r h S = subst (λ (o : ℕ). SaysAir file o out left r) (option_is opt h) S
