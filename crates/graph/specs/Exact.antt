-- What `build`, `of_file` and `check_file` promise determines their answers and every word of a drawn graph's table.
use Rattle.std.specs.Prelude.{◌≡◌, refl, Bool, List, ℕ, Result, Ok, Err}
use Rattle.std.proofs.Common.{sym, ap, ◌∙◌, arith}
use Rattle.basis.specs.Members.{clash}
use Rattle.store.specs.declared.Size.{Size}
use Rattle.store.specs.Graph.{Graph}
use Rattle.store.specs.Table.{graph_in, Stored}
use Rattle.store.specs.Exact.{size_one, table_one}
use Rattle.records.specs.declared.Refused.{Refused}
use Rattle.graph.specs.declared.Refusal.{Refusal}
use Rattle.graph.specs.declared.Refusal.TheVariants.{Learnt, NoRoom, Unreached}
use Rattle.graph.specs.declared.Stop.{Stop}
use Rattle.graph.specs.Graphs.{Outcome, drawn, refused}
use Rattle.graph.specs.Drawing.{drawing_size, Drew}
use Rattle.graph.specs.Files.{Made, Makes, number_of}
use Rattle.graph.specs.Checked.{Checks, makes_checks}

-- a refusal is known from its number
pub number_one : (r q : Refusal) → number_of r ≡ number_of q → r ≡ q
number_one Learnt Learnt e = refl
number_one Learnt NoRoom e = let f : ⊥ = omega arith in absurd f
number_one Learnt Unreached e = let f : ⊥ = omega arith in absurd f
number_one NoRoom Learnt e = let f : ⊥ = omega arith in absurd f
number_one NoRoom NoRoom e = refl
number_one NoRoom Unreached e = let f : ⊥ = omega arith in absurd f
number_one Unreached Learnt e = let f : ⊥ = omega arith in absurd f
number_one Unreached NoRoom e = let f : ⊥ = omega arith in absurd f
number_one Unreached Unreached e = refl

stop_same : (e f : Stop) → e.refusal ≡ f.refusal → e.place ≡ f.place → e.size ≡ f.size → e ≡ f
stop_same e f p q r =
    ap (λ (x : Refusal). stop x e.place e.size) p ∙ ap (λ (x : ℕ). stop f.refusal x e.size) q ∙ ap (λ (x : Size). stop f.refusal f.place x) r
  where
    stop : Refusal → ℕ → Size → Stop
    stop x i s = record { refusal = x; place = i; size = s }

pub refused_same : (r q : Refused) → r.number ≡ q.number → r.place ≡ q.place → r ≡ q
refused_same r q a b = ap (λ (k : ℕ). told k r.place) a ∙ ap (λ (i : ℕ). told q.number i) b
  where
    told : ℕ → ℕ → Refused
    told k i = record { number = k; place = i }

module _ (b c : Bool) (X : Outcome) (G : Graph) (g h w v : List ℕ) where
  pub drew_table : (r q : Result Size Stop) → Drew b X G g w r → Drew c X G h v q → g ≡ h
  drew_table r q R Q = table_one g h (drawing_size r) (drawing_size q) R.stored Q.stored (R.holds ∙ sym Q.holds)

  sizes : (r q : Result Size Stop) → Drew b X G g w r → Drew c X G h v q → drawing_size r ≡ drawing_size q
  sizes r q R Q = size_one g h (drawing_size r) (drawing_size q) R.stored Q.stored (R.holds ∙ sym Q.holds)

  pub drew_answer : (r q : Result Size Stop) → Drew b X G g w r → Drew c X G h v q → r ≡ q
  drew_answer (Ok s) (Ok t) R Q = ap Ok (sizes (Ok s) (Ok t) R Q)
  drew_answer (Ok s) (Err e) R Q = let z : drawn (graph_in g s) ≡ refused (number_of e.refusal) e.place = R.is ∙ sym Q.is in clash (cc)
  drew_answer (Err e) (Ok t) R Q = let z : refused (number_of e.refusal) e.place ≡ drawn (graph_in h t) = R.is ∙ sym Q.is in clash (cc)
  drew_answer (Err e) (Err f) R Q =
      let z : refused (number_of e.refusal) e.place ≡ refused (number_of f.refusal) f.place = R.is ∙ sym Q.is in
      let a : number_of e.refusal ≡ number_of f.refusal = cc in
      let i : e.place ≡ f.place = cc in
      ap Err (stop_same e f (number_one e.refusal f.refusal a) i (sizes (Err e) (Err f) R Q))

module _ (file g h : List ℕ) where
  same_graph : (s t : Size) → Checks file g (Ok s) → Checks file h (Ok t) → graph_in g s ≡ graph_in h t
  same_graph s t R Q = let z : drawn (graph_in g s) ≡ drawn (graph_in h t) = R.is ∙ sym Q.is in cc

  pub checks_table : (s t : Size) → Checks file g (Ok s) → Checks file h (Ok t) → g ≡ h
  checks_table s t R Q = table_one g h s t R.stored Q.stored (same_graph s t R Q)

  pub checks_answer : (r q : Made) → Checks file g r → Checks file h q → r ≡ q
  checks_answer (Ok s) (Ok t) R Q = ap Ok (size_one g h s t R.stored Q.stored (same_graph s t R Q))
  checks_answer (Ok s) (Err q) R Q = let z : drawn (graph_in g s) ≡ refused q.number q.place = R.is ∙ sym Q.is in clash (cc)
  checks_answer (Err r) (Ok t) R Q = let z : refused r.number r.place ≡ drawn (graph_in h t) = R.is ∙ sym Q.is in clash (cc)
  checks_answer (Err r) (Err q) R Q =
      let z : refused r.number r.place ≡ refused q.number q.place = R.is ∙ sym Q.is in
      let a : r.number ≡ q.number = cc in
      let b : r.place ≡ q.place = cc in
      ap Err (refused_same r q a b)

module _ (file ix iy g h w v : List ℕ) where
  pub makes_table : (s t : Size) → Makes file ix g w (Ok s) → Makes file iy h v (Ok t) → g ≡ h
  makes_table s t R Q = checks_table file g h s t (makes_checks file ix g w (Ok s) R) (makes_checks file iy h v (Ok t) Q)

  pub makes_answer : (r q : Made) → Makes file ix g w r → Makes file iy h v q → r ≡ q
  makes_answer r q R Q = checks_answer file g h r q (makes_checks file ix g w r R) (makes_checks file iy h v q Q)
