-- What a file makes, with chains or without: what the one builder of both leaves, and what `check_file` promises of it.
use Rattle.std.specs.Prelude.{◌≡◌, refl, Bool, true, List, ℕ, Result, Ok, Err}
use Rattle.std.proofs.Common.{sym, ap, ◌∙◌}
use Rattle.records.specs.declared.Refused.{Refused}
use Rattle.records.specs.declared.Counts.{Counts}
use Rattle.records.specs.Read.{Reading, good, bad, read_of, answer_of, tables_of}
use Rattle.index.specs.Index.{Loaded, Held}
use Rattle.index.specs.Load.{load_loaded}
use Rattle.index.specs.Found.{loaded_good}
use Rattle.basis.specs.Members.{clash}
use Rattle.store.specs.declared.Size.{Size}
use Rattle.store.specs.Graph.{Graph}
use Rattle.store.specs.Table.{graph_in, Stored}
use Rattle.graph.specs.declared.Stop.{Stop}
use Rattle.graph.specs.Graphs.{Outcome, graph_of}
use Rattle.graph.specs.Drawing.{Drew, drawing_in}
use Rattle.graph.specs.Files.{Made, outcome_of, made_in, Standing, Makes, made_of, number_of}

-- ---- the definitions

-- a drawn graph's table keeps its promise
abbrev pub StoredIn : List ℕ → Made → Type 0
StoredIn g (Ok s) = Stored g s
StoredIn g (Err r) = Unit {0}

-- table g and answer r hold what the file makes
pub record Checks (file g : List ℕ) (r : Made) : Type 0 where
  pub is : made_in g r ≡ outcome_of file
  pub stored : StoredIn g r

-- the same, with the file's index ix and the chains w where b asks for chains
pub record MakesFor (b : Bool) (file ix g w : List ℕ) (r : Made) : Type 0 where
  pub checks : Checks file g r
  pub standing : b ≡ true → Standing file ix g w r

-- ---- the ways through the code

pub made_whole : (d : Result Size Stop) (x : Made) (s : Size) → d ≡ Ok s → x ≡ Ok s → x ≡ made_of d
made_whole d x s e q = rw e q

pub made_refused : (d : Result Size Stop) (x : Made) (e : Stop) (k : ℕ) → d ≡ Err e → k ≡ number_of e.refusal
    → x ≡ Err (record { number = k; place = e.place }) → x ≡ made_of d
made_refused d x e k f z q = rw (f, ← z) q

-- the reader's answer a taken apart
module _ (b : Bool) (file : List ℕ) (a : Result Counts Refused) (q : a ≡ answer_of (read_of file)) where
  read_bad : (e : Refused) → a ≡ Err e → read_of file ≡ bad e.number e.place
  read_bad b e = go (read_of file) (sym e ∙ q)
    where
      go : (y : Reading) → Err b ≡ answer_of y → y ≡ bad b.number b.place
      go (bad l i) f = let z : b ≡ record { number = l; place = i } = cc in rw z
      go (good T) f = clash (cc)

  pub for_unread : (ix g w : List ℕ) (r : Made) (k : Refused) → a ≡ Err k → r ≡ Err k → MakesFor b file ix g w r
  unfolding outcome_of
  for_unread ix g w r k e h = rw h (record { checks = record { is = rw (read_bad k e); stored = tt }; standing = λ _. tt })

module _ (b : Bool) (file ix g w : List ℕ) (X : Outcome) (G : Graph) where
  made_stored : (d : Result Size Stop) → Drew b X G g w d → StoredIn g (made_of d)
  made_stored (Ok s) R = R.stored
  made_stored (Err e) R = tt

  made_standing : (d : Result Size Stop) → Loaded file ix → Drew b X G g w d → b ≡ true → Standing file ix g w (made_of d)
  made_standing (Ok s) L R t = (L, R.chained t)
  made_standing (Err e) L R t = tt

made_drawing : (g : List ℕ) (d : Result Size Stop) → made_in g (made_of d) ≡ drawing_in g d
made_drawing g (Ok s) = refl
made_drawing g (Err e) = refl

pub for_drew : (b : Bool) (file ix iy g w : List ℕ) (a : Result Counts Refused) (c : Counts) (G : Graph) (d : Result Size Stop) (r : Made) → a ≡ Ok c
    → Held a file ix iy → Drew b (graph_of (tables_of file)) G g w d → r ≡ made_of d → MakesFor b file iy g w r
unfolding outcome_of
for_drew b file ix iy g w a c G d r e H R h =
    let L : Loaded file iy = load_loaded file ix iy a c H e in
    let X : Outcome = graph_of (tables_of file) in
    rw h
    (record {
      checks = record { is = made_drawing g d ∙ R.is ∙ rw (loaded_good file iy L); stored = made_stored b file iy g w X G d R };
      standing = made_standing b file iy g w X G d L R;
    })

pub for_makes : (file ix g w : List ℕ) (r : Made) → MakesFor true file ix g w r → Makes file ix g w r
for_makes file ix g w r R = record { is = R.checks.is; standing = R.standing refl }

pub for_checks : (b : Bool) (file ix g w : List ℕ) (r : Made) → MakesFor b file ix g w r → Checks file g r
for_checks b file ix g w r R = R.checks

pub makes_checks : (file ix g w : List ℕ) (r : Made) → Makes file ix g w r → Checks file g r
makes_checks file ix g w (Ok s) R = record { is = R.is; stored = R.standing.1.stored }
makes_checks file ix g w (Err r) R = record { is = R.is; stored = tt }

-- ---- for callers: what the answer tells them

module _ (file g : List ℕ) (r : Made) (R : Checks file g r) where
  pub checks_outcome : (x : Made) → r ≡ x → made_in g x ≡ outcome_of file
  checks_outcome x e = ap (made_in g) (sym e) ∙ R.is

  pub checks_stored : (s : Size) → r ≡ Ok s → Stored g s
  checks_stored s e = rw e at R.stored
