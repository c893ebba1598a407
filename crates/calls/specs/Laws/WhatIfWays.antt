-- The ways through the code of the two calls of order 10.
use Rattle.std.specs.Prelude.{◌≡◌, refl, Bool, true, false, List, [], ◌++◌, ℕ, zero, suc, ◌≤◌, ◌<◌, length, drop, leb, eqb, Ok, Err}
use Rattle.std.proofs.Common.{sym, ◌∙◌, subst, zero-le, arith, le-leb}
use Rattle.std.proofs.Math.Path.{ap}
use Rattle.std.proofs.Math.Option.{Option, some}
use Rattle.std.proofs.lemmas.Bool.{lt-leb}
use Rattle.records.specs.Tables.{Tables}
use Rattle.records.specs.Read.{Reading, good, bad, read_of, tables_of}
use Rattle.index.specs.Index.{Loaded}
use Rattle.index.specs.Found.{loaded_valid, loaded_good}
use Rattle.store.specs.declared.Size.{Size}
use Rattle.store.specs.Graph.{Graph}
use Rattle.store.specs.Table.{graph_in}
use Rattle.graph.specs.Graphs.{Outcome, drawn, refused, graph_of}
use Rattle.graph.specs.Files.{Made, Makes}
use Rattle.graph.specs.Laws.Files.{makes_refused}
use Rattle.shape.specs.Graphed.{Graphed}
use Rattle.whatif.specs.Asked.{question_of, ask_drawn, ask_tables}
use Rattle.whatif.specs.Asks.{Asks}
use Rattle.whatif.specs.Laws.Callers.{asks_drawn, asks_denied}
use Rattle.whatif.specs.Laws.Graphed.{given_graphed}
use Rattle.lists.specs.Entry.{fill_to, fill_entries}
use Rattle.lists.specs.declared.entries.NodeEntry.{NodeEntry}
use Rattle.lists.specs.declared.nodes.Counted.{Counted}
use Rattle.lists.specs.Nodes.{Nodes, listed_by}
use Rattle.lists.specs.Listed.{Listed, as_many, in_room, packed}
use Rattle.lists.specs.Asked.{asked_nodes}
use Rattle.machine.specs.Units.{Result}
use Rattle.texts.specs.Wrote.{over}
use Rattle.drawing.specs.Same.{option_of}
use Rattle.explanation.specs.Explain.{refusal}
use Rattle.calls.specs.declared.Answer.{Answer}
use Rattle.calls.specs.Answers.{refusal_of}
use Rattle.calls.specs.Laws.Says.{option_is}
use Rattle.calls.specs.Nodes.{no_words, answer_of}
use Rattle.calls.specs.Laws.Nodes.{answer_counted}
use Rattle.calls.specs.Says.{Shows, result_by}
use Rattle.calls.specs.Laws.Says.{option_low}
use Rattle.calls.specs.WhatIf.{what_if_answer, what_if_left, explain_outcome, ask_read, explain_what_if, SaysWhatIf}

-- ---- the node list

-- what `fill` asks
pub asked_fits : (file : List ℕ) (s r room : ℕ) (c : Counted) (ws : List ℕ) → Listed (asked_nodes file s r) room no_words c ws → (c.count ≤ room)
    × (c.count ≤ 128)
asked_fits file s r room c ws e = (in_room (asked_nodes file s r) room no_words c ws e, e.few)

-- what the export says, in the shape of its `ensures`
abbrev pub WhatIfSaid : List ℕ → ℕ → ℕ → List NodeEntry → Answer → List NodeEntry → Type 0
WhatIfSaid file s r l a zs = (a ≡ what_if_answer file s r (length l)) × (zs ≡ what_if_left file s r l)

pub what_if_said : (file : List ℕ) (s r : ℕ) (l : List NodeEntry) (c : Counted) (ws : List ℕ) (zs : List NodeEntry)
    → Listed (asked_nodes file s r) (length l) no_words c ws → zs ≡ fill_to ws c.count l
    → WhatIfSaid file s r l (answer_of c) zs
unfolding what_if_answer what_if_left
what_if_said file s r l c ws zs e p =
    let X : Nodes = asked_nodes file s r in
    let es : List NodeEntry = listed_by X (length l) in
    let many : length es ≡ c.count = as_many X (length l) no_words c ws e in (
      ap answer_of e.counted ∙ answer_counted X (length l),
      p ∙ (fill_entries es ws c.count l (packed X (length l) no_words c ws e) many e.narrow (in_room X (length l) no_words c ws e)
          ∙ ap (λ (n : ℕ). es ++ drop n l) (sym many)),
    )

-- ---- the text

nothing : (file : List ℕ) (s r opt : ℕ) (out : List ℕ) (k p : ℕ) → explain_what_if 0 file s r opt (length out) ≡ some (refusal k p)
    → SaysWhatIf file s r opt out out (refusal_of k p)
nothing file s r opt out k p h = record { text = []; turns = 0; is = h; room = refl }

-- 12
pub what_if_option : (file : List ℕ) (s r opt : ℕ) (out : List ℕ) (a : Answer) → 1 < opt → a ≡ refusal_of 12 0 → SaysWhatIf file s r opt out out a
what_if_option file s r opt out a h q = rw q (nothing file s r opt out 12 0 (rw (lt-leb opt 1 h, explain_what_if)))

option_asked : (t : Bool) → leb (option_of t) 1 ≡ true
option_asked t = le-leb (option_of t) 1 (option_low t)

-- the file is refused; m is what it makes
module _ (file ix g w : List ℕ) (m : Made) (R : Makes file ix g w m) where
  pub what_if_unmade : (s r : ℕ) (t : Bool) (out : List ℕ) (a : Answer) (k p : ℕ) → m ≡ Err (record { number = k; place = p }) → a ≡ refusal_of k p
      → SaysWhatIf file s r (option_of t) out out a
  unfolding ask_tables
  what_if_unmade s r t out a k p e h =
      rw h
      (nothing file s r (option_of t) out k p
      (rw (option_asked t, explain_what_if)
      (makes_refused file ix g w m R (ask_read 0 s r (option_of t) (length out)) (λ l i. some (refusal l i)) (λ l i. refl)
      (λ T l i z. ap (λ (o : Outcome). explain_outcome 0 T (ask_drawn T s r o) (option_of t) (length out)) z) k p e)))

-- the file draws the graph in g; m is what the question leaves
module _ (file ix g : List ℕ) (z : Size) (s r : ℕ) (L : Loaded file ix) (d : graph_of (tables_of file) ≡ drawn (graph_in g z)) where
  asks_are : ask_tables (tables_of file) s r ≡ question_of (tables_of file) (graph_in g z) s r
  unfolding ask_tables
  asks_are = ap (ask_drawn (tables_of file) s r) d

  module _ (w₀ m₀ h w ms : List ℕ) (m : Made) (A : Asks (question_of (tables_of file) (graph_in g z) s r) g w₀ m₀ h w ms m) where
    pub what_if_denied : (t : Bool) (out : List ℕ) (a : Answer) (k p : ℕ) → m ≡ Err (record { number = k; place = p }) → a ≡ refusal_of k p → SaysWhatIf file s r (option_of t) out out a
    what_if_denied t out a k p e q =
        let x : ask_tables (tables_of file) s r ≡ refused k p = asks_are ∙ asks_denied (question_of (tables_of file) (graph_in g z) s r) g w₀ m₀ h w ms m A k p e in
        rw q (nothing file s r (option_of t) out k p (rw (option_asked t, explain_what_if, loaded_good file ix L, x)))

    module _ (u : Size) (e : m ≡ Ok u) where
      gives : question_of (tables_of file) (graph_in g z) s r ≡ drawn (graph_in h u)
      gives = asks_drawn (question_of (tables_of file) (graph_in g z) s r) g w₀ m₀ h w ms m A u e

      pub what_if_graphed : Graphed (tables_of file) (graph_in h u)
      what_if_graphed = given_graphed (tables_of file) (loaded_valid file ix L) (graph_in g z) d s r (graph_in h u) gives

      pub what_if_gives : ask_tables (tables_of file) s r ≡ drawn (graph_in h u)
      what_if_gives = asks_are ∙ gives

-- what is shown of the graph asked for is what the call says
pub what_if_shown : (file ix g : List ℕ) (z : Size) (s r : ℕ) → Loaded file ix → ask_tables (tables_of file) s r ≡ drawn (graph_in g z)
    → (t : Bool) (out left : List ℕ) (a : Answer)
    → Shows 1 (tables_of file) (graph_in g z) (option_of t) out left a → SaysWhatIf file s r (option_of t) out left a
what_if_shown file ix g z s r L x t out left a S =
    record { text = S.text; turns = S.is.turns; is = rw (option_asked t, explain_what_if, loaded_good file ix L, x) S.is.so; room = S.room }

-- ---- the option

pub what_if_file : (file : List ℕ) (s r opt : ℕ) (out left : List ℕ) (a : Answer) → opt ≤ 1 → SaysWhatIf file s r (option_of (eqb opt 1)) out left a
    → SaysWhatIf file s r opt out left a
what_if_file file s r opt out left a h S = subst (λ (o : ℕ). SaysWhatIf file s r o out left a) (option_is opt h) S
