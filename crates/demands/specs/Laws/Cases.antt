-- Document 01's P2 and P6 over every content: "33 bytes: 1", "option 2 with bad length: 12".
use Rattle.std.specs.Prelude.{◌≡◌, true, false, ◌&&◌, List, ℕ, ◌%◌, ◌≤◌, ◌<◌, length, eqb, leb}
use Rattle.std.proofs.Common.{sym, ap, ◌∙◌, inr, arith, le-leb}
use Rattle.std.proofs.lemmas.Bool.{lt-leb}
use Rattle.records.specs.Read.{bad, read_of}
use Rattle.graph.specs.Files.{outcome_of}
use Rattle.explanation.specs.Explain.{refusal, is_edition, explain_edition}
use Rattle.calls.specs.declared.Answer.{Answer}
use Rattle.calls.specs.Answers.{refusal_of, check_of}
use Rattle.charts.specs.Draws.{draw_bytes, draw_file}
use Rattle.charts.specs.Edges.{edges_answer}
use Rattle.calls.specs.Nodes.{nodes_answer}
use Rattle.calls.specs.Laws.Nodes.{nodes_check}
use Rattle.calls.specs.Says.{Says}
use Rattle.charts.specs.Wall.{export_file}
use Rattle.demands.specs.Laws.Told.{refused_answer, option_twelve, early_room}

-- "length no multiple of 32"
pub odd_length : (file : List ℕ) → (eqb (length file % 32) 0 ≡ false) → read_of file ≡ bad 1 0
unfolding read_of
odd_length file h = rw h

pub thirty_three : (file : List ℕ) → length file ≡ 33 → eqb (length file % 32) 0 ≡ false
thirty_three file h = rw h

module _ (file : List ℕ) (h : length file ≡ 33) where
  read_one : read_of file ≡ bad 1 0
  read_one = odd_length file (thirty_three file h)

  -- P2, for `urzulempa_check`
  pub check_one : check_of file ≡ refusal_of 1 0
  unfolding check_of
  check_one = rw read_one

  -- for `urzulempa_nodes` and `urzulempa_edges`, `urzulempa_graphviz` and `urzulempa_tgf`
  pub nodes_one : (len : ℕ) → nodes_answer file len ≡ refusal_of 1 0
  nodes_one len = nodes_check file len (λ z. let y : 1 ≡ 0 = sym (ap (λ (a : Answer). a.number) check_one) ∙ z in omega arith) ∙ check_one

  pub edges_one : (len : ℕ) → edges_answer file len ≡ refusal_of 1 0
  unfolding edges_answer outcome_of
  edges_one len = rw read_one

  pub draw_one : (opt room : ℕ) → opt ≤ 1 → draw_file file opt room ≡ refusal 1 0
  unfolding draw_file draw_bytes
  draw_one opt room o = rw (le-leb opt 1 o, read_one)

  pub tgf_one : (room : ℕ) → export_file file room ≡ refusal 1 0
  unfolding export_file
  tgf_one room = rw read_one

  module _ (e opt : ℕ) (out left : List ℕ) (r : Answer) (S : Says e file opt out left r) where
    -- P2
    pub says_length : is_edition e ≡ true → opt ≤ 1 → (r ≡ refusal_of 1 0) × (left ≡ out)
    says_length i o =
        let b : is_edition e && leb opt 1 ≡ true = rw (i, le-leb opt 1 o) in
        refused_answer e file opt out left r S 1 0 (λ n room. rw (b, explain_edition, read_one))

-- P6 asks nothing of the file: "12 is tested first"
pub draw_twelve : (file : List ℕ) (opt room : ℕ) → 1 < opt → draw_file file opt room ≡ refusal 12 0
unfolding draw_file
draw_twelve file opt room o = rw (lt-leb opt 1 o)

pub says_option : (e : ℕ) (file : List ℕ) (opt : ℕ) (out left : List ℕ) (r : Answer) → Says e file opt out left r → 1 < opt → (r ≡ refusal_of 12 0)
    × (left ≡ out)
says_option e file opt out left r S o =
    let q = option_twelve e file opt out left r S o in
    (q, early_room e file opt out left r S (inr (ap (λ (a : Answer). a.number) q)))
