-- Document 01's cases P1 to P11 as one table, on the file's bytes.
use Rattle.std.specs.Prelude.{◌≡◌, List, [], ◌∷◌, map, ℕ, ◌≤◌, take}
use Rattle.basis.specs.Lists.{upto}
use Rattle.lists.specs.declared.entries.NodeEntry.{NodeEntry}
use Rattle.lists.specs.Nodes.{Nodes, entered, denied}
use Rattle.calls.specs.declared.Answer.{Answer}
use Rattle.calls.specs.Answers.{refusal_of}
use Rattle.demands.specs.Cases.Files.{bad_length, replay, deck_panel, merged_pair, lone, with_learnt, wide, lost, apart, panel_deck, desk}
use Rattle.demands.specs.Cases.Texts.{printed, replay_lines, indented_lines, deck_lines, pair_lines, lone_lines, wide_lines, desk_lines}

-- the rooms that a row speaks of, by their length
pub data Rooms : Type 0 where
  at_least : ℕ → Rooms
  exactly : ℕ → Rooms

abbrev pub Fits : Rooms → ℕ → Type 0
Fits (at_least n) room = n ≤ room
Fits (exactly n) room = room ≡ n

abbrev pub shortest : Rooms → ℕ
shortest (at_least n) = n
shortest (exactly n) = n

pub record Case : Type 0 where
  pub file : List ℕ
  pub option : ℕ
  pub rooms : Rooms
  -- the explanation's answer, and what it writes
  pub answer : Answer
  pub text : List ℕ
  -- the node list, or the refusal 1 to 9
  pub nodes : Nodes
  -- g + (g + 1) × u; 0 where no graph is drawn
  pub bound : ℕ

-- number, place, bytes, units, depth
abbrev pub answer : ℕ → ℕ → ℕ → ℕ → ℕ → Answer
answer n p b u d = record { number = n; place = p; bytes = b; units = u; depth = d }

-- kind (0 root, 1 solvable, 2 unresolved), number, group, installable, missing, clause
abbrev pub node : ℕ → ℕ → ℕ → ℕ → ℕ → ℕ → NodeEntry
node k n g i m c = record { kind = k; number = n; group = g; installable = i; missing = m; clause = c }

-- refused by 1 to 9, whatever the room
abbrev refused_case : List ℕ → ℕ → ℕ → Case
refused_case file k p = record { file = file; option = 0; rooms = at_least 0; answer = refusal_of k p; text = []; nodes = denied k p; bound = 0 }

-- "P1 no records."
abbrev pub p1 : Case
p1 = record { file = []; option = 0; rooms = at_least 0; answer = answer 0 0 0 0 0; text = []; nodes = entered (node 0 0 0 1 0 65535 ∷ []); bound = 0 }

-- "P2 33 bytes: 1."
abbrev pub p2 : Case
p2 = refused_case bad_length 1 0

-- "P3 Learnt in the core: 7; outside it: no refusal."
abbrev pub p3_core : Case
p3_core = refused_case (with_learnt 1) 7 1

abbrev pub p3_outside : Case
p3_outside =
    record {
      file = with_learnt 0;
      option = 0;
      rooms = at_least 67;
      answer = answer 0 0 67 2 0;
      text = printed lone_lines;
      nodes = entered (node 0 0 0 1 0 65535 ∷ node 1 0 1 1 0 0 ∷ []);
      bound = 1;
    }

-- "P4 node 128 accepted, 129: 8."
abbrev pub p4_most : Case
p4_most =
    record {
      file = wide 126;
      option = 0;
      rooms = at_least 89;
      answer = answer 0 0 89 2 0;
      text = printed wide_lines;
      nodes = entered (node 0 0 0 1 0 65535 ∷ node 1 125 1 1 0 1 ∷ map (λ i. node 1 i 1 1 0 1) (upto 125 0));
      bound = 1;
    }

abbrev pub p4_over : Case
p4_over = refused_case (wide 127) 8 1

-- "P5 solvable reached by no edge path: 9."
abbrev pub p5 : Case
p5 = refused_case lost 9 1

abbrev pub p5_unresolved : Case
p5_unresolved = refused_case apart 9 1

-- "P6 option 2 with bad length: 12."
abbrev pub p6 : Case
p6 = record { file = bad_length; option = 2; rooms = at_least 0; answer = refusal_of 12 0; text = []; nodes = denied 1 0; bound = 0 }

-- P7: "All four nodes are missing, none installable. Option 0, 155 bytes"
abbrev pub replay_nodes : List NodeEntry
replay_nodes = node 0 0 0 0 1 65535 ∷ node 2 0 1 0 1 65535 ∷ node 1 0 2 0 1 0 ∷ node 1 1 2 0 1 0 ∷ []

abbrev pub p7 : Case
p7 =
    record {
      file = replay;
      option = 0;
      rooms = at_least 155;
      answer = answer 0 0 155 3 1;
      text = printed replay_lines;
      nodes = entered replay_nodes;
      bound = 1;
    }

-- "P8: P7 with room 154: 10, place 2, 100 bytes."
abbrev pub p8 : Case
p8 =
    record {
      file = replay;
      option = 0;
      rooms = exactly 154;
      answer = answer 10 2 100 2 1;
      text = printed (take 2 replay_lines);
      nodes = entered replay_nodes;
      bound = 1;
    }

-- P9: "11 after 5 lines, depth 2"; deck is solvable 0
abbrev pub p9 : Case
p9 =
    record {
      file = deck_panel;
      option = 0;
      rooms = at_least 296;
      answer = answer 11 0 296 5 2;
      text = printed deck_lines;
      nodes = entered (node 0 0 0 0 0 65535 ∷ node 1 1 1 0 0 1 ∷ node 1 0 2 0 0 0 ∷ []);
      bound = 2;
    }

-- P10: "ends after 7 lines, depth 3, the bound met"
abbrev pub p10 : Case
p10 =
    record {
      file = merged_pair;
      option = 0;
      rooms = at_least 419;
      answer = answer 0 0 419 7 3;
      text = printed pair_lines;
      nodes = entered (node 0 0 0 0 0 65535 ∷ node 1 2 1 0 0 1 ∷ node 1 0 2 0 0 0 ∷ node 1 1 1 0 0 1 ∷ []);
      bound = 3;
    }

-- P11: "done, 2 lines, depth 0, bound 1"
abbrev pub p11 : Case
p11 =
    record {
      file = lone;
      option = 0;
      rooms = at_least 67;
      answer = answer 0 0 67 2 0;
      text = printed lone_lines;
      nodes = entered (node 0 0 0 1 0 65535 ∷ node 1 0 1 1 0 0 ∷ []);
      bound = 1;
    }

-- ---- not of document 01

-- P7 with option 1
abbrev pub indented : Case
indented =
    record {
      file = replay;
      option = 1;
      rooms = at_least 168;
      answer = answer 0 0 168 3 1;
      text = printed indented_lines;
      nodes = entered replay_nodes;
      bound = 1;
    }

-- P9 where deck is solvable 1, the place of 11
abbrev pub deck_second : Case
deck_second =
    record {
      file = panel_deck;
      option = 0;
      rooms = at_least 296;
      answer = answer 11 1 296 5 2;
      text = printed deck_lines;
      nodes = entered (node 0 0 0 0 0 65535 ∷ node 1 0 1 0 0 1 ∷ node 1 1 2 0 0 0 ∷ []);
      bound = 2;
    }

-- two runs below one package, both opened
abbrev pub two_runs : Case
two_runs =
    record {
      file = desk;
      option = 0;
      rooms = at_least 454;
      answer = answer 0 0 454 8 2;
      text = printed desk_lines;
      nodes = entered (node 0 0 0 0 1 65535 ∷ node 2 0 1 0 1 65535 ∷ node 1 0 2 0 1 0 ∷ node 1 1 3 0 1 1 ∷ node 1 2 4 0 1 2 ∷ []);
      bound = 3;
    }

abbrev pub table : List Case
table =
    p1 ∷ p2 ∷ p3_core ∷ p3_outside ∷ p4_most ∷ p4_over ∷ p5 ∷ p5_unresolved ∷ p6 ∷ p7 ∷ p8 ∷ p9 ∷ p10 ∷ p11
    ∷ indented ∷ deck_second ∷ two_runs ∷ []
