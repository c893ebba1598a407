-- The demands on the port, as one statement over the contracts of the public calls: for every file, option and room, with no premise that the
-- file does not bring by itself. `Says 1` is the contract of `urzulempa_explain`, and at option 1 of `urzulempa_explain_plain`; `Says e` that of
-- `urzulempa_explain_edition`; `check_of` that of `urzulempa_check`; `nodes_answer` and `nodes_left` that of `urzulempa_nodes`. The theorem is `demanded`.
use Rattle.std.specs.Prelude.{◌≡◌, refl, ◌⊎◌, true, false, ◌||◌, List, [], ◌++◌, map, ℕ, ◌+◌, ◌*◌, ◌≤◌, ◌<◌, length, take, drop}
use Rattle.std.proofs.Common.{arith}
use Rattle.basis.specs.Members.{All}
use Rattle.records.specs.Tables.{Tables}
use Rattle.records.specs.Read.{good, read_of}
use Rattle.index.specs.Promise.{Valid, promise}
use Rattle.store.specs.Graph.{Graph, node_at, is_unresolved}
use Rattle.graph.specs.Graphs.{drawn}
use Rattle.shape.specs.Graphed.{graphed}
use Rattle.whatif.specs.Asked.{ask_tables}
use Rattle.whatif.specs.Laws.Promise.{outcome_graphed}
use Rattle.air.specs.declared.Profile.TheVariants as Air
use Rattle.labels.specs.Ordered.{Acyclic}
use Rattle.labels.specs.Labels.{targets, can_install, is_lacking}
use Rattle.machine.specs.Units.{TextUnit, text_of, depth_of}
use Rattle.plan.specs.Plan.{shown_of}
use Rattle.texts.specs.Wrote.{over}
use Rattle.drawing.specs.Draw.{drawn_of, drawing_units}
use Rattle.wall.specs.Export.{export_units}
use Rattle.tgf.specs.Lent.{tgf_counts, tgf_nodes, tgf_edges}
use Rattle.tgf.specs.Read.{read_text}
use Rattle.salvage.specs.Lent.{salvage_answer, salvage_room, salvage_list}
use Rattle.writing.specs.Write.{write_answer, write_room}
use Rattle.settings.specs.Change.{change_of, room_of}
use Rattle.settings.specs.Laws.Promises.{set_refused}
use Rattle.lists.specs.declared.entries.NodeEntry.{NodeEntry}
use Rattle.lists.specs.Nodes.{flag, node_entries}
use Rattle.explanation.specs.Explain.{refusal, is_edition}
use Rattle.explanation.specs.Openings.{how_many, openings_of}
use Rattle.explanation.specs.Contract.{Drawn}
use Rattle.explanation.specs.Laws.Second.{second_openings}
use Rattle.calls.specs.declared.Answer.{Answer}
use Rattle.calls.specs.Answers.{refusal_of, check_of}
use Rattle.calls.specs.Air.{air_of, SaysAir}
use Rattle.calls.specs.Laws.Air.{says_air_one}
use Rattle.charts.specs.Draws.{result_answer, draw_file}
use Rattle.charts.specs.Edges.{edges_answer, edges_left}
use Rattle.calls.specs.Nodes.{nodes_answer, nodes_left}
use Rattle.calls.specs.Settings.{change_answer}
use Rattle.charts.specs.Wall.{export_file}
use Rattle.calls.specs.WhatIf.{what_if_answer, what_if_left, SaysWhatIf}
use Rattle.calls.specs.Laws.WhatIf.{says_what_if_one}
use Rattle.calls.specs.Write.{written_answer}
use Rattle.calls.specs.Laws.WhatIf.{list_unchanged, what_if_never}
use Rattle.calls.specs.Says.{Says, Shows}
use Rattle.calls.specs.Laws.Says.{says_one}
use Rattle.calls.specs.Laws.Second.{second_never}
use Rattle.demands.specs.Rules.{Early, Refusing, Passed, UnitsOr, units_in, EndsIn, WholeUnits, NoRoom, Looping, OthersStay, groups_in, singles_in, entry_in}
use Rattle.demands.specs.Rules.{says_installable, says_missing, lines_in, AllReadOff}
use Rattle.demands.specs.Rules as Rules
use Rattle.demands.specs.Laws.Calls.{check_passed, passed_check, passed_drawn}
use Rattle.demands.specs.Laws.Counts.{once_file}
use Rattle.demands.specs.Laws.Shown as Shown
use Rattle.demands.specs.Laws.Told as Told
use Rattle.demands.specs.Laws.Lists as Lists
use Rattle.demands.specs.Laws.Others as Others
use Rattle.demands.specs.Laws.Ends.{written_lines}
use Rattle.demands.specs.Laws.Openings.{written_off}
use Rattle.demands.specs.Laws.Labels.{apart, passed_listed, installable_listed, missing_listed}
use Rattle.demands.specs.Laws.Cases as Cases

-- ---- demand 1, by an edition

pub record Demand1 (e : ℕ) (file : List ℕ) (opt : ℕ) (out : List ℕ) : Type 0 where
  -- "every input has an answer"
  pub left : List ℕ
  pub answer : Answer
  pub says : Says e file opt out left answer
  -- "and only one"
  pub only : (l : List ℕ) (r : Answer) → Says e file opt out l r → (r ≡ answer) × (l ≡ left)
  -- "12 is tested first", then 1 to 9 as `urzulempa_check` gives them; else 0, 10 or 11
  pub twelve : 1 < opt → answer ≡ refusal_of 12 0
  pub no_edition : is_edition e ≡ false → answer ≡ refusal_of 12 0
  pub checked : is_edition e ≡ true → opt ≤ 1 → ((check_of file).number ≡ 0 → ⊥) → answer ≡ check_of file
  pub number : Early answer.number ⊎ ((answer.number ≡ 0) ⊎ ((answer.number ≡ 10) ⊎ (answer.number ≡ 11)))
  -- "1 to 9 and 12 leave the room as it came"; "the last three are 0 for 1 to 9 and 12"
  pub as_it_came : Early answer.number → left ≡ out
  pub nothing_counted : Early answer.number → answer ≡ refusal_of answer.number answer.place
  -- "10 and 11 leave whole units of the text that the Rust's rules give", and so does 0
  pub whole_units : (Early answer.number → ⊥) → (p : Passed file) × WholeUnits e p.tables p.graph opt out left answer
  -- "and change no other byte"
  pub others : OthersStay out left answer
  -- 10: "the next unit doesn't fit the room"; 11: "an unmerged package comes to be opened below itself with only unmerged ones between"
  pub ten : answer.number ≡ 10
      → (p : Passed file) × ((w : WholeUnits e p.tables p.graph opt out left answer) × NoRoom e p.tables p.graph opt out left answer w)
  pub eleven : answer.number ≡ 11 → (p : Passed file) × Looping e p.tables p.graph answer

pub first_demand : (e : ℕ) (file : List ℕ) (opt : ℕ) (out : List ℕ) → Demand1 e file opt out
first_demand e file opt out =
    let x = Told.says_some e file opt out in
    let l : List ℕ = x.0 in
    let r : Answer = x.1.0 in
    let S : Says e file opt out l r = x.1.1 in
    record {
      left = l;
      answer = r;
      says = S;
      only = λ m q T. says_one e file opt out m l q r T S;
      twelve = Told.option_twelve e file opt out l r S;
      no_edition = Told.edition_twelve e file opt out l r S;
      checked = Told.as_checked e file opt out l r S;
      number = Told.every_number e file opt out l r S;
      as_it_came = Told.early_room e file opt out l r S;
      nothing_counted = Told.early_answer e file opt out l r S;
      whole_units = Told.late_units e file opt out l r S;
      others = Told.others_stay e file opt out l r S;
      ten = Told.ten_units e file opt out l r S;
      eleven = Told.eleven_units e file opt out l r S;
    }

-- ---- demand 3, by an edition: what holds of every room, where `bound` is the edition's and `size` is enough room

pub record InRoom (e : ℕ) (T : Tables) (G : Graph) (opt bound size : ℕ) (out left : List ℕ) (r : Answer) : Type 0 where
  -- "Depth is the largest number of openings on one branch among the lines written", and no deeper than the bound
  pub lines : WholeUnits e T G opt out left r
  pub depth : r.depth ≡ depth_of lines.first
  pub depth_low : r.depth ≤ bound
  -- openings can be read off the bytes written: cut at their newlines they are the lines; each line's levels are twice the packages opened above it
  -- plus one for a run, two for a package; and these packages were opened by lines before it
  pub cut : lines_in (take r.bytes left) ≡ map (λ (u : TextUnit). u.bytes) lines.first
  pub read_off : AllReadOff (shown_of T G) opt [] lines.first
  -- "with enough room the whole text of the Rust's rules and 0 where they finish"
  pub done : size ≤ length out → (n : ℕ) → EndsIn e T G n → (r.number ≡ 0) × (r.place ≡ 0) × (left ≡ over (text_of (units_in e T G opt n)) out)
  -- "11 where no number of steps finishes them"
  pub never : size ≤ length out → ((n : ℕ) → EndsIn e T G n → ⊥) → r.number ≡ 11
  pub size_bytes : size ≤ length out → r.bytes ≡ size
  -- "with less room 10"
  pub less : length out < size → r.number ≡ 10
  -- and each only there
  pub done_only : r.number ≡ 0 → (n : ℕ) × EndsIn e T G n
  pub never_only : r.number ≡ 11 → (n : ℕ) → EndsIn e T G n → ⊥
  pub less_only : r.number ≡ 10 → length out < size

in_room : (e : ℕ) (T : Tables) → Valid T → (G : Graph) (opt bound : ℕ) → Shown.most_in e T G ≡ bound → (out left : List ℕ) (r : Answer)
    → Shows e T G opt out left r
    → InRoom e T G opt bound (Shown.size_in e T G opt) out left r
in_room e T valid G opt bound q out left r X =
    record {
      lines = Shown.shown_units e T G opt out left r X;
      depth = Shown.shown_depth e T G opt out left r X;
      depth_low = rw q at (Shown.depth_low e T G opt out left r X);
      cut = written_lines e T valid G opt out left r (Shown.shown_units e T G opt out left r X);
      read_off = written_off e T valid G opt out left r (Shown.shown_units e T G opt out left r X);
      done = Shown.finishes_done e T G opt out left r X;
      never = Shown.never_eleven e T G opt out left r X;
      size_bytes = Shown.whole_bytes e T G opt out left r X;
      less = Shown.less_ten e T G opt out left r X;
      done_only = Shown.zero_finishes e T G opt out left r X;
      never_only = Shown.eleven_never e T G opt out left r X;
      less_only = Shown.ten_less e T G opt out left r X;
    }

-- "for a file that passes 1 to 9 and option 0 or 1". `size` is one number for all rooms: the bytes of the whole text where the rules finish, else
-- of all before the package that would be opened below itself
pub record Demand3 (file : List ℕ) (opt : ℕ) (p : Passed file) : Type 0 where
  -- "g + (g + 1) × u", with the groups of `simplify` and the solvables in none, is at most 2,079
  pub bound_low : groups_in p.tables p.graph + (groups_in p.tables p.graph + 1) * singles_in p.tables p.graph ≤ 2079
  pub size : ℕ
  pub size_text : (n : ℕ) → EndsIn 1 p.tables p.graph n → size ≡ length (text_of (units_in 1 p.tables p.graph opt n))
  pub in_rooms : (out left : List ℕ) (r : Answer) → Says 1 file opt out left r
      → InRoom 1 p.tables p.graph opt (groups_in p.tables p.graph
      + (groups_in p.tables p.graph + 1) * singles_in p.tables p.graph) size out left r

pub third_demand : (file : List ℕ) (opt : ℕ) (p : Passed file) → opt ≤ 1 → Demand3 file opt p
third_demand file opt p h =
    let T : Tables = p.tables in
    let G : Graph = p.graph in
    let valid : Valid T = promise file T p.reads in
    let d : Drawn 1 file opt T G = passed_drawn 1 refl file opt p h in
    record {
      bound_low = rw (Shown.first_bound T G) at (Shown.most_low 1 T G (graphed T valid G p.draws).0);
      size = Shown.size_in 1 T G opt;
      size_text = Shown.size_text 1 T G opt;
      in_rooms =
          λ out left r S. in_room 1 T valid G opt (Rules.bound_in T G) (Shown.first_bound T G) out left r (Told.drawn_shows 1 file opt out left r S T G d);
    }

-- document 02, order 11, edition 2: g + u, and 11 is never given
pub record Demand3Second (file : List ℕ) (opt : ℕ) (p : Passed file) : Type 0 where
  pub size : ℕ
  pub size_text : (n : ℕ) → EndsIn 2 p.tables p.graph n → size ≡ length (text_of (units_in 2 p.tables p.graph opt n))
  pub in_rooms : (out left : List ℕ) (r : Answer) → Says 2 file opt out left r
      → InRoom 2 p.tables p.graph opt (groups_in p.tables p.graph + singles_in p.tables p.graph) size out left r
  -- "In edition 2 refusal 11 is never given"
  pub no_eleven : (out left : List ℕ) (r : Answer) → Says 2 file opt out left r → r.number ≡ 11 → ⊥
  -- "all openings in the whole text together are at most g + u", however many turns are taken
  pub openings_few : (n : ℕ) → how_many (openings_of 2 n file opt) ≤ groups_in p.tables p.graph + singles_in p.tables p.graph

pub second_demand : (file : List ℕ) (opt : ℕ) (p : Passed file) → opt ≤ 1 → Demand3Second file opt p
second_demand file opt p h =
    let T : Tables = p.tables in
    let G : Graph = p.graph in
    let valid : Valid T = promise file T p.reads in
    let d : Drawn 2 file opt T G = passed_drawn 2 refl file opt p h in
    record {
      size = Shown.size_in 2 T G opt;
      size_text = Shown.size_text 2 T G opt;
      in_rooms =
          λ out left r S. in_room 2 T valid G opt (Rules.once_in T G) (Shown.second_bound T G) out left r (Told.drawn_shows 2 file opt out left r S T G d);
      no_eleven = λ out left r S. second_never file opt out left r S;
      openings_few = λ n. rw (once_file file opt T G d) at (second_openings n file opt);
    }

-- document 02, order 10: a question about solvable s and reason q that gives the graph K. It has no cycle, and 11 is never given
pub record Demand3Asked (file : List ℕ) (s q opt : ℕ) (T : Tables) (K : Graph) : Type 0 where
  pub bound_low : groups_in T K + (groups_in T K + 1) * singles_in T K ≤ 2079
  pub size : ℕ
  pub size_text : (n : ℕ) → EndsIn 1 T K n → size ≡ length (text_of (units_in 1 T K opt n))
  pub in_rooms : (out left : List ℕ) (r : Answer) → SaysWhatIf file s q opt out left r
      → InRoom 1 T K opt (groups_in T K + (groups_in T K + 1) * singles_in T K) size out left r
  pub no_eleven : (out left : List ℕ) (r : Answer) → SaysWhatIf file s q opt out left r → r.number ≡ 11 → ⊥

pub asked_demand : (file : List ℕ) (s q opt : ℕ) → opt ≤ 1 → (T : Tables) → read_of file ≡ good T → (K : Graph) → ask_tables T s q ≡ drawn K
    → Demand3Asked file s q opt T K
asked_demand file s q opt h T y K g =
    let valid : Valid T = promise file T y in
    record {
      bound_low = rw (Shown.first_bound T K) at (Shown.most_low 1 T K (outcome_graphed T valid s q K g));
      size = Shown.size_in 1 T K opt;
      size_text = Shown.size_text 1 T K opt;
      in_rooms =
          λ out left r S. in_room 1 T valid K opt (Rules.bound_in T K) (Shown.first_bound T K) out left r
          (Others.what_if_shows file s q opt out left r S h T y K g);
      no_eleven = λ out left r S. what_if_never file s q opt out left r S;
    }

-- ---- the labels, over the entries of `urzulempa_nodes`

pub record DemandLabels (file : List ℕ) (p : Passed file) : Type 0 where
  pub entries : List NodeEntry
  -- they are what a list that holds the nodes gets
  pub listed : (l : List NodeEntry) → length p.graph.nodes ≤ length l
      → ((nodes_answer file (length l)).number ≡ 0) × (nodes_left file l ≡ entries ++ drop (length p.graph.nodes) l)
  -- "no node has both labels"
  pub not_both : All (λ (x : NodeEntry). x.installable ≡ 1 → x.missing ≡ 1 → ⊥) entries
  -- "where the graph has no cycle, 'already' may be dropped from both rules": each label is its rule's, over the labels listed, whether or not
  -- there is an unresolved node
  pub installable : Acyclic (targets p.graph) → (n : ℕ) → n < length p.graph.nodes
      → (entry_in entries n).installable ≡ flag (can_install p.graph (says_installable entries) n)
  pub missing : Acyclic (targets p.graph) → (n : ℕ) → n < length p.graph.nodes
      → (entry_in entries n).missing ≡ flag (is_unresolved (node_at p.graph n) || is_lacking p.graph (says_missing entries) n)

pub labels_demand : (file : List ℕ) (p : Passed file) → DemandLabels file p
labels_demand file p =
    record {
      entries = node_entries p.tables p.graph;
      listed = passed_listed file p;
      not_both = apart p.tables p.graph;
      installable = λ a n h. installable_listed file p a n h;
      missing = λ a n h. missing_listed file p a n h;
    }

-- ---- P2 and P6, over every content of 33 bytes

pub record Demand33 (file : List ℕ) : Type 0 where
  -- "P2 33 bytes: 1."
  pub p2 : (e opt : ℕ) (out left : List ℕ) (r : Answer) → is_edition e ≡ true → opt ≤ 1 → Says e file opt out left r → (r ≡ refusal_of 1 0) × (left ≡ out)
  pub p2_checks : check_of file ≡ refusal_of 1 0
  pub p2_nodes : (len : ℕ) → nodes_answer file len ≡ refusal_of 1 0
  pub p2_edges : (len : ℕ) → edges_answer file len ≡ refusal_of 1 0
  pub p2_graphviz : (opt room : ℕ) → opt ≤ 1 → draw_file file opt room ≡ refusal 1 0
  pub p2_tgf : (room : ℕ) → export_file file room ≡ refusal 1 0
  -- "P6 option 2 with bad length: 12."
  pub p6 : (e : ℕ) (out left : List ℕ) (r : Answer) → Says e file 2 out left r → (r ≡ refusal_of 12 0) × (left ≡ out)
  pub p6_graphviz : (room : ℕ) → draw_file file 2 room ≡ refusal 12 0

pub cases_demand : (file : List ℕ) → length file ≡ 33 → Demand33 file
cases_demand file h =
    record {
      p2 = λ e opt out left r i o S. Cases.says_length file h e opt out left r S i o;
      p2_checks = Cases.check_one file h;
      p2_nodes = Cases.nodes_one file h;
      p2_edges = Cases.edges_one file h;
      p2_graphviz = Cases.draw_one file h;
      p2_tgf = Cases.tgf_one file h;
      p6 = λ e out left r S. Cases.says_option e file 2 out left r S (omega arith);
      p6_graphviz = λ room. Cases.draw_twelve file 2 room (omega arith);
    }

-- ---- demand 1 of the other calls. An equation gives every input one answer: what is left to say is what becomes of lent memory. The bytes `file`
-- are what a call reads

pub record Demand1Others (file : List ℕ) : Type 0 where
  -- `urzulempa_graphviz`: 12 or 1 to 9, and the room as it came; else the first units of the text, all of them by 0, and no more than fit by 10
  pub graphviz : (opt : ℕ) (room : List ℕ) → UnitsOr (λ T G. drawing_units (drawn_of opt T G)) file (length room) (draw_file file opt (length room))
  pub graphviz_room : (opt : ℕ) (room : List ℕ) → Early (result_answer (draw_file file opt (length room))).number
      → over (draw_file file opt (length room)).text room ≡ room
  -- `urzulempa_tgf`: the same
  pub tgf : (room : List ℕ) → UnitsOr export_units file (length room) (export_file file (length room))
  pub tgf_room : (room : List ℕ) → Early (result_answer (export_file file (length room))).number → over (export_file file (length room)).text room ≡ room
  -- `urzulempa_nodes`, `urzulempa_what_if`, `urzulempa_edges`: 10 changes nothing either, "the whole list being one unit"
  pub nodes : (l : List NodeEntry) → ((nodes_answer file (length l)).number ≡ 0 → ⊥) → nodes_left file l ≡ l
  pub what_if : (s r : ℕ) (l : List NodeEntry) → ((what_if_answer file s r (length l)).number ≡ 0 → ⊥) → what_if_left file s r l ≡ l
  pub edges : (l : List ℕ) → ((edges_answer file (length l)).number ≡ 0 → ⊥) → edges_left file l ≡ l
  -- `urzulempa_explain_air`: an answer, only one, and every number but 0, 10 and 11 leaves the room as it came
  pub air : (opt : ℕ) (out : List ℕ) → (left : List ℕ) × ((r : Answer) × SaysAir file opt out left r)
  pub air_only : (opt : ℕ) (out a b : List ℕ) (r q : Answer) → SaysAir file opt out a r → SaysAir file opt out b q → (r ≡ q) × (a ≡ b)
  pub air_room : (opt : ℕ) (out left : List ℕ) (r : Answer) → SaysAir file opt out left r → Refusing r.number → left ≡ out
  -- `urzulempa_what_if_explain`: the same
  pub asked : (s q opt : ℕ) (out : List ℕ) → (left : List ℕ) × ((r : Answer) × SaysWhatIf file s q opt out left r)
  pub asked_only : (s q opt : ℕ) (out a b : List ℕ) (x y : Answer) → SaysWhatIf file s q opt out a x → SaysWhatIf file s q opt out b y → (x ≡ y) × (a ≡ b)
  pub asked_room : (s q opt : ℕ) (out left : List ℕ) (r : Answer) → SaysWhatIf file s q opt out left r → Refusing r.number → left ≡ out
  -- `urzulempa_salvage`, `urzulempa_write`, `urzulempa_tgf_read`: every refusal leaves what was lent
  pub salvage : (room list : List ℕ) → ((salvage_answer file (length room) (length list)).number ≡ 0 → ⊥)
      → (salvage_room file room (length list) ≡ room) × (salvage_list file (length room) list ≡ list)
  pub write : (room : List ℕ) → ((written_answer (write_answer file (length room))).number ≡ 0 → ⊥) → write_room file room ≡ room
  pub tgf_read : (nodes edges : List ℕ) → ((tgf_counts (read_text file) (length nodes) (length edges)).number ≡ 0 → ⊥)
      → (tgf_nodes (read_text file) nodes (length edges) ≡ nodes) × (tgf_edges (read_text file) (length nodes) edges ≡ edges)
  -- `urzulempa_settings_set`, whose file is the beginning of the room
  pub settings : (room : List ℕ) (used v s c : ℕ) → ((change_answer (change_of room used v s c)).number ≡ 0 → ⊥) → room_of room used v s c ≡ room

pub others_demand : (file : List ℕ) → Demand1Others file
others_demand file =
    record {
      graphviz = λ opt room. Lists.draw_units file opt (length room);
      graphviz_room = Lists.draw_refused file;
      tgf = λ room. Lists.tgf_units file (length room);
      tgf_room = Lists.tgf_refused file;
      nodes = Lists.nodes_refused file;
      what_if = list_unchanged file;
      edges = Lists.edges_refused file;
      air = Others.air_some file;
      air_only = says_air_one file;
      air_room = Others.air_room file;
      asked = Others.what_if_some file;
      asked_only = says_what_if_one file;
      asked_room = Others.what_if_room file;
      salvage = Lists.salvage_refused file;
      write = Lists.write_refused file;
      tgf_read = Lists.tgf_read_refused (read_text file);
      settings = set_refused;
    }

-- ---- all of them

pub record Demanded (file : List ℕ) (opt : ℕ) : Type 0 where
  -- e = 1 is `urzulempa_explain`
  pub first : (e : ℕ) (out : List ℕ) → Demand1 e file opt out
  pub others : Demand1Others file
  -- the file passes exactly if `urzulempa_check` answers 0, and then it has its tables and its graph
  pub passes : (check_of file).number ≡ 0 → Passed file
  pub passes_only : Passed file → check_of file ≡ refusal_of 0 0
  pub third : (p : Passed file) → opt ≤ 1 → Demand3 file opt p
  pub third_second : (p : Passed file) → opt ≤ 1 → Demand3Second file opt p
  pub third_asked : opt ≤ 1 → (s q : ℕ) (T : Tables) → read_of file ≡ good T → (K : Graph) → ask_tables T s q ≡ drawn K → Demand3Asked file s q opt T K
  -- inside the air profile `urzulempa_explain_air` is `urzulempa_explain`
  pub third_air : (out left : List ℕ) (r : Answer) → SaysAir file opt out left r → air_of file opt ≡ Air.Passed → Says 1 file opt out left r
  pub labels : (p : Passed file) → DemandLabels file p
  pub bytes33 : length file ≡ 33 → Demand33 file

pub demanded : (file : List ℕ) (opt : ℕ) → Demanded file opt
demanded file opt =
    record {
      first = λ e out. first_demand e file opt out;
      others = others_demand file;
      passes = check_passed file;
      passes_only = passed_check file;
      third = third_demand file opt;
      third_second = second_demand file opt;
      third_asked = λ h s q. asked_demand file s q opt h;
      third_air = Others.air_says file opt;
      labels = labels_demand file;
      bytes33 = cases_demand file;
    }
