use Rattle.std.proofs.Common.{rules, ◌≡◌}
use Rattle.std.specs.Prelude.{Ok, Err}
use Rattle.tgf.specs.Laws.Filling.{edges_at}
use Rattle.tgf.specs.Laws.Answers.{by_bad, by_nodes, by_edges, by_done, counts_done, edges_via, seen_good, seen_nodes, seen_edges}
use Rattle.tgf.proofs.read.Goals as goal

pub returns-in-Err-clause-value : goal.returns-in-Err-clause-value
returns-in-Err-clause-value c =
    let t : c.count.result ≡ Err c.in-Err.line = c.in-Err.is in
    search (rules, by_bad)

pub returns-in-Err-clause-nodes_after : goal.returns-in-Err-clause-nodes_after
returns-in-Err-clause-nodes_after c =
    let t : c.count.result ≡ Err c.in-Err.line = c.in-Err.is in
    search (rules, by_bad)

pub returns-in-Err-clause-edges_after : goal.returns-in-Err-clause-edges_after
returns-in-Err-clause-edges_after c =
    let t : c.count.result ≡ Err c.in-Err.line = c.in-Err.is in
    search (rules, by_bad)

pub returns-then-nodes-n-clause-value : goal.returns-then-nodes-n-clause-value
returns-then-nodes-n-clause-value c =
    let t : c.count.result ≡ Ok c.in-Ok.s = c.in-Ok.is in
    search (rules, by_nodes)

pub returns-then-nodes-n-clause-nodes_after : goal.returns-then-nodes-n-clause-nodes_after
returns-then-nodes-n-clause-nodes_after c =
    let t : c.count.result ≡ Ok c.in-Ok.s = c.in-Ok.is in
    search (rules, by_nodes)

pub returns-then-nodes-n-clause-edges_after : goal.returns-then-nodes-n-clause-edges_after
returns-then-nodes-n-clause-edges_after c =
    let t : c.count.result ≡ Ok c.in-Ok.s = c.in-Ok.is in
    search (rules, by_nodes)

pub returns-then-edges-k-clause-value : goal.returns-then-edges-k-clause-value
returns-then-edges-k-clause-value c =
    let t : c.count.result ≡ Ok c.in-Ok.s = c.in-Ok.is in
    search (rules, by_edges)

pub returns-then-edges-k-clause-nodes_after : goal.returns-then-edges-k-clause-nodes_after
returns-then-edges-k-clause-nodes_after c =
    let t : c.count.result ≡ Ok c.in-Ok.s = c.in-Ok.is in
    search (rules, by_edges)

pub returns-then-edges-k-clause-edges_after : goal.returns-then-edges-k-clause-edges_after
returns-then-edges-k-clause-edges_after c =
    let t : c.count.result ≡ Ok c.in-Ok.s = c.in-Ok.is in
    search (rules, by_edges)

pub returns-clause-value : goal.returns-clause-value
returns-clause-value c =
    let t : c.count.result ≡ Ok c.in-Ok.s = c.in-Ok.is in
    search (rules, counts_done)

pub returns-clause-nodes_after : goal.returns-clause-nodes_after
returns-clause-nodes_after c =
    let t : c.count.result ≡ Ok c.in-Ok.s = c.in-Ok.is in
    search (rules, by_done)

pub returns-clause-edges_after : goal.returns-clause-edges_after
returns-clause-edges_after c =
    let t : c.count.result ≡ Ok c.in-Ok.s = c.in-Ok.is in
    search (rules, by_done, edges_via)

pub fill_nodes-h-requires-clause-text_value : goal.fill_nodes-h-requires-clause-text_value
fill_nodes-h-requires-clause-text_value c =
    let t : c.count.result ≡ Ok c.in-Ok.s = c.in-Ok.is in
    search (rules, seen_good)

pub fill_nodes-h-requires-clause-text_len : goal.fill_nodes-h-requires-clause-text_len
fill_nodes-h-requires-clause-text_len c =
    let t : c.count.result ≡ Ok c.in-Ok.s = c.in-Ok.is in
    search (rules, seen_nodes)

pub fill_edges-requires-clause-edges_at : goal.fill_edges-requires-clause-edges_at
fill_edges-requires-clause-edges_at c =
    let t : c.count.result ≡ Ok c.in-Ok.s = c.in-Ok.is in
    search (rules, edges_at, seen_edges)
