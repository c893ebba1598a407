use Rattle.std.proofs.Common.{◌≡◌, ◌∙◌, true, false, rules, le-ltb, lt-ltb, ltb-true, ltb-false}
use borrow.Author.Tests.{lt-leb}
use Rattle.std.specs.Prelude.{◌<◌, ◌≤◌, ltb}
use Rattle.basis.specs.Members.{split}
use Rattle.whatif.specs.Laws.Tests.{room_nodes, room_edges, room_both}
use Rattle.whatif.proofs.tests.has_room.Goals as goal

pub returns-then-with_one-gone-le128 : goal.returns-then-with_one-gone-le128
returns-then-with_one-gone-le128 c =
    split (ltb c.args.s.edges 1024)
    (λ t. let h : c.args.s.edges < 1024 = ltb-true _ _ t in t ∙ search (rules, room_both))
    (λ t. let h : 1024 ≤ c.args.s.edges = ltb-false _ _ t in t ∙ search (rules, room_edges))

pub returns-else-with_one-gone-le128 : goal.returns-else-with_one-gone-le128
returns-else-with_one-gone-le128 c = lt-leb _ _ c.if-with_one-gone-le128.false ∙ search (rules, room_nodes)
