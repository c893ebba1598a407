use borrow.Author.Rules.{rules}
use Rattle.texts.specs.Shown.{indent_none, indent_from, indent_room, deepest_room, indent_some}
use Rattle.texts.proofs.pieces.put_indent.Goals as goal

pub returns-then-count-first : goal.returns-then-count-first
returns-then-count-first c = search (rules, indent_none)

pub put_above-at-requires-clause-n_in_bounds : goal.put_above-at-requires-clause-n_in_bounds
put_above-at-requires-clause-n_in_bounds c = search (rules, indent_none, indent_from, indent_room, deepest_room, indent_some)

pub put_deepest-requires : goal.put_deepest-requires
put_deepest-requires c = search (rules, indent_none, indent_from, indent_room, deepest_room, indent_some)

pub returns : goal.returns
returns c = search (rules, indent_some)
