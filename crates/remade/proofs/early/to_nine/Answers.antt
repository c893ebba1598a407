use Rattle.remade.specs.Again.{at_check, at_explain, at_plain, at_graph, at_list, at_edges, at_second, at_air, at_mend, at_replaced, at_none}
use Rattle.remade.proofs.early.to_nine.Goals as goal

pub returns-in-0 : goal.returns-in-0
returns-in-0 c = search at_check

pub returns-in-1 : goal.returns-in-1
returns-in-1 c = search at_explain

pub returns-in-2 : goal.returns-in-2
returns-in-2 c = search at_plain

pub returns-in-3 : goal.returns-in-3
returns-in-3 c = search at_graph

pub returns-in-4 : goal.returns-in-4
returns-in-4 c = search at_list

pub returns-in-5 : goal.returns-in-5
returns-in-5 c = search at_edges

pub returns-in-6 : goal.returns-in-6
returns-in-6 c = search at_second

pub returns-in-7 : goal.returns-in-7
returns-in-7 c = search at_air

pub returns-in-8 : goal.returns-in-8
returns-in-8 c = search at_mend

pub returns-in-9 : goal.returns-in-9
returns-in-9 c = search at_replaced

pub returns-in_default : goal.returns-in_default
returns-in_default c = search at_none
