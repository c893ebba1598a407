use Rattle.remade.specs.Room.{by_explain, by_plain, by_second, by_air, by_asking, by_drawing, by_hanging, by_making}
use Rattle.remade.proofs.rooms.answered.Goals as goal

pub returns-in-Explain : goal.returns-in-Explain
returns-in-Explain c = search by_explain

pub returns-in-Plain : goal.returns-in-Plain
returns-in-Plain c = search by_plain

pub returns-in-Second : goal.returns-in-Second
returns-in-Second c = search by_second

pub returns-in-Air : goal.returns-in-Air
returns-in-Air c = search by_air

pub returns-in-WhatIf : goal.returns-in-WhatIf
returns-in-WhatIf c = search by_asking

pub returns-in-Graph : goal.returns-in-Graph
returns-in-Graph c = search by_drawing

pub returns-in-Wall : goal.returns-in-Wall
returns-in-Wall c = search by_hanging

pub returns-in-Write : goal.returns-in-Write
returns-in-Write c = search by_making
