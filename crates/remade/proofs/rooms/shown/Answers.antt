use Rattle.remade.specs.Room.{shown_blank}
use Rattle.remade.proofs.rooms.shown.Goals as goal

pub returns : goal.returns
returns c = search shown_blank
