use Rattle.std.proofs.Common.{rules}
use Rattle.display.specs.StrokeSizes.{need_room, cause_room, need_wrote, cause_wrote}
use Rattle.display.proofs.strokes.put_label.Goals as goal

pub put_quoted-requires : goal.put_quoted-requires
put_quoted-requires c = search (rules, need_room, cause_room, need_wrote, cause_wrote)

pub returns-in-Requires : goal.returns-in-Requires
returns-in-Requires c = search (rules, need_room, cause_room, need_wrote, cause_wrote)
