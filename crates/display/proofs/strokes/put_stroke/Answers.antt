use Rattle.std.proofs.Common.{rules}
use Rattle.texts.specs.Laws.Wrote.{behind}
use Rattle.display.specs.StrokeSizes.{stroke_wrote}
use Rattle.display.proofs.strokes.put_stroke.Goals as goal

pub returns : goal.returns
returns c = search (rules, behind, stroke_wrote)
