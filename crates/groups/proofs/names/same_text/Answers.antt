use Rattle.std.proofs.Common.{◌∙◌}
use Rattle.groups.specs.Texts.{text_pointwise}
use Rattle.groups.proofs.names.same_text.Goals as goal

pub returns : goal.returns
returns c = c.eq.ensures ∙ text_pointwise c.args.a.now c.args.b.now
