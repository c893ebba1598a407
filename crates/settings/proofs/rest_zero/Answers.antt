use Rattle.std.proofs.Common.{◌∙◌}
use Rattle.settings.specs.Laws.Ways.{rest_via}
use Rattle.settings.proofs.Found.{zeros_all}
use Rattle.settings.proofs.rest_zero.Goals as goal

pub returns : goal.returns
returns c = rest_via c.args.s.now _ (c.all_zero.ensures ∙ zeros_all _)
