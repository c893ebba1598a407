use Rattle.std.proofs.Common.{◌≡◌, ◌∙◌, true, false, sym, ap, eqb-true}
use Rattle.std.proofs.lemmas.Bool.{eqb-false}
use Rattle.std.proofs.Math.Bool.{not}
use Rattle.std.proofs.Math.Dec.{eqb}
use Rattle.basis.specs.Members.{split}
use Rattle.whatif.specs.Laws.Counts.{reason_not, reason_is}
use Rattle.whatif.proofs.counts.is_reason.Goals as goal

pub returns : goal.returns
returns c =
    split (eqb c.place.result 0)
    (λ t. ap not t ∙ reason_not _ _ c.requires _ _ (eqb-true c.place.result 0 t) c.place.ensures.0)
    (λ t. ap not t ∙ reason_is _ _ c.requires _ _ (eqb-false c.place.result 0 t) c.place.ensures.0)
