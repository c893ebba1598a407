use Rattle.texts.specs.Fours.{code_near}
use Rattle.texts.proofs.pieces.put_code.Goals as goal

pub returns-clause-near : goal.returns-clause-near
returns-clause-near c = search code_near
