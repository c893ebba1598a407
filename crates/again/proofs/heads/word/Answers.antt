use Rattle.std.proofs.Common.{◌∙◌}
use Rattle.again.specs.Head.{word_of_bytes}
use Rattle.again.proofs.heads.word.Goals as goal

pub returns : goal.returns
returns c =
    c.from_le_bytes.ensures
    ∙ word_of_bytes c.args.s.now c.args.at _ _ _ _ _ _ _ _ c.get.ensures c.get-2.ensures c.get-3.ensures c.get-4.ensures
    c.get-5.ensures c.get-6.ensures c.get-7.ensures c.get-8.ensures
