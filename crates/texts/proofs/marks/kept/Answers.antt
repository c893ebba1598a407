use Rattle.std.proofs.Common.{◌≡◌, ◌∙◌, ltb, arith}
use borrow.Author.Tests.{ltb-true, ltb-false}
use Rattle.basis.specs.Members.{split}
use Rattle.texts.specs.Levels.{kept_yes, kept_no}
use Rattle.texts.proofs.marks.kept.Goals as goal

pub returns : goal.returns
returns c =
    let n = c.args.count in
    let l = c.args.level in (
      split (ltb l n)
          (λ t. let h = ltb-true l n t in let m : c.min.result ≡ l = c.min.ensures ∙ omega arith in m ∙ kept_yes n l h)
          (λ t. let h = ltb-false l n t in let m : c.min.result ≡ n = c.min.ensures ∙ omega arith in m ∙ kept_no n l h),
      omega arith,
    )
