use Rattle.std.proofs.Common.{rules, ◌≡◌, ◌∙◌, refl, sym}
use Rattle.settings.specs.Laws.Ways.{left_start, left_stop, left_next, left_end}
use Rattle.settings.proofs.Found.{refusal_some}
use Rattle.settings.proofs.read_all.Goals as goal

pub loop-i-init : goal.loop-i-init
loop-i-init c = search (rules, left_start)

pub loop-i-preserved : goal.loop-i-preserved
loop-i-preserved c =
    left_next _ _ _ _ _ c.loop-i.invariant c.loop-i-test.true 0 (rw c.in_default.is at c.judge.ensures) _ _ _ refl c.with-x.ensures c.setting_of.ensures c.content_of.ensures

pub returns-in-Err : goal.returns-in-Err
returns-in-Err c =
    left_stop _ _ _ _ _ c.loop-i.invariant c.loop-i-test.true _ (c.number.ensures ∙ c.in-Err.ensures) _
    (λ (z : c.number.result ≡ 0). refusal_some _ (sym c.number.ensures ∙ z)) c.refuse.ensures

pub returns : goal.returns
returns c = search (rules, left_end)
