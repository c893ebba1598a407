use Rattle.std.proofs.Common.{◌≡◌, true, sym, ◌∙◌}
use Rattle.groups.specs.Leads.{fits_unlike, fits_kind, fits_edges}
use Rattle.groups.proofs.leads.fits.Goals as goal
use Rattle.groups.proofs.leads.fits.Goals.{then-alike, else-alike}

pub returns-then-solvable_at : goal.returns-then-solvable_at
returns-then-solvable_at c =
    elim c.if-alike.branch [
      | then-alike w ↦ let t : w.solvable_at.result ≡ true = cc in search fits_edges
      | else-alike w ↦ absurd cc
    ]

pub returns-else-solvable_at : goal.returns-else-solvable_at
returns-else-solvable_at c =
    elim c.if-alike.branch [
      | then-alike w ↦ c.if-solvable_at.false ∙ fits_kind _ _ _ _ _ _ _ c.requires.ready _ c.requires.m_lt_n _ w.solvable_at.ensures (sym w.value-is ∙ c.if-solvable_at.false)
      | else-alike w ↦ c.if-solvable_at.false ∙ search fits_unlike
    ]
