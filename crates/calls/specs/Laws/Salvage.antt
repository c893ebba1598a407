-- Salvage beside `urzulempa_check`, over the contracts of the two calls: "A repaired file never gets 1 to 7". What else order 7 promises stands
-- over the same contract in salvage/specs/Laws/Promises.antt.
use Rattle.std.specs.Prelude.{◌≡◌, ◌⊎◌, List, ℕ, length}
use Rattle.std.proofs.Math.Path.{refl, ap}
use Rattle.std.proofs.Common.{sym, ◌∙◌}
use Rattle.std.proofs.Math.Logic.{inl, inr}
use Rattle.records.specs.Read.{read_of}
use Rattle.graph.specs.Graphs.{Outcome, drawn, refused, graph_of}
use Rattle.graph.specs.Files.{outcome_by, outcome_of}
use Rattle.salvage.specs.Lent.{salvage_answer}
use Rattle.salvage.specs.Laws.Repaired.{Sound}
use Rattle.salvage.specs.Laws.Promises.{out_in, done_sound}
use Rattle.salvage.specs.Laws.Never.{sound_never}
use Rattle.calls.specs.Answers.{outcome_answer, check_by, check_of}

-- a sound file is done, or gets 8 or 9
module _ (file : List ℕ) (sound : Sound file) where
  graph_is : outcome_of file ≡ graph_of sound.tables
  unfolding outcome_of
  graph_is = ap outcome_by sound.reads

  pub sound_check : ((check_of file).number ≡ 0) ⊎ (((check_of file).number ≡ 8) ⊎ ((check_of file).number ≡ 9))
  unfolding check_of
  sound_check = rw sound.reads (go (graph_of sound.tables) refl)
    where
      go : (o : Outcome) → graph_of sound.tables ≡ o
          → ((outcome_answer o).number ≡ 0) ⊎ (((outcome_answer o).number ≡ 8) ⊎ ((outcome_answer o).number ≡ 9))
      go (drawn G) e = inl refl
      go (refused k p) e = inr (sound_never file sound k p (graph_is ∙ e))

-- the file that stands in the room of a call that is done
pub repaired_check : (file room list : List ℕ) → (salvage_answer file (length room) (length list)).number ≡ 0
    → ((check_of (out_in file room list)).number ≡ 0) ⊎ (((check_of (out_in file room list)).number ≡ 8) ⊎ ((check_of (out_in file room list)).number ≡ 9))
repaired_check file room list h = sound_check (out_in file room list) (done_sound file room list h)
