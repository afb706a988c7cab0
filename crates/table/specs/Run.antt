-- Document 01, "One run, whole": the run that the paper shows, by the runner's own steps.
use Rattle.std.specs.Prelude.{◌≡◌, List, [], ◌∷◌, map, true}
use Rattle.journal.specs.Entry.{numbers_of}
use Rattle.record.specs.declared.Record.{Record}
use Rattle.rules.specs.View.{PlayerView}
use Rattle.delivery.specs.World.{World, side_at, answered, run, replies}
use Rattle.delivery.specs.World as W
use Rattle.delivery.specs.Statement.{first_world}
use Rattle.delivery.proofs.Examples.{done, Shown, afternoon}
use Rattle.script_line.specs.declared.Step.{Step}
use Rattle.script_line.specs.declared.Step.TheVariants.{Main, At}
use Rattle.script_line.specs.declared.Verb.TheVariants.{Catch, Send, Drop, Join, Take}
use Rattle.script.specs.declared.Stage.{Stage}
use Rattle.script.specs.declared.Reply.{Reply}
use Rattle.script.specs.Stage.{steps_in, reply_of, record_in}
use Rattle.script.specs.Opening.{run_settings, opened_by}
use Rattle.scripts.specs.Delivered.{Script}

-- the ten steps after `run`
abbrev pub afternoon_steps : List Step
afternoon_steps =
    Main ∷ At Send 0 ∷ At Take 0 ∷ At Drop 0 ∷ Main ∷ At Join 0 ∷ At Send 0 ∷ At Catch 0 ∷ At Send 0 ∷ At Take 0 ∷ []

-- what is printed of a window's record
abbrev pub shown_of : Record → Shown
shown_of r = record { last = r.last.0; count = r.count }

-- what is printed: the ten answers, and then each window's last and count
pub record PrintsA (replies : List W.Reply) (record0 record1 : Record) : Type 0 where
  pub answers : replies ≡ done ∷ done ∷ done ∷ done ∷ done ∷ done ∷ answered 7 ∷ done ∷ done ∷ done ∷ []
  pub window0 : shown_of record0 ≡ record { last = 2; count = 2 }
  pub window1 : shown_of record1 ≡ record { last = 0; count = 0 }

-- `windows 2` and the journal: the world that the stage is opened on, whatever a player held before
abbrev pub afternoon_world : PlayerView → World
afternoon_world before = first_world before afternoon 2 run_settings

-- by the rules
abbrev pub RunA : PlayerView → Type 0
RunA before =
    let first : World = afternoon_world before in
    let last : World = run first (steps_in first afternoon_steps) in
    PrintsA (replies first (steps_in first afternoon_steps)) (side_at 0 last).record' (side_at 1 last).record'

-- by the calls: the stage is opened, and whatever gives what `Stage::step` promises gives this
pub record StageA : Type 0 where
  pub ok : (opened_by (numbers_of afternoon) 2).ok ≡ true
  pub prints : (rs : List Reply) (t : Stage) →
      Script (numbers_of afternoon) (opened_by (numbers_of afternoon) 2).stage afternoon_steps rs t →
      PrintsA (map reply_of rs) (record_in 0 t) (record_in 1 t)
