-- What is said of a script that the stage plays: its replies and what the records hold at its end. `proofs/Delivered` proves it of every
-- script from an opened stage.
use Rattle.std.specs.Prelude.{ℕ, ◌≡◌, List, [], ◌∷◌, map, take}
use Rattle.journal.specs.declared.Entry.{Entry}
use Rattle.journal.specs.Own.{own}
use Rattle.record.specs.Record.{new_record, take_all}
use Rattle.delivery.specs.World.{Side, World, side_at, replies}
use Rattle.delivery.specs.World as W
use Rattle.delivery.specs.Statement.{Leading}
use Rattle.script_line.specs.declared.Step.{Step}
use Rattle.script.specs.declared.Stage.{Stage}
use Rattle.script.specs.declared.Reply.{Reply}
use Rattle.script.specs.declared.Stepped.{Stepped}
use Rattle.script.specs.Stage.{steps_in, reply_of, record_in}
use Rattle.script.specs.Promise.{Plays}

-- a script played from a stage to a stage, with its replies: each step gives what `Stage::step` promises, and is handed what the step
-- before gave
pub data Script (ns : List ℕ) : Stage → List Step → List Reply → Stage → Type 0 where
  none : {s : Stage} → Script ns s [] [] s
  more : {s t : Stage} {st : Step} {sts : List Step} {rs : List Reply} (r : Stepped) → Plays ns s st r → Script ns r.stage sts rs t →
      Script ns s (st ∷ sts) (r.reply ∷ rs) t

-- ------------------------------------------------------------------------
-- at its end

-- the replies, and each window's record, are those of a run of the world
pub record Runs (wd₀ : World) (sts : List Step) (rs : List Reply) (t : Stage) : Type 0 where
  pub replied : map reply_of rs ≡ replies wd₀ (steps_in wd₀ sts)
  pub records : (w : ℕ) → record_in w t ≡ (side_at w (W.run wd₀ (steps_in wd₀ sts))).record'

-- the record of window w is that of a window which has taken a leading part of its own entries, with ticks among them or without
pub record LeadingRecord (j : List Entry) (w : ℕ) (s : Stage) : Type 0 where
  pub side : Side
  pub own : record_in w s ≡ side.record'
  pub leading : Leading j w side

-- the record of window w is what Take makes of a new record lent the first k of its own entries
pub record FoldedRecord (j : List Entry) (w : ℕ) (s : Stage) : Type 0 where
  pub k : ℕ
  pub folded : record_in w s ≡ take_all (take k (own j w)) new_record
