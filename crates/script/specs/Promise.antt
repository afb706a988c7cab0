-- What the stage's step promises.
use Rattle.std.specs.Prelude.{ℕ, ◌≤◌, ◌≡◌, List, Bool, true, false, not, ◌&&◌, ◌||◌, length, drop, eqb}
use Rattle.journal.specs.declared.Entry.{Entry}
use Rattle.journal.specs.Entry.{in_shape, entries_of}
use Rattle.delivery.specs.World as W
use Rattle.script_line.specs.declared.Step.{Step}
use Rattle.script.specs.declared.Stage.{Stage}
use Rattle.script.specs.declared.Reply.{Reply}
use Rattle.script.specs.declared.Reply.TheVariants.{Answered, Empty}
use Rattle.script.specs.declared.Stepped.{Stepped}
use Rattle.script.specs.Stage.{world_of, forgotten, step_in, reply_of, line_in, stage_fits}

-- the journal is in shape, and the stage fits
abbrev pub playable : List ℕ → Stage → Step → Bool
playable ns before s = in_shape ns && stage_fits before s

-- the same as facts, of window w
pub record HasRoom (s : Stage) (w : ℕ) : Type 0 where
  pub few : s.player.count ≤ 16
  pub entries : (line_in w s).entries.len ≤ 16
  pub acks : (line_in w s).acks.len ≤ 8

pub record Playable (ns : List ℕ) (s : Stage) (w : ℕ) : Type 0 where
  pub journal : in_shape ns ≡ true
  pub room : HasRoom s w

-- the reply and the next stage are those of the world's step
pub record Steps (j : List Entry) (before : Stage) (s : Step) (r : Stepped) : Type 0 where
  pub reply : reply_of r.reply ≡ (W.step (step_in (world_of j before) s) (world_of j before)).reply
  pub world : world_of j r.stage ≡ forgotten (W.step (step_in (world_of j before) s) (world_of j before)).world

-- a refusal of the player, or nothing on the line; 15 is Take's own, and its entry is off the line all the same
abbrev pub is_refusal : Reply → Bool
is_refusal (Answered n) = not (eqb n 0 || eqb n 15)
is_refusal Empty = true

-- the windows, the records and the lines from a number up are as they were
pub record SameAbove (n : ℕ) (before after : Stage) : Type 0 where
  pub windows : drop n after.player.windows ≡ drop n before.player.windows
  pub records : drop n after.records ≡ drop n before.records
  pub lines : drop n after.lines ≡ drop n before.lines

-- where the journal is in shape and the stage fits, the step is the world's; where not, the answer is 1 and nothing changes; a refusal
-- gives back the stage handed in, whole; what there is from W up is as it was in any case; and sixteen records and lines stay sixteen
pub record Plays (ns : List ℕ) (before : Stage) (s : Step) (r : Stepped) : Type 0 where
  pub played : playable ns before s ≡ true → Steps (entries_of ns) before s r
  pub stuck : playable ns before s ≡ false → r ≡ record { reply = Answered 1; stage = before }
  pub refused : is_refusal r.reply ≡ true → r.stage ≡ before
  pub above : SameAbove before.player.count before r.stage
  pub records : length r.stage.records ≡ 16
  pub lines : length r.stage.lines ≡ 16
