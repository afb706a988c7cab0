-- Document 01, "One run, whole": the runner's stage, seen as a world of `delivery`, and its steps as that world's steps.
use Rattle.std.specs.Prelude.{ℕ, ◌+◌, List, [], ◌∷◌, map, Bool, false, cond, ◌&&◌, get_or, replicate, leb, ltb}
use Rattle.journal.specs.declared.Entry.{Entry}
use Rattle.record.specs.declared.Record.{Record}
use Rattle.record.specs.Record.{new_record}
use Rattle.rules.specs.View.{Condition, normal, fetching, completed, suspended, WindowView, PlayerView}
use Rattle.player.specs.View.{player_of}
use Rattle.delivery.specs.World.{Side, World, no_side, side_at, player_in, answered, empty}
use Rattle.delivery.specs.World as W
use Rattle.script_line.specs.declared.Step.{Step}
use Rattle.script_line.specs.declared.Step.TheVariants.{Main, At}
use Rattle.script_line.specs.declared.Verb.TheVariants.{Catch, Send, Written, Ack, Drop, Join, Take}
use Rattle.script.specs.declared.line.Line.{Line}
use Rattle.script.specs.declared.Stage.{Stage}
use Rattle.script.specs.declared.Reply.{Reply}
use Rattle.script.specs.declared.Reply.TheVariants.{Answered, Empty}
use Rattle.script.specs.Line.{world_sent, world_ack, sent_in, acks_in, fresh_line}

-- ------------------------------------------------------------------------
-- The stage as a world. It keeps no history, neither of what was taken nor of the terms used.

-- a window's side of the stage
abbrev pub side_of : WindowView → Record → Line → Side
side_of v r l = record {
  view = v;
  record' = r;
  line = map world_sent (sent_in l.entries);
  back = map world_ack (acks_in l.acks);
  taken = [];
}

unfoldable pub sides_of : List WindowView → List Record → List Line → List Side
sides_of [] rs ls = []
sides_of (v ∷ vs) [] ls = no_side ∷ sides_of vs [] ls
sides_of (v ∷ vs) (r ∷ rs) [] = no_side ∷ sides_of vs rs []
sides_of (v ∷ vs) (r ∷ rs) (l ∷ ls) = side_of v r l ∷ sides_of vs rs ls

-- a journal, a player's numbers, and the windows' sides; of the greatest term used nothing is known
abbrev pub world_with : List Entry → PlayerView → List Side → World
world_with j q ps = record { journal = j; limit = q.limit; spacing = q.spacing; current = q.current; sides = ps; greatest = 0 }

unfoldable pub world_of : List Entry → Stage → World
world_of j s = world_with j (player_of s.player) (sides_of (player_of s.player).windows s.records s.lines)

-- a world without its history
abbrev pub forget : Side → Side
forget p = record { view = p.view; record' = p.record'; line = p.line; back = p.back; taken = [] }

unfoldable pub forgotten : World → World
forgotten wd = world_with wd.journal (player_in wd) (map forget wd.sides)

-- ------------------------------------------------------------------------
-- A script's step as a step of the world: `main` and `catch` offer the index due, terms are current, the output lent has room for a batch
-- of two, and `take` acks the last of a batch alone

-- the index due in a window that is Fetching; in any other the answer does not depend on it
abbrev pub due_in : Condition → ℕ
due_in normal = 0
due_in (fetching n e) = n
due_in (completed e) = 0
due_in suspended = 0

abbrev pub step_in : World → Step → W.Step
step_in wd Main = W.main (wd.current + 1)
step_in wd (At Catch w) = W.catch w (side_at w wd).view.term (due_in (side_at w wd).view.condition)
step_in wd (At Send w) = W.send w (replicate 10 0)
step_in wd (At Written w) = W.written w (side_at w wd).view.term
step_in wd (At Ack w) = W.ack w
step_in wd (At Drop w) = W.drop w
step_in wd (At Join w) = W.join w
step_in wd (At Take w) = W.take w false

-- the steps of the world that a script's steps are
unfoldable pub steps_in : World → List Step → List W.Step
steps_in wd [] = []
steps_in wd (s ∷ ss) = step_in wd s ∷ steps_in (W.step (step_in wd s) wd).world ss

-- what is printed of a reply of the world: no step of a script is one that is not made
abbrev pub reply_of : Reply → W.Reply
reply_of (Answered n) = answered n
reply_of Empty = empty

-- ------------------------------------------------------------------------
-- Where a step is played

-- the window that a step names, and 0 where it names none
abbrev pub window_of : Step → ℕ
window_of Main = 0
window_of (At verb w) = w

-- the record and the line of window w; new where there is no such window
abbrev pub record_in : ℕ → Stage → Record
record_in w s = cond (ltb w s.player.count) (get_or s.records w new_record) new_record

abbrev pub line_in : ℕ → Stage → Line
line_in w s = cond (ltb w s.player.count) (get_or s.lines w fresh_line) fresh_line

-- at most 16 windows, and at most 16 entries and 8 acks on the line of window w, which is what a run can have there
abbrev pub room_at : Stage → ℕ → Bool
room_at s w = leb s.player.count 16 && (leb (line_in w s).entries.len 16 && leb (line_in w s).acks.len 8)

-- and so for the window that a step names
abbrev pub stage_fits : Stage → Step → Bool
stage_fits s st = room_at s (window_of st)
