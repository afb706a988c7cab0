-- What a step does, said once: nothing, Main at every window, the work of one window, or a fault or an append. Facts that go together are
-- records, and a step is one of these.
use Rattle.std.specs.Prelude.{ℕ, suc, ◌≤◌, ◌<◌, max, ◌≡◌, List, [], ◌∷◌, ◌++◌, Bool, true, false, length}
use Rattle.journal.specs.declared.Entry.{Entry}
use Rattle.journal.specs.Entry.{five_of}
use Rattle.record.specs.Record.{take_numbers}
use Rattle.rules.specs.declared.Settings.{Settings}
use Rattle.rules.specs.declared.Term.{Term}
use Rattle.rules.specs.View.{WindowView}
use Rattle.rules.specs.Shape.{shape}
use Rattle.rules.specs.Window.{is_suspended, main_at, batch_of, freed, acknowledged, dropped, joined, started_by}
use Rattle.rules.specs.Rules.{speaks, said_by}
use Rattle.rules.proofs.Offers.{Caught, catch_effect, SentOut, WrittenOff, AckTaken}
use Rattle.delivery.specs.World.{Sent, Ack, Side, World, side_at, numbers_in, player_in, with_view, with_lines, with_journal, with_side, raised, take_front, cleared, Step, main, catch, send, take, ack, drop, join, start, append, Reply, answered, step}
use Rattle.delivery.specs.World as W
use Rattle.delivery.specs.Sorts.{is_done, sort_of, begins}
use Rattle.delivery.proofs.Invariant.{last_of}
use Rattle.delivery.proofs.KeepSend.{launched_side}

-- ------------------------------------------------------------------------
-- The work of window w by a step s: its side p becomes p'

-- Catch answered 0
pub record CaughtAt (j : List Entry) (w : ℕ) (s : Step) (p p' : Side) : Type 0 where
  pub term : Term
  pub index : ℕ
  pub is : s ≡ catch w term index
  pub tells : Caught j w term index p.view
  pub side : p' ≡ with_view ((catch_effect w term index).makes j p.view tells) p

-- Send answered 0
pub record SentAt (j : List Entry) (limit w : ℕ) (s : Step) (p p' : Side) : Type 0 where
  pub out : List ℕ
  pub is : s ≡ send w out
  pub tells : SentOut limit (length out) p.view
  pub side : p' ≡ launched_side j w (batch_of limit p.view) p

-- Written answered 0
pub record WrittenAt (w : ℕ) (s : Step) (p p' : Side) : Type 0 where
  pub term : Term
  pub is : s ≡ W.written w term
  pub tells : WrittenOff term p.view
  pub side : p' ≡ with_view (freed p.view) p

-- a Take from a line that is not empty, whatever it is answered; it may ack any entry or not
pub record TookAt (w : ℕ) (s : Step) (reply : Reply) (p p' : Side) : Type 0 where
  pub acks : Bool
  pub is : s ≡ take w acks
  pub entry : Sent
  pub rest : List Sent
  pub front : p.line ≡ entry ∷ rest
  pub replied : reply ≡ answered (take_numbers (five_of entry.placed) p.record').number
  pub side : p' ≡ take_front acks entry rest p

-- Ack answered 0
pub record AckedAt (w : ℕ) (s : Step) (p p' : Side) : Type 0 where
  pub is : s ≡ ack w
  pub offer : Ack
  pub rest : List Ack
  pub front : p.back ≡ offer ∷ rest
  pub tells : AckTaken offer.term offer.index p.view
  pub side : p' ≡ with_lines p.line rest (with_view (acknowledged offer.index p.view) p)

pub data Worked (j : List Entry) (limit w : ℕ) (s : Step) (reply : Reply) (p p' : Side) : Type 0 where
  caught : CaughtAt j w s p p' → Worked j limit w s reply p p'
  sent : SentAt j limit w s p p' → Worked j limit w s reply p p'
  written : WrittenAt w s p p' → Worked j limit w s reply p p'
  took : TookAt w s reply p p' → Worked j limit w s reply p p'
  acked : AckedAt w s p p' → Worked j limit w s reply p p'

-- a step that does the work of window w
pub record WorksAt (s : Step) (wd : World) (w : ℕ) : Type 0 where
  pub within : w < length wd.sides
  pub after : Side
  pub work : Worked wd.journal wd.limit w s (step s wd).reply (side_at w wd) after
  pub world : (step s wd).world ≡ with_side w after wd
  pub shaped : shape (numbers_in (step s wd).world) (player_in (step s wd).world) ≡ true

-- ------------------------------------------------------------------------
-- Main and Start, which reach every window of a world wd and leave wd'

-- Main answered 0: the next index is read, and each window does as its own rule says
pub record Mained (wd wd' : World) : Type 0 where
  pub below : wd.current < length wd.journal
  pub journal : wd'.journal ≡ wd.journal
  pub limit : wd'.limit ≡ wd.limit
  pub spacing : wd'.spacing ≡ wd.spacing
  pub current : wd'.current ≡ suc wd.current
  pub count : length wd'.sides ≡ length wd.sides
  pub greatest : wd'.greatest ≡ wd.greatest
  pub each : (w : ℕ) → w < length wd.sides →
      side_at w wd' ≡ with_view (main_at wd.journal w wd.spacing (suc wd.current) (side_at w wd).view) (side_at w wd)
  pub shaped : shape (numbers_in wd') (player_in wd') ≡ true

-- Start answered 0: the first term is above every term used before; on that term each window begins anew from its report, which is not
-- below `current`, or is silent
pub record Restarted (settings : Settings) (wd wd' : World) : Type 0 where
  pub above : wd.greatest < settings.first.0
  pub greatest : wd'.greatest ≡ max wd.greatest settings.first.0
  pub journal : wd'.journal ≡ wd.journal
  pub count : length wd'.sides ≡ length wd.sides
  pub least : (w : ℕ) → w < length wd.sides → speaks settings.silent w ≡ true → wd'.current ≤ last_of (side_at w wd)
  pub each : (w : ℕ) → w < length wd.sides →
      side_at w wd'
      ≡ cleared
      (with_view (started_by settings.first (length wd.journal) (said_by settings.silent w (last_of (side_at w wd)))) (side_at w wd))
  pub shaped : shape (numbers_in wd') (player_in wd') ≡ true

-- ------------------------------------------------------------------------
-- Every step

-- not answered 0: nothing changes
pub record Idle (s : Step) (wd : World) : Type 0 where
  pub undone : is_done (step s wd).reply ≡ false
  pub world : (step s wd).world ≡ wd

pub record MainedBy (s : Step) (wd : World) : Type 0 where
  pub index : ℕ
  pub is : s ≡ main index
  pub done : is_done (step s wd).reply ≡ true
  pub mained : Mained wd (step s wd).world

-- a step that is neither a fault nor an append
pub data Work (s : Step) (wd : World) : Type 0 where
  idles : Idle s wd → Work s wd
  reads : MainedBy s wd → Work s wd
  serves : (w : ℕ) → WorksAt s wd w → Work s wd

-- Drop of window w answered 0
pub record DroppedBy (s : Step) (wd : World) (w : ℕ) : Type 0 where
  pub is : s ≡ drop w
  pub done : is_done (step s wd).reply ≡ true
  pub within : w < length wd.sides
  pub world : (step s wd).world ≡ with_side w (with_view (dropped (side_at w wd).view) (side_at w wd)) wd
  pub shaped : shape (numbers_in (step s wd).world) (player_in (step s wd).world) ≡ true

-- a window's view after it has joined with its last index
abbrev pub joined_view : (current : ℕ) → Side → WindowView
joined_view current p = joined current (last_of p) p.view

-- Join of window w answered 0
pub record RejoinedBy (s : Step) (wd : World) (w : ℕ) : Type 0 where
  pub is : s ≡ join w
  pub done : is_done (step s wd).reply ≡ true
  pub within : w < length wd.sides
  pub away : is_suspended (side_at w wd).view.condition ≡ true
  pub world :
      let v : WindowView = joined_view wd.current (side_at w wd) in
      (step s wd).world ≡ raised v.term (with_side w (cleared (with_view v (side_at w wd))) wd)
  pub shaped : shape (numbers_in (step s wd).world) (player_in (step s wd).world) ≡ true

pub record StartedBy (s : Step) (wd : World) : Type 0 where
  pub settings : Settings
  pub is : s ≡ start settings
  pub done : is_done (step s wd).reply ≡ true
  pub restarted : Restarted settings wd (step s wd).world

-- an append that is made
pub record AppendedBy (s : Step) (wd : World) : Type 0 where
  pub entry : Entry
  pub is : s ≡ append entry
  pub done : is_done (step s wd).reply ≡ true
  pub world : (step s wd).world ≡ with_journal (wd.journal ++ (entry ∷ [])) wd
  pub shaped : shape (numbers_in (step s wd).world) (player_in (step s wd).world) ≡ true

-- what a step does
pub data Facts (s : Step) (wd : World) : Type 0 where
  working : begins (sort_of s) (is_done (step s wd).reply) ≡ false → Work s wd → Facts s wd
  dropping : (w : ℕ) → DroppedBy s wd w → Facts s wd
  joining : (w : ℕ) → RejoinedBy s wd w → Facts s wd
  starting : StartedBy s wd → Facts s wd
  appending : AppendedBy s wd → Facts s wd
