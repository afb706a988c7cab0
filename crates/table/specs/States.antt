-- What the words of the proved table's rows say of a player and of a record.
use Rattle.std.specs.Prelude.{ℕ, ◌+◌, ◌-◌, ◌≤◌, ◌<◌, ◌≡◌, List, true, false, length}
use Rattle.journal.specs.Entry.{is_race, entries_of, is_for}
use Rattle.record.specs.declared.Record.{Record}
use Rattle.record.specs.Record.{may_stamp}
use Rattle.record.proofs.Races.{race_at, ClosedAs}
use Rattle.rules.specs.View.{normal, suspended, PlayerView}
use Rattle.rules.specs.Shape.{shape}
use Rattle.rules.specs.Rules.{window_at}
use Rattle.rules.proofs.Offers.{ready_of}

-- ------------------------------------------------------------------------
-- (c), (d): window w is Normal with n queued, and the main stream's next entry is for it and above its acknowledged index

pub record OneMore (ns : List ℕ) (p : PlayerView) (w n : ℕ) : Type 0 where
  pub shaped : shape ns p ≡ true
  pub condition : (window_at w p).condition ≡ normal
  pub queued : length (window_at w p).normal_queue ≡ n
  pub own : is_for (entries_of ns) w (p.current + 1) ≡ true
  pub above : (window_at w p).acked < p.current + 1

-- ------------------------------------------------------------------------
-- (e): eight batches of window w are out, and its line is free

pub record EightOut (ns : List ℕ) (p : PlayerView) (w : ℕ) : Type 0 where
  pub shaped : shape ns p ≡ true
  pub out : length (window_at w p).batches ≡ 8
  pub free : (window_at w p).busy ≡ false

-- ------------------------------------------------------------------------
-- (f): the limit is 32 and at least 33 are ready at window w; its line is free, fewer than eight batches are out, and the output has room

pub record MoreReady (ns : List ℕ) (p : PlayerView) (w size : ℕ) : Type 0 where
  pub shaped : shape ns p ≡ true
  pub limit : p.limit ≡ 32
  pub ready : 33 ≤ length (ready_of (window_at w p))
  pub free : (window_at w p).busy ≡ false
  pub few : length (window_at w p).batches < 8
  pub room : 160 ≤ size

-- ------------------------------------------------------------------------
-- (g): window w is Suspended, and its term can go up

pub record Away (ns : List ℕ) (p : PlayerView) (w : ℕ) : Type 0 where
  pub shaped : shape ns p ≡ true
  pub within : w < length p.windows
  pub condition : (window_at w p).condition ≡ suspended
  pub term : (window_at w p).term.0 < 4294967295

-- ------------------------------------------------------------------------
-- (h), (j): the record has room for n entries more, and the race is one of 1 to 12

pub record CanTake (r : Record) (race n : ℕ) : Type 0 where
  pub races : length r.races ≡ 12
  pub room : r.count + n ≤ 4294967295
  pub named : is_race race ≡ true

-- (h): the race is open, and has an off second
pub record OpenUntil (r : Record) (race off : ℕ) : Type 0 where
  pub named : is_race race ≡ true
  pub still : (race_at r (race - 1)).closed ≡ false
  pub second : (race_at r (race - 1)).off ≡ off

-- (j): the race is closed afterwards, with the off second that it had, and no second is stamped
pub record StillClosed (race : ℕ) (r r' : Record) : Type 0 where
  pub kept : ClosedAs (race_at r (race - 1)) (race_at r' (race - 1))
  pub none : (second : ℕ) → may_stamp r' race second ≡ false
