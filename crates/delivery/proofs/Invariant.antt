-- The invariant of a run, one window at a time, in its parts: what is taken, what is on the line, what is unacknowledged, what is queued.
-- Each part speaks of no more than its parameters, so a step that leaves these alone hands it on.
use Rattle.std.specs.Prelude.{ℕ, ◌-◌, ◌≤◌, ◌<◌, max, ◌≡◌, List, [], ◌∷◌, ◌++◌, map, Bool, true, false, cond, length, drop}
use Rattle.journal.specs.declared.Entry.{Entry}
use Rattle.journal.specs.Entry.{Placed, is_for}
use Rattle.journal.specs.Due.{due}
use Rattle.lists.specs.All.{all}
use Rattle.lists.specs.Elem.{elem, last_or}
use Rattle.lists.specs.Rising.{Rising}
use Rattle.lists.specs.Keep.{keep}
use Rattle.record.specs.declared.Record.{Record}
use Rattle.record.specs.Record.{new_record, take_all}
use Rattle.rules.specs.declared.Term.{Term}
use Rattle.rules.specs.View.{Condition, normal, fetching, completed, suspended, WindowView}
use Rattle.rules.specs.Shape.{is_empty, shape}
use Rattle.rules.specs.Window.{is_suspended}
use Rattle.rules.specs.Rules.{sent_for}
use Rattle.delivery.specs.World.{Sent, Ack, Side, World, side_at, numbers_in, player_in}

-- the last index in a window's record
abbrev pub last_of : Side → ℕ
last_of p = p.record'.last.0

-- ------------------------------------------------------------------------
-- Indices with ticks among them

-- indices that rise within (a, b]; without ticks they are the window's own there
pub record Holds (j : List Entry) (w a b : ℕ) (q : List ℕ) : Type 0 where
  pub rises : Rising a q b
  pub own : keep (is_for j w) q ≡ due j w a b

-- there is no tick among them; there is none but at the front
pub record NoTick (j : List Entry) (w : ℕ) (q : List ℕ) : Type 0 where
  pub own : all (is_for j w) q ≡ true

pub record TickFirst (j : List Entry) (w : ℕ) (q : List ℕ) : Type 0 where
  pub own : all (is_for j w) (drop 1 q) ≡ true

-- ------------------------------------------------------------------------
-- What is taken

-- what is due up to the record's last index is taken, with ticks among it, and the record is made of all that
pub record Taken (j : List Entry) (w : ℕ) (r : Record) (taken : List Placed) : Type 0 where
  pub last_in : r.last.0 ≤ length j
  pub order : List ℕ
  pub has : Holds j w 0 r.last.0 order
  pub taken_is : taken ≡ map (sent_for j w) order
  pub record_is : r ≡ take_all taken new_record

-- ------------------------------------------------------------------------
-- What is on the line

abbrev pub line_entries : List Sent → List Placed
line_entries l = map (λ s. s.placed) l

-- every term on a line is t
abbrev pub LineTerms : Term → List Sent → Type 0
LineTerms t [] = Unit {0}
LineTerms t (s ∷ l) = (s.term ≡ t) × LineTerms t l

-- What is due from last to sent is on the line. Of a Suspended window (`away`) there may be nothing: of one that was silent at a Start.
pub record Whole (j : List Entry) (w last sent : ℕ) (line : List Sent) : Type 0 where
  pub order : List ℕ
  pub has : Holds j w last sent order
  pub line_is : line_entries line ≡ map (sent_for j w) order

pub data LineHas (j : List Entry) (w : ℕ) (away : Bool) (last sent : ℕ) (line : List Sent) : Type 0 where
  whole : Whole j w last sent line → LineHas j w away last sent line
  nothing : away ≡ true → line ≡ [] → LineHas j w away last sent line

pub record InFlight (j : List Entry) (w : ℕ) (away : Bool) (t : Term) (last sent : ℕ) (line : List Sent) : Type 0 where
  pub last_sent : last ≤ sent
  pub sent_in : sent ≤ length j
  pub line_is : LineHas j w away last sent line
  pub line_terms : LineTerms t line

-- ------------------------------------------------------------------------
-- What is unacknowledged

abbrev pub back_indices : List Ack → List ℕ
back_indices b = map (λ a. a.index) b

abbrev pub BackTerms : Term → List Ack → Type 0
BackTerms t [] = Unit {0}
BackTerms t (a ∷ b) = (a.term ≡ t) × BackTerms t b

-- the last indices of the batches on a line
unfoldable pub ends_of : List Sent → List ℕ
ends_of [] = []
ends_of (s ∷ l) = cond s.ends (s.placed.index ∷ ends_of l) (ends_of l)

-- The acks on the way back rise from the acknowledged index to last. The unacknowledged batches rise from the acknowledged index to sent,
-- and each has its ack on the way back or its last entry on the line; a Suspended window (`away`) has none. Of another the newest ends at
-- sent, and where there is none all that is sent is acknowledged.
pub record Unacknowledged (away : Bool) (t : Term) (acked last sent : ℕ) (batches : List ℕ) (line : List Sent) (back : List Ack)
    : Type 0 where
  pub acked_last : acked ≤ last
  pub back_terms : BackTerms t back
  pub back_rises : Rising acked (back_indices back) last
  pub batches_rise : Rising acked batches sent
  pub batches_out : (x : ℕ) → elem x batches ≡ true → elem x (back_indices back ++ ends_of line) ≡ true
  pub no_batches : away ≡ true → batches ≡ []
  pub newest : away ≡ false → last_or acked batches ≡ sent

-- ------------------------------------------------------------------------
-- What is queued

-- Normal: the normal queue has what is due after sent. The window is ahead of the main stream only where all that is sent is acknowledged
pub record NormalQueues (j : List Entry) (current w acked sent : ℕ) (n : List ℕ) : Type 0 where
  pub ahead : sent ≤ max current acked
  pub normal_has : Holds j w sent current n
  pub tick_first : TickFirst j w n

-- Fetching: the catch-up queue has what is due up to next - 1, the normal queue what is due after the end
pub record FetchingQueues (j : List Entry) (current w sent : ℕ) (n q : List ℕ) (next end : ℕ) : Type 0 where
  pub behind : sent < next
  pub order : next ≤ end
  pub read : end ≤ current
  pub catch_has : Holds j w sent (next - 1) q
  pub normal_has : Holds j w end current n
  pub tick_first : TickFirst j w q
  pub no_tick : NoTick j w n

-- Completed: the catch-up queue has what is due up to the end and is not empty, the normal queue what is due after the end
pub record CompletedQueues (j : List Entry) (current w sent : ℕ) (n q : List ℕ) (end : ℕ) : Type 0 where
  pub behind : sent ≤ end
  pub read : end ≤ current
  pub some : is_empty q ≡ false
  pub catch_has : Holds j w sent end q
  pub normal_has : Holds j w end current n
  pub tick_first : TickFirst j w q
  pub no_tick : NoTick j w n

-- Suspended: nothing is queued
pub record NoQueues (n q : List ℕ) : Type 0 where
  pub normal_is : n ≡ []
  pub catch_is : q ≡ []

-- the normal queue n and the catch-up queue q of a window, by its condition
abbrev pub Queues : List Entry → (current w acked sent : ℕ) → (n q : List ℕ) → Condition → Type 0
Queues j current w acked sent n q normal = NormalQueues j current w acked sent n
Queues j current w acked sent n q (fetching next end) = FetchingQueues j current w sent n q next end
Queues j current w acked sent n q (completed end) = CompletedQueues j current w sent n q end
Queues j current w acked sent n q suspended = NoQueues n q

-- the same of a window whose condition is s
abbrev pub QueuesOf : List Entry → (current w : ℕ) → WindowView → Condition → Type 0
QueuesOf j current w v s = Queues j current w v.acked v.sent v.normal_queue v.catch_queue s

-- ------------------------------------------------------------------------
-- The whole

-- a window's side of a reachable world
pub record Inv (j : List Entry) (current w : ℕ) (p : Side) : Type 0 where
  pub taken : Taken j w p.record' p.taken
  pub flight : InFlight j w (is_suspended p.view.condition) p.view.term (last_of p) p.view.sent p.line
  pub unacked :
      Unacknowledged (is_suspended p.view.condition) p.view.term p.view.acked (last_of p) p.view.sent p.view.batches
      p.line p.back
  pub queues : QueuesOf j current w p.view p.view.condition
  pub busy_sent : p.view.busy ≡ true → 1 ≤ p.view.sent

-- a reachable world: in shape, and each window's side as above
pub record Reached (wd : World) : Type 0 where
  pub in_shape : shape (numbers_in wd) (player_in wd) ≡ true
  pub each : (w : ℕ) → w < length wd.sides → Inv wd.journal wd.current w (side_at w wd)
