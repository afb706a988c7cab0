-- The tick's clause and Send's numbers, computed: the tick, each of its conditions failing alone, and what stands in states that no run
-- reaches. With them the spacing at Start and held, and a tick's index as a report and as an ack.
use Rattle.std.specs.Prelude.{ℕ, ◌≡◌, refl, List, [], ◌∷◌, Bool, true, false}
use Rattle.journal.specs.declared.Entry.{Entry}
use Rattle.journal.specs.Entry.{entry4, numbers_of, entries_of, entry_at, has_window, is_for}
use Rattle.lists.specs.All.{all}
use Rattle.rules.specs.View.{Condition, normal, fetching, completed, suspended, WindowView, PlayerView}
use Rattle.rules.specs.Shape.{window_shape, shape}
use Rattle.rules.specs.Window.{check, requeue, enqueue, read_at, tick_at, main_at, ack_at, join_at}
use Rattle.rules.specs.Rules.{operate, ack_rule, join_rule, sent_for, batch_numbers, said_from, start_rule}

-- a window that has what is shown
abbrev window : (acked sent : ℕ) → (busy : Bool) → (batches n q : List ℕ) → Condition → WindowView
window acked sent busy batches n q s = record {
  term = record { 0 = 1 };
  acked = acked;
  sent = sent;
  busy = busy;
  batches = batches;
  normal_queue = n;
  catch_queue = q;
  condition = s;
}

-- quiet, sent at 6
abbrev quiet : WindowView
quiet = window 6 6 false [] [] [] normal

-- the spacing 3 and `current` 9, which is 6 + 3
pub ticks : tick_at 3 9 quiet ≡ requeue (9 ∷ []) [] normal quiet
unfolding tick_at
ticks = refl

-- not a multiple of the spacing; with sent one too high; in Fetching, in Completed and in Suspended; with an index in either queue; with a
-- batch unacknowledged; with a busy line
pub no-multiple : tick_at 3 10 quiet ≡ quiet
unfolding tick_at
no-multiple = refl

pub not_behind : tick_at 3 9 (window 7 7 false [] [] [] normal) ≡ window 7 7 false [] [] [] normal
unfolding tick_at
not_behind = refl

pub not-fetching : tick_at 3 9 (window 6 6 false [] [] [] (fetching 7 9)) ≡ window 6 6 false [] [] [] (fetching 7 9)
unfolding tick_at
not-fetching = refl

pub not-completed : tick_at 3 9 (window 6 6 false [] [] [] (completed 9)) ≡ window 6 6 false [] [] [] (completed 9)
unfolding tick_at
not-completed = refl

pub not-suspended : tick_at 3 9 (window 6 6 false [] [] [] suspended) ≡ window 6 6 false [] [] [] suspended
unfolding tick_at
not-suspended = refl

pub not-queued : tick_at 3 9 (window 6 6 false [] (8 ∷ []) [] normal) ≡ window 6 6 false [] (8 ∷ []) [] normal
unfolding tick_at
not-queued = refl

pub not-caught : tick_at 3 9 (window 6 6 false [] [] (8 ∷ []) normal) ≡ window 6 6 false [] [] (8 ∷ []) normal
unfolding tick_at
not-caught = refl

pub not-unacknowledged : tick_at 3 9 (window 3 6 false (6 ∷ []) [] [] normal) ≡ window 3 6 false (6 ∷ []) [] [] normal
unfolding tick_at
not-unacknowledged = refl

pub not-busy : tick_at 3 9 (window 6 6 true [] [] [] normal) ≡ window 6 6 true [] [] [] normal
unfolding tick_at
not-busy = refl

-- ------------------------------------------------------------------------
-- a journal of three entries, of which the third alone is for window 0

abbrev three : List Entry
three = entry4 2 1 5 600 ∷ entry4 2 2 5 7 ∷ entry4 3 1 6 700 ∷ []

-- the entry at `current` is queued, and no tick beside it
pub own_first : main_at three 0 1 3 (window 0 0 false [] [] [] normal) ≡ window 0 0 false [] (3 ∷ []) [] normal
unfolding main_at read_at enqueue tick_at is_for entry_at has_window
own_first = refl

-- an entry for another window, and a tick in its place
pub tick-in-its-place : main_at three 0 1 2 (window 0 0 false [] [] [] normal) ≡ window 0 0 false [] (2 ∷ []) [] normal
unfolding main_at read_at enqueue tick_at is_for entry_at has_window
tick-in-its-place = refl

-- an index of the window's own goes out as its entry, another as a tick: NOTE, with set, race and value 0
pub goes-out : batch_numbers three 0 (2 ∷ 3 ∷ []) ≡ 2 ∷ 0 ∷ 4 ∷ 0 ∷ 0 ∷ 3 ∷ 3 ∷ 1 ∷ 6 ∷ 700 ∷ []
unfolding batch_numbers sent_for is_for entry_at has_window
goes-out = refl

-- A state that no run reaches, acknowledged above sent: the entry at `current`, which is the window's own, is not wanted, and `current` is
-- queued by the tick's clause. It is no tick: the entry itself goes out.
pub own-by-the-tick : main_at three 0 3 3 (window 3 0 false [] [] [] normal) ≡ window 3 0 false [] (3 ∷ []) [] normal
unfolding main_at read_at enqueue tick_at is_for entry_at has_window
own-by-the-tick = refl

pub own-goes-out : batch_numbers three 0 (3 ∷ []) ≡ 3 ∷ 3 ∷ 1 ∷ 6 ∷ 700 ∷ []
unfolding batch_numbers sent_for is_for entry_at has_window
own-goes-out = refl

-- ------------------------------------------------------------------------
-- the spacing, and a tick's index

-- a player with one window, which has read two entries of the three
abbrev player_with : (spacing : ℕ) → WindowView → PlayerView
player_with spacing v = record { limit = 2; spacing = spacing; current = 2; windows = v ∷ [] }

-- a window that was sent a tick at 2, Normal or Suspended
abbrev sent_tick : List ℕ → Condition → WindowView
sent_tick batches s = window 0 2 false batches [] [] s

-- what Start answers of one window, to a count, a spacing and a report
abbrev start_answer : (count spacing report : ℕ) → ℕ
start_answer count spacing report =
    (start_rule (numbers_of three) count (record { limit = 2; spacing = spacing; first = record { 0 = 1 }; silent = 0 }) (report ∷ [])
    (player_with 3 quiet)).answer

-- 1 to 65,535; 1 comes before 18, and 18 before 13
pub record SpacingAtStart : Type 0 where
  pub none : start_answer 1 0 0 ≡ 18
  pub least : start_answer 1 1 0 ≡ 0
  pub most : start_answer 1 65535 0 ≡ 0
  pub above : start_answer 1 65536 0 ≡ 18
  pub shape_first : start_answer 0 0 0 ≡ 1
  pub spacing_first : start_answer 1 0 4 ≡ 18
  pub report_last : start_answer 1 1 4 ≡ 13

pub spacing-at-start : SpacingAtStart
unfolding start_rule said_from all numbers_of has_window
spacing-at-start = record {
  none = refl;
  least = refl;
  most = refl;
  above = refl;
  shape_first = refl;
  spacing_first = refl;
  report_last = refl;
}

-- held, a spacing outside these limits is out of shape: an Ack that is else answered 0 is answered 1
abbrev ack_answer : (spacing : ℕ) → ℕ
ack_answer spacing = (ack_rule (numbers_of three) 0 (record { 0 = 1 }) 2 (player_with spacing (sent_tick (2 ∷ []) normal))).answer

pub record SpacingHeld : Type 0 where
  pub none : ack_answer 0 ≡ 1
  pub least : ack_answer 1 ≡ 0
  pub most : ack_answer 65535 ≡ 0
  pub above : ack_answer 65536 ≡ 1

pub spacing-held : SpacingHeld
unfolding ack_rule ack_at operate check shape window_shape all numbers_of
spacing-held = record { none = refl; least = refl; most = refl; above = refl }

-- the index of a tick, which is not that of one of the window's own, as an ack and as a report at Join and at Start
pub record TicksIndex : Type 0 where
  pub other : is_for three 0 2 ≡ false
  pub acked : ack_answer 3 ≡ 0
  pub joined : (join_rule (numbers_of three) 0 2 (player_with 3 (sent_tick [] suspended))).answer ≡ 0
  pub started : start_answer 1 3 2 ≡ 0

pub ticks-index : TicksIndex
unfolding start_rule said_from ack_rule ack_at join_rule join_at operate check shape window_shape all numbers_of entries_of
    is_for entry_at has_window
ticks-index = record { other = refl; acked = refl; joined = refl; started = refl }
