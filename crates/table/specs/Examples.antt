-- A player or a record for each row of the proved table that speaks of any: the words of every row are true of something.
use Rattle.std.specs.Prelude.{ℕ, zero, suc, ◌≤◌, ◌≡◌, refl, List, [], ◌∷◌, ◌++◌, true, false, replicate}
use Rattle.std.proofs.Common.{arith}
use Rattle.journal.specs.Entry.{Placed, numbers_of, entries_of, entry_at, has_window, is_for, entry4}
use Rattle.lists.specs.All.{all}
use Rattle.record.specs.Record.{new_record, race_after, races_after, record_after, take_entry, take_all}
use Rattle.record.proofs.Races.{race_at}
use Rattle.rules.specs.View.{normal, suspended, WindowView, PlayerView}
use Rattle.rules.specs.Shape.{window_shape, shape}
use Rattle.table.specs.States.{OneMore, EightOut, MoreReady, Away, CanTake, OpenUntil}

-- ------------------------------------------------------------------------
-- The player

-- n entries, each for window 0
abbrev pub entries_for0 : ℕ → List ℕ
entries_for0 n = numbers_of (replicate n (entry4 1 4 0 0))

-- the indices 1 to n
unfoldable pub count_up : ℕ → List ℕ
count_up zero = []
count_up (suc n) = count_up n ++ (suc n ∷ [])

-- one window with what is held for it, n entries read
abbrev pub one_window : ℕ → WindowView → PlayerView
one_window n v = record { limit = 32; spacing = 65535; current = n; windows = v ∷ [] }

-- a Normal window with a queue
abbrev pub queueing : List ℕ → WindowView
queueing q = record {
  term = record { 0 = 1 };
  acked = 0;
  sent = 0;
  busy = false;
  batches = [];
  normal_queue = q;
  catch_queue = [];
  condition = normal;
}

-- a window with eight batches out, a free line and one more index queued
abbrev pub out_eight : WindowView
out_eight = record {
  term = record { 0 = 1 };
  acked = 0;
  sent = 8;
  busy = false;
  batches = count_up 8;
  normal_queue = 9 ∷ [];
  catch_queue = [];
  condition = normal;
}

-- a Suspended window with an acknowledged and a sent index
abbrev pub gone : ℕ → ℕ → WindowView
gone acked sent = record {
  term = record { 0 = 1 };
  acked = acked;
  sent = sent;
  busy = true;
  batches = [];
  normal_queue = [];
  catch_queue = [];
  condition = suspended;
}

-- to unfold this is to unfold the definitions that the examples compute with
examples : Unit {0}
unfolding
    count_up shape window_shape all numbers_of entries_of entry_at has_window is_for
    take_all take_entry record_after races_after race_after
examples = tt

pub example-b : shape [] (one_window 0 (queueing [])) ≡ true
unfolding examples
example-b = refl

pub example-c : OneMore (entries_for0 129) (one_window 128 (queueing (count_up 128))) 0 128
unfolding examples
example-c = record { shaped = refl; condition = refl; queued = refl; own = refl; above = omega arith }

pub example-d : OneMore (entries_for0 128) (one_window 127 (queueing (count_up 127))) 0 127
unfolding examples
example-d = record { shaped = refl; condition = refl; queued = refl; own = refl; above = omega arith }

pub example-e : EightOut (entries_for0 9) (one_window 9 out_eight) 0
unfolding examples
example-e = record { shaped = refl; out = refl; free = refl }

pub example-f : MoreReady (entries_for0 33) (one_window 33 (queueing (count_up 33))) 0 160
unfolding examples
example-f = record { shaped = refl; limit = refl; ready = omega arith; free = refl; few = omega arith; room = omega arith }

-- with acknowledged 3 and sent 5, a report of sent is one
pub example-g : Away (entries_for0 9) (one_window 9 (gone 3 5)) 0 × (3 ≤ 5)
unfolding examples
example-g = (record { shaped = refl; within = omega arith; condition = refl; term = omega arith }, omega arith)

-- ------------------------------------------------------------------------
-- The window

-- a POST and a CLOSE as entries at an index, for window 0
abbrev pub post : ℕ → ℕ → ℕ → Placed
post index race second = record { index = index; entry = entry4 1 1 race second }

abbrev pub close : ℕ → ℕ → Placed
close index race = record { index = index; entry = entry4 1 3 race 0 }

-- race 1 of a new record is open
pub example-h : CanTake new_record 1 1 × ((race_at new_record 0).closed ≡ false)
example-h = (record { races = refl; room = omega arith; named = refl }, refl)

-- a new record after a POST of 50,400 to race 1
pub example-h-any : OpenUntil (take_all (post 1 1 50400 ∷ []) new_record) 1 50400
unfolding examples
example-h-any = record { named = refl; still = refl; second = refl }

pub example-j : CanTake new_record 1 2
example-j = record { races = refl; room = omega arith; named = refl }

-- and after a CLOSE of race 1 too
pub example-j-any : (race_at (take_all (post 1 1 50400 ∷ close 2 1 ∷ []) new_record) 0).closed ≡ true
unfolding examples
example-j-any = refl
