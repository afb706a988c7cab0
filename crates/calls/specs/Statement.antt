-- Demand 3 of the calls, stated. The file imports definitions alone. Document 01's words, section "Whole runs", stand beside each part.
use Rattle.std.specs.Prelude.{ℕ, suc, ◌+◌, ◌*◌, ◌≤◌, ◌<◌, ◌≡◌, List, [], ◌∷◌, map, Bool, true, cond, ◌&&◌, ◌||◌, length, take, eqb}
use Rattle.journal.specs.Entry.{count_of, entries_of, has_window, five_of}
use Rattle.journal.specs.Own.{own}
use Rattle.lists.specs.All.{all}
use Rattle.lists.specs.Elem.{last_or}
use Rattle.lists.specs.Keep.{keep}
use Rattle.lists.specs.Same.{same_bool, same_list}
use Rattle.record.specs.declared.Record.{Record}
use Rattle.record.specs.Record.{new_record, take_numbers, take_all}
use Rattle.record.specs.Same.{same_record}
use Rattle.rules.specs.declared.Settings.{Settings}
use Rattle.rules.specs.View.{PlayerView}
use Rattle.rules.specs.Rules.{speaks, start_rule}
use Rattle.window.specs.Promise.{number_of}
use Rattle.player.specs.declared.Player.{Player}
use Rattle.player.specs.declared.Played.{Played}
use Rattle.player.specs.View.{player_of}
use Rattle.player.specs.Promise.{Starts}
use Rattle.delivery.specs.Sorts.{begins, joined_by, is_work}
use Rattle.delivery.specs.Statement.{new_reports}
use Rattle.delivery.specs.Same.{same_window, same_ack}
use Rattle.calls.specs.Host.{Sent, index_of, set_of, WindowEnd, Host, end_at, Call, call_sort, Made, done_in, after, MadeAll, host_after, opened}

-- ------------------------------------------------------------------------
-- Whether two hosts look the same: the player's state, the records and the lines, and nothing else

unfoldable pub same_sent : Sent → Sent → Bool
same_sent a b = same_list eqb a.numbers b.numbers && (eqb a.term.0 b.term.0 && same_bool a.ends b.ends)

-- a window's end but for the history of what was taken
unfoldable pub same_end : WindowEnd → WindowEnd → Bool
same_end a b = same_record a.record' b.record' && (same_list same_sent a.line b.line && same_list same_ack a.back b.back)

-- The player's state is its view: what stands past a queue's length is no part of it.
unfoldable pub same_host : Host → Host → Bool
same_host a b =
    let p : PlayerView = player_of a.player in
    let q : PlayerView = player_of b.player in
    eqb p.limit q.limit
    && (eqb p.spacing q.spacing
    && (eqb p.current q.current
    && (same_list same_window p.windows q.windows && same_list same_end a.windows b.windows)))

-- ------------------------------------------------------------------------
-- Counts and conditions of a list of calls. What begins a count anew, who is joined and what is work is said of the sort of a call

-- The number of calls since the last fault or append that changed something: the player's state, a record or a line differs after it.
-- n of them are counted before the list.
unfoldable pub changes : ℕ → Host → List Call → ℕ
changes n h [] = n
changes n h (c ∷ cs) = changes (cond (begins (call_sort c) (done_in h c)) 0 (cond (same_host h (after c h)) n (suc n))) (after c h) cs

-- whether window w is joined after the list, where it was or was not before
unfoldable pub joined_after : ℕ → Bool → Host → List Call → Bool
joined_after w b h [] = b
joined_after w b h (c ∷ cs) = joined_after w (joined_by w (call_sort c) (done_in h c) b) (after c h) cs

-- all of W windows are joined after the list, from a Start answered 0 with this set of silent windows
abbrev pub AllJoined : (count silent : ℕ) → Host → List Call → Type 0
AllJoined count silent h calls = (w : ℕ) → w < count → joined_after w (speaks silent w) h calls ≡ true

-- "None can": no Main, Catch, Send, Written, Take or Ack that the list might go on with would change anything, whatever it gives that meets
-- its promise
abbrev pub NoneCan : Host → Type 0
NoneCan h = (c : Call) → is_work (call_sort c) ≡ true → Made h c → same_host h (after c h) ≡ true

-- ------------------------------------------------------------------------
-- What a window has taken, five numbers each

-- one of window w's own: its set has the window's bit
abbrev pub is_own_five : ℕ → List ℕ → Bool
is_own_five w five = has_window w (set_of five)

-- the window's own, in order
abbrev pub own_fives : ℕ → List (List ℕ) → List (List ℕ)
own_fives w fives = keep (is_own_five w) fives

-- Document 02, W5: an index, and then set 0, kind NOTE, race 0 and value 0
abbrev pub is_tick_five : List ℕ → Bool
is_tick_five five = same_list eqb five (index_of five ∷ 0 ∷ 4 ∷ 0 ∷ 0 ∷ [])

-- what Take makes of a record lent these one after another
unfoldable pub take_fives : List (List ℕ) → Record → Record
take_fives [] r = r
take_fives (five ∷ fives) r = take_fives fives (take_numbers five r).record'

-- ------------------------------------------------------------------------
-- The theorem

-- What it has taken is the list of entries lent to its Takes that were answered 0. Some are its own, the others ticks. Read without ticks,
-- if these are k, the list equals the first k of its own entries, each as five numbers. The record equals what Take makes of a new record
-- lent the whole list, ticks and all, one after another: its races are what those k from the journal give, its count is the number of all
-- that was taken, and its last the index of the last of it.
pub record Leading (ns : List ℕ) (w : ℕ) (d : WindowEnd) : Type 0 where
  pub k : ℕ
  pub list : own_fives w d.taken ≡ map five_of (take k (own (entries_of ns) w))
  pub others : all (λ five. is_own_five w five || is_tick_five five) d.taken ≡ true
  pub folded : d.record' ≡ take_fives d.taken new_record
  pub races : d.record'.races ≡ (take_all (take k (own (entries_of ns) w)) new_record).races
  pub count : d.record'.count ≡ length d.taken
  pub last : d.record'.last.0 ≡ last_or 0 (map index_of d.taken)

-- the three results, for W windows, the set of those silent at the first Start, the host after it, and a list of calls from there
pub record Delivers (count silent : ℕ) (h : Host) (calls : List Call) : Type 0 where
  -- every window has taken a leading part of its own entries, once each and in order, and ticks among them
  pub leading : (w : ℕ) → w < count → Leading (host_after h calls).journal w (end_at w (host_after h calls))
  -- with all windows joined, at most L × (1 + 5 × W) calls since the last fault or append changed anything
  pub bound : AllJoined count silent h calls → changes 0 h calls ≤ count_of (host_after h calls).journal * (1 + 5 * count)
  -- with all windows joined, when none can, every window has taken all of its own entries
  pub finish : AllJoined count silent h calls → NoneCan (host_after h calls) →
      (w : ℕ) → w < count → own_fives w (end_at w (host_after h calls)).taken ≡ map five_of
      (own (entries_of (host_after h calls).journal) w)

-- what the first Start gives meets its promise: it is handed the reports of new windows, and whatever player there was before
abbrev pub FirstStart : Player → List ℕ → (count : ℕ) → Settings → Played → Type 0
FirstStart before ns count settings r =
    Starts before (count_of ns) count settings (new_reports count) r (start_rule ns count settings (new_reports count) (player_of before))

-- Demand 3 of the calls. The list starts from new windows, empty lines, any journal and a Start answered 0. W, the batch limit, the
-- spacing, the first term, the silent windows and the journal are any that this Start takes, and the calls are any that meet their
-- promises.
abbrev pub Demand3Calls : Type 0
Demand3Calls =
    (before : Player) (ns : List ℕ) (count : ℕ) (settings : Settings) (r : Played) →
    FirstStart before ns count settings r → number_of r.answer ≡ 0 →
    (calls : List Call) → MadeAll (opened r.player settings.first ns count) calls →
    Delivers count settings.silent (opened r.player settings.first ns count) calls
