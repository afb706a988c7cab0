-- Document 01, "Whole runs", with document 02's acks (W1), silent windows (W3), ticks (W5) and first term (W7), of the calls as `src/` has
-- them: what a host holds, what each call is handed and gives back, what the calls promise of that, and what the host holds afterwards.
-- Each call is handed the player, record and journal as the calls before left them.
use Rattle.std.specs.Prelude.{ℕ, ◌<◌, max, ◌≡◌, List, [], ◌∷◌, ◌++◌, map, Bool, true, false, cond, ◌||◌, length, get_or, set, replicate, leb, ltb, eqb, Result}
use Rattle.journal.specs.declared.Entry.{Entry}
use Rattle.journal.specs.declared.Index.{Index}
use Rattle.journal.specs.Entry.{count_of, numbers_of}
use Rattle.record.specs.declared.Record.{Record}
use Rattle.record.specs.declared.Refusal.{Refusal}
use Rattle.record.specs.Record.{new_record, outcome_of, take_numbers}
use Rattle.record.specs.Record as Take
use Rattle.rules.specs.declared.Settings.{Settings}
use Rattle.rules.specs.declared.Term.{Term}
use Rattle.rules.specs.View.{WindowView}
use Rattle.rules.specs.Rules.{window_at, main_rule, catch_rule, written_rule, ack_rule, drop_rule, join_rule, send_rule, send_output, start_rule}
use Rattle.window.specs.Promise.{number_of}
use Rattle.player.specs.declared.Player.{Player}
use Rattle.player.specs.declared.Played.{Played}
use Rattle.player.specs.View.{player_of}
use Rattle.player.specs.Promise.{Meets, Starts}
use Rattle.delivery.specs.World.{Ack, Step}
use Rattle.delivery.specs.World as W
use Rattle.delivery.specs.Sorts.{Sort, sort_of}

-- an entry or a tick on its way to a window: its five numbers as Send wrote them, the term of its batch, and whether it is the batch's last
pub record Sent : Type 0 where
  pub numbers : List ℕ
  pub term : Term
  pub ends : Bool

-- the first of five numbers is the index, the second the set
abbrev pub index_of : List ℕ → ℕ
index_of five = get_or five 0 0

abbrev pub set_of : List ℕ → ℕ
set_of five = get_or five 1 0

-- one window's end of a run: its record, the line to it, the line back with acks of a term and an index, and the five numbers lent to each
-- of its Takes that was answered 0
pub record WindowEnd : Type 0 where
  pub record' : Record
  pub line : List Sent
  pub back : List Ack
  pub taken : List (List ℕ)

-- a host: the player as the last call gave it back, the journal's numbers, the windows' ends, W of them, and the greatest term used so far
pub record Host : Type 0 where
  pub player : Player
  pub journal : List ℕ
  pub windows : List WindowEnd
  pub greatest : ℕ

-- a new window, with empty lines; it also stands where there is no window
abbrev pub new_end : WindowEnd
new_end = record { record' = new_record; line = []; back = []; taken = [] }

abbrev pub end_at : ℕ → Host → WindowEnd
end_at w h = get_or h.windows w new_end

-- what a player holds for window w
abbrev pub held_for : ℕ → Player → WindowView
held_for w p = window_at w (player_of p)

-- ------------------------------------------------------------------------
-- Parts of a host replaced

abbrev pub with_player : Player → Host → Host
with_player p h = record { player = p; journal = h.journal; windows = h.windows; greatest = h.greatest }

abbrev pub with_end : ℕ → WindowEnd → Host → Host
with_end w d h = record { player = h.player; journal = h.journal; windows = set h.windows w d; greatest = h.greatest }

-- the end of window w changed
abbrev pub changed : ℕ → (WindowEnd → WindowEnd) → Host → Host
changed w f h = with_end w (f (end_at w h)) h

abbrev pub with_lines : List Sent → List Ack → WindowEnd → WindowEnd
with_lines l b d = record { record' = d.record'; line = l; back = b; taken = d.taken }

-- both ways of a line emptied
abbrev pub cleared : WindowEnd → WindowEnd
cleared d = with_lines [] [] d

abbrev pub cleared_all : Host → Host
cleared_all h = record { player = h.player; journal = h.journal; windows = map cleared h.windows; greatest = h.greatest }

-- a term is used: the greatest is not below it
abbrev pub raised : Term → Host → Host
raised t h = record { player = h.player; journal = h.journal; windows = h.windows; greatest = max h.greatest t.0 }

-- Join answered 0: both ways of the window's line are emptied, and the term that the player holds for it is used
abbrev pub rejoined : ℕ → Host → Host
rejoined w h = raised (held_for w h.player).term (changed w cleared h)

-- Start answered 0: both ways of every line are emptied, and the first term is used
abbrev pub restarted : Term → Host → Host
restarted first h = raised first (cleared_all h)

-- a batch put on the line
abbrev pub put_on : List Sent → WindowEnd → WindowEnd
put_on batch d = with_lines (d.line ++ batch) d.back d

-- ------------------------------------------------------------------------
-- Calls

-- A call: what it was handed beside the player, record and journal, and then what it gave back. Send is lent an output and leaves `out`.
-- Take is lent the front entry of its window's line, Ack is handed the front ack, Join the window's last index, and Start W and the last
-- index of each window, of which that of a silent one is not looked at: the host has no choice there. It chooses the settings of a Start. A
-- Take says whether it acks an entry that is not the last of its batch. `late-ack` is an Ack offer of an older term. An append is the
-- host's own.
pub data Call : Type 0 where
  main : (index : Index) (gave : Played) → Call
  catch : (w : ℕ) (t : Term) (index : Index) (gave : Played) → Call
  written : (w : ℕ) (t : Term) (gave : Played) → Call
  send : (w : ℕ) (lent : List ℕ) (gave : Played) (out : List ℕ) → Call
  take : (w : ℕ) (acks : Bool) (gave : Result Record Refusal) → Call
  ack : (w : ℕ) (gave : Played) → Call
  late-ack : (w : ℕ) (t : Term) (index : Index) (gave : Played) → Call
  drop : (w : ℕ) (gave : Played) → Call
  join : (w : ℕ) (gave : Played) → Call
  start : (settings : Settings) (gave : Played) → Call
  append : (e : Entry) → Call

-- the step that a call makes, and its sort
abbrev pub call_step : Call → Step
call_step (main i r) = W.main i.0
call_step (catch w t i r) = W.catch w t i.0
call_step (written w t r) = W.written w t
call_step (send w lent r out) = W.send w lent
call_step (take w acks t) = W.take w acks
call_step (ack w r) = W.ack w
call_step (late-ack w t i r) = W.late-ack w t i.0
call_step (drop w r) = W.drop w
call_step (join w r) = W.join w
call_step (start settings r) = W.start settings
call_step (append e) = W.append e

abbrev pub call_sort : Call → Sort
call_sort c = sort_of (call_step c)

-- the report of a window: the last index in its record
abbrev pub report_of : WindowEnd → ℕ
report_of d = d.record'.last.0

-- a term older than the one that the player holds for window w; where there is no such window, any term
abbrev pub is_late : ℕ → Term → Host → Bool
is_late w t h = leb (length h.windows) w || ltb t.0 (held_for w h.player).term.0

-- Take is lent the front entry's five numbers, by value or on a record lent: both promise this. From an empty line, and at a window that is
-- not there, no Take is made: nothing is promised, and nothing changes
abbrev pub MadeTake : Result Record Refusal → List Sent → Record → Type 0
MadeTake t [] own = Unit {0}
MadeTake t (s ∷ rest) own = outcome_of own t ≡ take_numbers s.numbers own

-- Ack is handed the front ack. From an empty line, and at a window that is not there, no Ack is made, as above
abbrev pub MadeAck : ℕ → Played → List Ack → Host → Type 0
MadeAck w r [] h = Unit {0}
MadeAck w r (a ∷ rest) h = Meets h.player r (ack_rule h.journal w a.term a.index (player_of h.player))

-- what a call gave meets its promise as `src/` states it, of what it was handed; a late Ack is late, the first term of a Start is above
-- every term used so far, and no append goes past 65,535 entries
abbrev pub Made : Host → Call → Type 0
Made h (main i r) = Meets h.player r (main_rule h.journal i.0 (player_of h.player))
Made h (catch w t i r) = Meets h.player r (catch_rule h.journal w t i.0 (player_of h.player))
Made h (written w t r) = Meets h.player r (written_rule h.journal w t (player_of h.player))
Made h (send w lent r out) =
    (Meets h.player r (send_rule h.journal w (length lent) (player_of h.player)))
    × (out ≡ send_output h.journal w lent (player_of h.player))
Made h (take w acks t) = MadeTake t (end_at w h).line (end_at w h).record'
Made h (ack w r) = MadeAck w r (end_at w h).back h
Made h (late-ack w t i r) = (is_late w t h ≡ true) × (Meets h.player r (ack_rule h.journal w t i.0 (player_of h.player)))
Made h (drop w r) = Meets h.player r (drop_rule h.journal w (player_of h.player))
Made h (join w r) = Meets h.player r (join_rule h.journal w (report_of (end_at w h)) (player_of h.player))
Made h (start settings r) =
    let reports : List ℕ = map report_of h.windows in
    (h.greatest < settings.first.0)
    × (Starts h.player (count_of h.journal) (length h.windows) settings reports r
    (start_rule h.journal (length h.windows) settings reports (player_of h.player)))
Made h (append e) = count_of h.journal < 65535

-- ------------------------------------------------------------------------
-- What the host holds after a call

-- answered 0
abbrev pub is_done : Played → Bool
is_done r = eqb (number_of r.answer) 0

abbrev pub is_taken : Result Record Refusal → Bool
is_taken t = eqb (Take.number_of t) 0

-- From an empty line no Take and no Ack is made, so none is answered 0.
abbrev pub done_at_line : {A : Type 0} → List A → Bool → Bool
done_at_line [] done = false
done_at_line (x ∷ rest) done = done

-- whether a call is answered 0; an append is made
abbrev pub done_in : Host → Call → Bool
done_in h (main i r) = is_done r
done_in h (catch w t i r) = is_done r
done_in h (written w t r) = is_done r
done_in h (send w lent r out) = is_done r
done_in h (take w acks t) = done_at_line (end_at w h).line (is_taken t)
done_in h (ack w r) = done_at_line (end_at w h).back (is_done r)
done_in h (late-ack w t i r) = is_done r
done_in h (drop w r) = is_done r
done_in h (join w r) = is_done r
done_in h (start settings r) = is_done r
done_in h (append e) = true

-- the player that a call gave back, and where it was answered 0 a change of the host after it
abbrev pub called : Played → (Host → Host) → Host → Host
called r f h = cond (is_done r) (f (with_player r.player h)) (with_player r.player h)

-- The batch in an output, five numbers an entry: up to the first entry at the index `sent`, which is the batch's last.
unfoldable pub batch_in : ℕ → Term → List ℕ → List Sent
batch_in sent t [] = []
batch_in sent t (i ∷ []) = []
batch_in sent t (i ∷ s ∷ []) = []
batch_in sent t (i ∷ s ∷ k ∷ []) = []
batch_in sent t (i ∷ s ∷ k ∷ c ∷ []) = []
batch_in sent t (i ∷ s ∷ k ∷ c ∷ v ∷ out) =
    cond (eqb i sent) (record { numbers = i ∷ s ∷ k ∷ c ∷ v ∷ []; term = t; ends = true } ∷ [])
    (record { numbers = i ∷ s ∷ k ∷ c ∷ v ∷ []; term = t; ends = false } ∷ batch_in sent t out)

-- the batch that a Send to window w has written: up to the sent index, and with the term, that the player then holds for the window
abbrev pub batch_to : ℕ → Player → List ℕ → List Sent
batch_to w p out = batch_in (held_for w p).sent (held_for w p).term out

-- the ack of an entry or a tick
abbrev pub ack_for : Sent → Ack
ack_for s = record { term = s.term; index = index_of s.numbers }

-- Take removes the front entry. Where it `acks`, and always where the entry is the last of its batch, it puts an ack on the way back. From
-- an empty line nothing changes
abbrev pub take_front : Bool → Result Record Refusal → List Sent → WindowEnd → WindowEnd
take_front acks t [] d = d
take_front acks t (s ∷ rest) d = record {
  record' = (outcome_of d.record' t).record';
  line = rest;
  back = cond (acks || s.ends) (d.back ++ (ack_for s ∷ [])) d.back;
  taken = cond (is_taken t) (d.taken ++ (s.numbers ∷ [])) d.taken;
}

-- Ack offers the front ack, which stays on the line if refused. From an empty line nothing changes
abbrev pub ack_front : ℕ → Played → List Ack → Host → Host
ack_front w r [] h = h
ack_front w r (a ∷ rest) h = called r (changed w (λ d. with_lines d.line rest d)) h

unfoldable pub after : Call → Host → Host
after (main i r) h = with_player r.player h
after (catch w t i r) h = with_player r.player h
after (written w t r) h = with_player r.player h
after (send w lent r out) h = called r (changed w (put_on (batch_to w r.player out))) h
after (take w acks t) h = changed w (λ d. take_front acks t d.line d) h
after (ack w r) h = ack_front w r (end_at w h).back h
after (late-ack w t i r) h = with_player r.player h
after (drop w r) h = with_player r.player h
after (join w r) h = called r (rejoined w) h
after (start settings r) h = called r (restarted settings.first) h
after (append e) h = record {
  player = h.player;
  journal = h.journal ++ numbers_of (e ∷ []);
  windows = h.windows;
  greatest = h.greatest;
}

-- ------------------------------------------------------------------------
-- Lists of calls

-- each call of a list meets its promise, handed what the calls before it left
abbrev pub MadeAll : Host → List Call → Type 0
MadeAll h [] = Unit {0}
MadeAll h (c ∷ cs) = Made h c × MadeAll (after c h) cs

-- what the host holds after a list of calls
unfoldable pub host_after : Host → List Call → Host
host_after h [] = h
host_after h (c ∷ cs) = host_after (after c h) cs

-- the beginning: the player that a Start gave back, its first term, a journal, and W new windows with empty lines
abbrev pub opened : Player → Term → List ℕ → ℕ → Host
opened p first ns count = record { player = p; journal = ns; windows = replicate count new_end; greatest = first.0 }
