-- Document 01, "Whole runs", with document 02's acks (W1), silent windows (W3), ticks (W5) and first term (W7): a world of journal,
-- player, windows and lines, and what each step makes of it, whichever player it is.
use Rattle.std.specs.Prelude.{ℕ, max, List, [], ◌∷◌, ◌++◌, map, Bool, true, false, cond, ◌||◌, length, get_or, set, leb, ltb, eqb}
use Rattle.journal.specs.declared.Entry.{Entry}
use Rattle.journal.specs.Entry.{Placed, numbers_of, five_of}
use Rattle.record.specs.declared.Record.{Record}
use Rattle.record.specs.Record.{new_record, take_numbers}
use Rattle.record.specs.Record as Take
use Rattle.rules.specs.declared.Settings.{Settings}
use Rattle.rules.specs.declared.Term.{Term}
use Rattle.rules.specs.View.{WindowView, no_window, PlayerView}
use Rattle.rules.specs.Rules.{Outcome, sent_for}
use Rattle.delivery.specs.Machine.{Machine, large}

-- an entry or a tick on its way to a window, with the term of its batch and whether it is the batch's last
pub record Sent : Type 0 where
  pub placed : Placed
  pub term : Term
  pub ends : Bool

-- an ack on its way back: an index that was taken, and the term of its batch
pub record Ack : Type 0 where
  pub term : Term
  pub index : ℕ

-- one window's side of a run: what the player holds for it, its record, the line to it, the line back, and what it has taken
pub record Side : Type 0 where
  pub view : WindowView
  pub record' : Record
  pub line : List Sent
  pub back : List Ack
  pub taken : List Placed

-- `greatest` is the greatest term used so far: that any window has held, in any life of the player
pub record World : Type 0 where
  pub journal : List Entry
  pub limit : ℕ
  pub spacing : ℕ
  pub current : ℕ
  pub sides : List Side
  pub greatest : ℕ

abbrev pub no_side : Side
no_side = record { view = no_window; record' = new_record; line = []; back = []; taken = [] }

abbrev pub side_at : ℕ → World → Side
side_at w wd = get_or wd.sides w no_side

-- the journal as numbers, and the player, as the rules take them
abbrev pub numbers_in : World → List ℕ
numbers_in wd = numbers_of wd.journal

abbrev pub player_in : World → PlayerView
player_in wd = record { limit = wd.limit; spacing = wd.spacing; current = wd.current; windows = map (λ p. p.view) wd.sides }

-- ------------------------------------------------------------------------
-- Parts of a world replaced

abbrev pub with_view : WindowView → Side → Side
with_view v p = record { view = v; record' = p.record'; line = p.line; back = p.back; taken = p.taken }

abbrev pub with_lines : List Sent → List Ack → Side → Side
with_lines l b p = record { view = p.view; record' = p.record'; line = l; back = b; taken = p.taken }

unfoldable pub with_views : List WindowView → List Side → List Side
with_views [] ps = []
with_views (v ∷ vs) [] = []
with_views (v ∷ vs) (p ∷ ps) = with_view v p ∷ with_views vs ps

-- the world with the player as a rule leaves it
unfoldable pub with_player : PlayerView → World → World
with_player p wd = record {
  journal = wd.journal;
  limit = p.limit;
  spacing = p.spacing;
  current = p.current;
  sides = with_views p.windows wd.sides;
  greatest = wd.greatest;
}

abbrev pub with_sides : List Side → World → World
with_sides ps wd = record {
  journal = wd.journal;
  limit = wd.limit;
  spacing = wd.spacing;
  current = wd.current;
  sides = ps;
  greatest = wd.greatest;
}

abbrev pub with_journal : List Entry → World → World
with_journal j wd = record {
  journal = j;
  limit = wd.limit;
  spacing = wd.spacing;
  current = wd.current;
  sides = wd.sides;
  greatest = wd.greatest;
}

abbrev pub with_side : ℕ → Side → World → World
with_side w p wd = with_sides (set wd.sides w p) wd

-- a term is used: the greatest is not below it
abbrev pub raised : Term → World → World
raised t wd = record {
  journal = wd.journal;
  limit = wd.limit;
  spacing = wd.spacing;
  current = wd.current;
  sides = wd.sides;
  greatest = max wd.greatest t.0;
}

-- ------------------------------------------------------------------------
-- The lines

-- a batch on window w's line: what goes out for each index, with the batch's term, the last marked
unfoldable pub on_line : List Entry → ℕ → Term → List ℕ → List Sent
on_line j w t [] = []
on_line j w t (i ∷ []) = record { placed = sent_for j w i; term = t; ends = true } ∷ []
on_line j w t (i ∷ k ∷ is) = record { placed = sent_for j w i; term = t; ends = false } ∷ on_line j w t (k ∷ is)

-- Take is lent the front entry and removes it. Where it `acks`, and always where the entry is the last of its batch, it puts an ack on the
-- way back
unfoldable pub take_front : Bool → Sent → List Sent → Side → Side
take_front acks s rest p =
    let o : Take.Outcome = take_numbers (five_of s.placed) p.record' in
    record {
      view = p.view;
      record' = o.record';
      line = rest;
      back = cond (acks || s.ends) (p.back ++ (record { term = s.term; index = s.placed.index } ∷ [])) p.back;
      taken = cond (eqb o.number 0) (p.taken ++ (s.placed ∷ [])) p.taken;
    }

-- ------------------------------------------------------------------------
-- Steps

-- A Take says whether it acks an entry that is not the last of its batch. A Start has the batch limit, the spacing, the first term and the
-- set of silent windows that the host chooses.
pub data Step : Type 0 where
  main : ℕ → Step
  catch : ℕ → Term → ℕ → Step
  written : ℕ → Term → Step
  send : ℕ → List ℕ → Step
  take : ℕ → (acks : Bool) → Step
  ack : ℕ → Step
  late-ack : ℕ → Term → ℕ → Step
  drop : ℕ → Step
  join : ℕ → Step
  start : Settings → Step
  append : Entry → Step

-- the papers' number; or a Take or an Ack from an empty line; or a step that is not made: a late ack of a term that is not older, a Start
-- whose first term is not above every term used so far, an append past 65,535 entries
pub data Reply : Type 0 where
  answered : ℕ → Reply
  empty : Reply
  unmade : Reply

pub record Stepped : Type 0 where
  pub reply : Reply
  pub world : World

abbrev pub stays : Reply → World → Stepped
stays r wd = record { reply = r; world = wd }

-- a call of the player, and nothing else
abbrev pub called : Outcome → World → Stepped
called o wd = record { reply = answered o.answer; world = with_player o.next wd }

-- a call of the player, and where it is answered 0 a change of the world after it
abbrev pub called_then : Outcome → (World → World) → World → Stepped
called_then o f wd = record {
  reply = answered o.answer;
  world = cond (eqb o.answer 0) (f (with_player o.next wd)) (with_player o.next wd);
}

abbrev pub take_at_line : ℕ → Bool → List Sent → World → Stepped
take_at_line w acks [] wd = stays empty wd
take_at_line w acks (s ∷ rest) wd = record {
  reply = answered (take_numbers (five_of s.placed) (side_at w wd).record').number;
  world = with_side w (take_front acks s rest (side_at w wd)) wd;
}

-- both ways of a line emptied
abbrev pub cleared : Side → Side
cleared p = with_lines [] [] p

-- of every line
abbrev pub cleared_all : World → World
cleared_all wd = with_sides (map cleared wd.sides) wd

-- an ack of an older term than that of window w; where there is no such window, of any term
abbrev pub is_late : ℕ → Term → World → Bool
is_late w t wd = leb (length wd.sides) w || ltb t.0 (side_at w wd).view.term.0

-- Join answered 0: both ways of the window's line are emptied, and its term is used
abbrev pub rejoined : ℕ → World → World
rejoined w wd = raised (side_at w wd).view.term (with_side w (cleared (side_at w wd)) wd)

-- Start answered 0: both ways of every line are emptied, and the first term is used
abbrev pub restarted : Term → World → World
restarted first wd = raised first (cleared_all wd)

-- the host's premise of a Start: the first term is above every term used so far
abbrev pub is_new : Term → World → Bool
is_new first wd = ltb wd.greatest first.0

-- the reports for Start, which looks at those of the windows that are not silent: the last index of each window's record
abbrev pub reports_in : World → List ℕ
reports_in wd = map (λ p. p.record'.last.0) wd.sides

-- the steps of a world with any player
module _ (m : Machine) where
  -- Send answered 0 puts the batch that it wrote on its window's line
  abbrev pub launch_by : ℕ → World → World → World
  launch_by w before wd =
      let p : Side = side_at w wd in
      let batch : List Sent = on_line before.journal w (side_at w before).view.term (m.batch (numbers_in before) w (player_in before)) in
      with_side w (with_lines (p.line ++ batch) p.back p) wd

  -- Ack offers the front ack, which stays on the line if refused
  abbrev pub ack_at_line_by : ℕ → List Ack → World → Stepped
  ack_at_line_by w [] wd = stays empty wd
  ack_at_line_by w (a ∷ rest) wd =
      called_then (m.ack (numbers_in wd) w a.term a.index (player_in wd))
      (λ wd'. with_side w (with_lines (side_at w wd').line rest (side_at w wd')) wd') wd

  -- windows from W up have no line: a Take or an Ack there is answered 2, as the player's calls are
  unfoldable pub step_by : Step → World → Stepped
  step_by (main i) wd = called (m.main (numbers_in wd) i (player_in wd)) wd
  step_by (catch w t i) wd = called (m.catch (numbers_in wd) w t i (player_in wd)) wd
  step_by (written w t) wd = called (m.written (numbers_in wd) w t (player_in wd)) wd
  step_by (send w out) wd = called_then (m.send (numbers_in wd) w (length out) (player_in wd)) (launch_by w wd) wd
  step_by (take w acks) wd = cond (ltb w (length wd.sides)) (take_at_line w acks (side_at w wd).line wd) (stays (answered 2) wd)
  step_by (ack w) wd = cond (ltb w (length wd.sides)) (ack_at_line_by w (side_at w wd).back wd) (stays (answered 2) wd)
  step_by (late-ack w t i) wd = cond (is_late w t wd) (called (m.ack (numbers_in wd) w t i (player_in wd)) wd) (stays unmade wd)
  step_by (drop w) wd = called (m.drop (numbers_in wd) w (player_in wd)) wd
  step_by (join w) wd = called_then (m.join (numbers_in wd) w (side_at w wd).record'.last.0 (player_in wd)) (rejoined w) wd
  step_by (start settings) wd =
      cond (is_new settings.first wd)
      (called_then (m.start (numbers_in wd) (length wd.sides) settings (reports_in wd) (player_in wd)) (restarted settings.first) wd)
      (stays unmade wd)
  step_by (append e) wd =
      cond (ltb (length wd.journal) 65535)
      (stays (answered 0) (with_journal (wd.journal ++ (e ∷ [])) wd))
      (stays unmade wd)

  -- the world after a list of steps
  unfoldable pub run_by : World → List Step → World
  run_by wd [] = wd
  run_by wd (s ∷ ss) = run_by (step_by s wd).world ss

  -- the replies of a list of steps
  unfoldable pub replies_by : World → List Step → List Reply
  replies_by wd [] = []
  replies_by wd (s ∷ ss) = (step_by s wd).reply ∷ replies_by (step_by s wd).world ss

-- with the large player
abbrev pub launch : ℕ → World → World → World
launch w before wd = launch_by large w before wd

abbrev pub ack_at_line : ℕ → List Ack → World → Stepped
ack_at_line w b wd = ack_at_line_by large w b wd

abbrev pub step : Step → World → Stepped
step s wd = step_by large s wd

abbrev pub run : World → List Step → World
run wd ss = run_by large wd ss

abbrev pub replies : World → List Step → List Reply
replies wd ss = replies_by large wd ss

-- ------------------------------------------------------------------------
-- The beginning: new windows, empty lines, any journal and a Start

abbrev pub new_side : WindowView → Side
new_side v = record { view = v; record' = new_record; line = []; back = []; taken = [] }

-- the world after a first Start, before which no term was used
unfoldable pub opened : List Entry → (first : Term) → Outcome → World
opened j first o = record {
  journal = j;
  limit = o.next.limit;
  spacing = o.next.spacing;
  current = o.next.current;
  sides = map new_side o.next.windows;
  greatest = first.0;
}
