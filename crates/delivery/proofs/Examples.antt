-- Runs, and three states that no run reaches, computed on the rules. An example computes the definitions themselves, and no law of them is
-- used: each is true by `refl`.
use Rattle.std.specs.Prelude.{ℕ, ◌+◌, ◌*◌, ◌≡◌, refl, List, [], ◌∷◌, true, false, length, replicate, leb}
use Rattle.journal.specs.declared.Entry.{Entry}
use Rattle.journal.specs.Entry.{entry4, numbers_of, entries_of, entry_at, has_window, is_for}
use Rattle.journal.specs.Own.{own}
use Rattle.lists.specs.All.{all}
use Rattle.lists.specs.Above.{above}
use Rattle.lists.specs.Same.{same_list}
use Rattle.record.specs.Record.{race_after, races_after, record_after, take_entry, take_numbers}
use Rattle.record.specs.Same.{same_race, same_record}
use Rattle.rules.specs.declared.Settings.{Settings}
use Rattle.rules.specs.declared.Term.{Term}
use Rattle.rules.specs.View.{normal, WindowView, PlayerView}
use Rattle.rules.specs.Shape.{window_shape, shape}
use Rattle.rules.specs.Window.{started_silent, check, enqueue, read_at, tick_at, main_at, fetched, catch_in, catch_at, ready_in, batch_of, launched, send_at, written_at, ack_at, drop_at, join_at}
use Rattle.rules.specs.Rules.{speaks, operate, map_windows, main_rule, catch_rule, written_rule, ack_rule, drop_rule, join_rule, send_rule, said_from, sent_for, spoken, least, start_rule}
use Rattle.delivery.specs.World.{World, side_at, with_views, with_player, on_line, take_front, Step, main, catch, written, send, take, ack, late-ack, drop, join, start, Reply, answered, empty, unmade, step_by, run, run_by, replies, replies_by, opened}
use Rattle.delivery.specs.Same.{same_window, same_entry, same_sent, same_ack, same_side, same_world}
use Rattle.delivery.specs.Statement.{changes, changes_by, joined_after, joined_after_by, first_world}

-- to unfold this is to unfold the definitions that a run computes with
unfoldable pub computed : Unit {0}
unfolding
    replies_by run_by step_by opened with_views with_player on_line take_front
    start_rule said_from sent_for spoken least main_rule catch_rule written_rule ack_rule drop_rule join_rule send_rule operate map_windows
    shape window_shape all
    check enqueue read_at tick_at main_at fetched catch_in catch_at ready_in batch_of launched send_at written_at ack_at drop_at join_at
    above race_after races_after record_after take_entry take_numbers
    numbers_of entries_of entry_at has_window is_for own
computed = tt

-- to unfold this is to unfold the definitions that changes are counted with
counted : Unit {0}
unfolding changes_by joined_after_by same_world same_side same_window same_record same_race same_sent same_entry same_ack same_list
counted = tt

abbrev pub done : Reply
done = answered 0

-- what a window shows at the end: last and count
pub record Shown : Type 0 where
  pub last : ℕ
  pub count : ℕ

abbrev pub shown_at : ℕ → World → Shown
shown_at w wd = record { last = (side_at w wd).record'.last.0; count = (side_at w wd).record'.count }

abbrev pub nobody : PlayerView
nobody = record { limit = 0; spacing = 0; current = 0; windows = [] }

-- a spacing at which these runs have no tick
abbrev pub wide : ℕ
wide = 65535

abbrev pub term : ℕ → Term
term n = record { 0 = n }

-- batch limit 2, a first term and a set of silent windows
abbrev pub chosen : (first silent : ℕ) → Settings
chosen first silent = record { limit = 2; spacing = wide; first = term first; silent = silent }

-- a run's beginning: W windows, first term 1, and a set of silent windows
abbrev pub opened_without : ℕ → List Entry → ℕ → World
opened_without silent j count = first_world nobody j count (chosen 1 silent)

-- no window is silent
abbrev pub opened_with : List Entry → ℕ → World
opened_with j count = opened_without 0 j count

abbrev pub room : List ℕ
room = replicate 10 0

-- the journal of document 01's run: 1 3 POST 1 50400; 2 1 ODDS 1 350; 3 2 CLOSE 1 0
abbrev pub afternoon : List Entry
afternoon = entry4 3 1 1 50400 ∷ entry4 1 2 1 350 ∷ entry4 2 3 1 0 ∷ []

-- A line drops between taking the last entry of a batch and its ack: the ack is refused and stays. The window joins with what it has taken:
-- the line is then empty both ways and free, and the window is Normal.
abbrev pub drop_steps : List Step
drop_steps =
    main 1 ∷ main 2 ∷ send 0 room ∷ take 0 false ∷ take 0 false ∷ drop 0 ∷ ack 0 ∷ join 0 ∷ ack 0 ∷ main 3 ∷ catch 0 (term 2) 3
    ∷ written 0 (term 2) ∷ []

pub record DropBeforeAck : Type 0 where
  pub answers : replies (opened_with afternoon 2) drop_steps ≡
      done ∷ done ∷ done ∷ done ∷ done ∷ done ∷ answered 3 ∷ done ∷ empty ∷ done ∷ answered 4 ∷ answered 8 ∷ []
  pub window0 : shown_at 0 (run (opened_with afternoon 2) drop_steps) ≡ record { last = 2; count = 2 }
  pub acknowledged : (side_at 0 (run (opened_with afternoon 2) drop_steps)).view.acked ≡ 2

pub drop-before-ack : DropBeforeAck
unfolding computed
drop-before-ack = record { answers = refl; window0 = refl; acknowledged = refl }

-- The player starts anew in the middle of a batch, of which window 0 has taken and acked the first entry: both ways of its line are empty.
-- That ack comes with its old term and is turned away, and so are a Written and an Ack of the old term when the line is busy again and an
-- ack is due. The second entry was on the line; it is sent again, and taken once.
abbrev pub start_steps : List Step
start_steps =
    main 1 ∷ main 2 ∷ send 0 room ∷ take 0 true ∷ start (chosen 2 0) ∷ late-ack 0 (term 1) 1 ∷ take 0 false
    ∷ main 1 ∷ main 2 ∷ send 0 room ∷ written 0 (term 1) ∷ late-ack 0 (term 1) 2 ∷ written 0 (term 2) ∷ take 0 false ∷ ack 0 ∷ []

pub record StartInBatch : Type 0 where
  pub answers : replies (opened_with afternoon 2) start_steps ≡
      done ∷ done ∷ done ∷ done ∷ done ∷ answered 5 ∷ empty
      ∷ done ∷ done ∷ done ∷ answered 5 ∷ answered 5 ∷ done ∷ done ∷ done ∷ []
  pub window0 : (side_at 0 (run (opened_with afternoon 2) start_steps)).taken ≡ own afternoon 0
  pub acknowledged : (side_at 0 (run (opened_with afternoon 2) start_steps)).view.acked ≡ 2

pub start-in-batch : StartInBatch
unfolding computed
start-in-batch = record { answers = refl; window0 = refl; acknowledged = refl }

-- The greatest term used: a Start whose first term is not above it is not made, and changes nothing. A Join raises it for all windows, and
-- a Start sets it. Where it is the last term there is, no window joins and no Start is made.
abbrev pub term_steps : List Step
term_steps =
    start (chosen 1 0) ∷ drop 0 ∷ join 0 ∷ start (chosen 2 0) ∷ start (chosen 3 0) ∷ start (chosen 3 0)
    ∷ start (chosen 4294967295 2) ∷ join 1 ∷ drop 0 ∷ join 0 ∷ start (chosen 4294967295 0) ∷ []

pub record TermsUsed : Type 0 where
  pub first : (opened_with afternoon 2).greatest ≡ 1
  pub answers : replies (opened_with afternoon 2) term_steps ≡
      unmade ∷ done ∷ done ∷ unmade ∷ done ∷ unmade ∷ done ∷ answered 14 ∷ done ∷ answered 14 ∷ unmade ∷ []
  pub joined : (run (opened_with afternoon 2) (drop 0 ∷ join 0 ∷ [])).greatest ≡ 2
  pub last : (run (opened_with afternoon 2) term_steps).greatest ≡ 4294967295

pub terms-used : TermsUsed
unfolding computed
terms-used = record { first = refl; answers = refl; joined = refl; last = refl }

-- What the premise is for, in a world that no run reaches: it has forgotten which terms were used. The player starts anew on term 1, which
-- window 0 has had. When the first entry is on its line, a Written of the old life comes, and is taken for one of the new.
abbrev pub forgetful : World → World
forgetful wd = record {
  journal = wd.journal;
  limit = wd.limit;
  spacing = wd.spacing;
  current = wd.current;
  sides = wd.sides;
  greatest = 0;
}

abbrev pub used_steps : List Step
used_steps = start (chosen 1 0) ∷ main 1 ∷ send 0 room ∷ written 0 (term 1) ∷ []

pub record PremiseNeeded : Type 0 where
  pub had : (side_at 0 (opened_with afternoon 2)).view.term ≡ term 1
  pub answers : replies (forgetful (opened_with afternoon 2)) used_steps ≡ done ∷ done ∷ done ∷ done ∷ []
  pub freed : (side_at 0 (run (forgetful (opened_with afternoon 2)) used_steps)).view.busy ≡ false

pub premise-needed : PremiseNeeded
unfolding computed
premise-needed = record { had = refl; answers = refl; freed = refl }

-- A window acks in the middle of a batch: its first entry is acknowledged, and the batch is not. The line drops with the second entry on
-- it; the window joins from what it has taken, fetches the second entry anew and takes it, and all is acknowledged.
abbrev pub early_steps : List Step
early_steps = main 1 ∷ main 2 ∷ send 0 room ∷ take 0 true ∷ ack 0 ∷ []

abbrev pub resumed_steps : List Step
resumed_steps = drop 0 ∷ join 0 ∷ take 0 false ∷ catch 0 (term 2) 2 ∷ send 0 room ∷ take 0 false ∷ ack 0 ∷ main 3 ∷ ack 0 ∷ []

pub record AckInBatch : Type 0 where
  pub answers : replies (opened_with afternoon 2) early_steps ≡ done ∷ done ∷ done ∷ done ∷ done ∷ []
  pub early : (side_at 0 (run (opened_with afternoon 2) early_steps)).view.acked ≡ 1
  pub out : (side_at 0 (run (opened_with afternoon 2) early_steps)).view.batches ≡ 2 ∷ []
  pub resumed : replies (run (opened_with afternoon 2) early_steps) resumed_steps ≡
      done ∷ done ∷ empty ∷ done ∷ done ∷ done ∷ done ∷ done ∷ empty ∷ []
  pub window0 : shown_at 0 (run (run (opened_with afternoon 2) early_steps) resumed_steps) ≡ record { last = 2; count = 2 }
  pub acknowledged : (side_at 0 (run (run (opened_with afternoon 2) early_steps) resumed_steps)).view.acked ≡ 2
  pub none : (side_at 0 (run (run (opened_with afternoon 2) early_steps) resumed_steps)).view.batches ≡ []

pub ack-in-batch : AckInBatch
unfolding computed
ack-in-batch = record { answers = refl; early = refl; out = refl; resumed = refl; window0 = refl; acknowledged = refl; none = refl }

-- Window 1 is silent at the first Start, and nothing is sent to it. Window 0 takes all of its own entries; then window 1 joins, fetches the
-- journal from its beginning, and takes all of its own.
abbrev pub window1_silent : World
window1_silent = opened_without 2 afternoon 2

abbrev pub steps_before : List Step
steps_before = main 1 ∷ main 2 ∷ main 3 ∷ send 1 room ∷ take 1 false ∷ send 0 room ∷ take 0 false ∷ take 0 false ∷ ack 0 ∷ []

abbrev pub late_steps : List Step
late_steps =
    join 1 ∷ catch 1 (term 2) 1 ∷ catch 1 (term 2) 2 ∷ catch 1 (term 2) 3 ∷ send 1 room ∷ take 1 false ∷ take 1 false ∷ ack 1 ∷ []

pub record SilentAtStart : Type 0 where
  pub held : (side_at 1 window1_silent).view ≡ started_silent (term 1) 3
  pub read : window1_silent.current ≡ 0
  pub answers : replies window1_silent steps_before ≡ done ∷ done ∷ done ∷ answered 3 ∷ empty ∷ done ∷ done ∷ done ∷ done ∷ []
  pub others : (side_at 0 (run window1_silent steps_before)).taken ≡ own afternoon 0
  pub apart : joined_after 1 (speaks 2 1) window1_silent steps_before ≡ false
  pub late : replies (run window1_silent steps_before) late_steps ≡ done ∷ done ∷ done ∷ done ∷ done ∷ done ∷ done ∷ done ∷ []
  pub joins : joined_after 1 false (run window1_silent steps_before) late_steps ≡ true
  pub window1 : (side_at 1 (run (run window1_silent steps_before) late_steps)).taken ≡ own afternoon 1

pub silent-at-start : SilentAtStart
unfolding computed counted
silent-at-start = record {
  held = refl;
  read = refl;
  answers = refl;
  others = refl;
  apart = refl;
  late = refl;
  joins = refl;
  window1 = refl;
}

-- all windows are silent: `current` is L, and there is nothing to read; a window that joins fetches all
pub record AllSilent : Type 0 where
  pub read : (opened_without 3 afternoon 2).current ≡ 3
  pub answers : replies (opened_without 3 afternoon 2) (main 1 ∷ main 4 ∷ late_steps) ≡
      answered 4 ∷ answered 4 ∷ done ∷ done ∷ done ∷ done ∷ done ∷ done ∷ done ∷ done ∷ []
  pub window1 : (side_at 1 (run (opened_without 3 afternoon 2) late_steps)).taken ≡ own afternoon 1

pub all-silent : AllSilent
unfolding computed
all-silent = record { read = refl; answers = refl; window1 = refl }

-- The player starts anew in the middle of a batch, and the window that was taking it is silent: its line is empty, and it is not joined. It
-- joins from what it has taken, is sent the second entry again, and takes it once.
abbrev pub silent_steps : List Step
silent_steps = main 1 ∷ main 2 ∷ send 0 room ∷ take 0 false ∷ start (chosen 2 1) ∷ []

abbrev pub again_steps : List Step
again_steps =
    take 0 false ∷ main 1 ∷ main 2 ∷ main 3 ∷ join 0 ∷ catch 0 (term 3) 2 ∷ catch 0 (term 3) 3 ∷ send 0 room ∷ take 0 false ∷ ack 0 ∷ []

pub record SilentInBatch : Type 0 where
  pub answers : replies (opened_with afternoon 2) silent_steps ≡ done ∷ done ∷ done ∷ done ∷ done ∷ []
  pub held : (side_at 0 (run (opened_with afternoon 2) silent_steps)).view ≡ started_silent (term 2) 3
  pub apart : joined_after 0 true (opened_with afternoon 2) silent_steps ≡ false
  pub other : joined_after 1 true (opened_with afternoon 2) silent_steps ≡ true
  pub again : replies (run (opened_with afternoon 2) silent_steps) again_steps ≡
      empty ∷ done ∷ done ∷ done ∷ done ∷ done ∷ done ∷ done ∷ done ∷ done ∷ []
  pub window0 : (side_at 0 (run (run (opened_with afternoon 2) silent_steps) again_steps)).taken ≡ own afternoon 0

pub silent-in-batch : SilentInBatch
unfolding computed counted
silent-in-batch = record { answers = refl; held = refl; apart = refl; other = refl; again = refl; window0 = refl }

-- Two states that no run reaches. Batches that do not rise: what is above the index stays, in order, wherever it stands. A sent index below
-- the acknowledged one: an index between them is not taken, though a batch ends there.
abbrev pub held_with : ℕ → ℕ → List ℕ → WindowView
held_with acked sent batches = record {
  term = term 1;
  acked = acked;
  sent = sent;
  busy = false;
  batches = batches;
  normal_queue = [];
  catch_queue = [];
  condition = normal;
}

pub record AckOutsideRuns : Type 0 where
  pub by_value : (ack_at (term 1) 1 (held_with 0 3 (3 ∷ 1 ∷ 2 ∷ 3 ∷ 0 ∷ []))).next ≡ held_with 1 3 (3 ∷ 2 ∷ 3 ∷ [])
  pub behind : (ack_at (term 1) 2 (held_with 3 1 (2 ∷ []))).answer ≡ 11

pub ack-outside-runs : AckOutsideRuns
unfolding computed
ack-outside-runs = record { by_value = refl; behind = refl }

-- ------------------------------------------------------------------------
-- The bound of demand 3

-- One entry for two windows, both of which join when it is read: then each fetches it, gets it sent and written, takes and acknowledges it.
abbrev pub five_moves : List Step
five_moves =
    main 1 ∷ drop 0 ∷ drop 1 ∷ join 0 ∷ join 1
    ∷ catch 0 (term 2) 1 ∷ send 0 room ∷ written 0 (term 2) ∷ take 0 false ∷ ack 0
    ∷ catch 1 (term 2) 1 ∷ send 1 room ∷ written 1 (term 2) ∷ take 1 false ∷ ack 1 ∷ []

abbrev pub one_entry : World
one_entry = opened_with (entry4 3 1 1 50400 ∷ []) 2

-- With all windows joined, five moves at each window since the last Join changed something. That is not at most L × (1 + 4 × W): the bound
-- counts no fewer than five moves.
pub record FiveNeeded : Type 0 where
  pub changed : changes 0 one_entry five_moves ≡ 10
  pub joined0 : joined_after 0 true one_entry five_moves ≡ true
  pub joined1 : joined_after 1 true one_entry five_moves ≡ true
  pub four : leb (changes 0 one_entry five_moves) (length (run one_entry five_moves).journal * (1 + 4 * 2)) ≡ false

pub five-needed : FiveNeeded
unfolding computed counted
five-needed = record { changed = refl; joined0 = refl; joined1 = refl; four = refl }
