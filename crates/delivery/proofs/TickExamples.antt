-- Runs with ticks, computed: what they are for, and what a window has then taken.
use Rattle.std.specs.Prelude.{ℕ, ◌≡◌, refl, List, [], ◌∷◌, ◌++◌, true, false, replicate}
use Rattle.journal.specs.declared.Entry.{Entry}
use Rattle.journal.specs.Entry.{entry4, placed_at}
use Rattle.journal.specs.Own.{own, own_of}
use Rattle.lists.specs.Keep.{keep}
use Rattle.record.specs.Record.{empty_race, new_record, take_all}
use Rattle.rules.specs.declared.Settings.{Settings}
use Rattle.rules.specs.View.{WindowView, normal}
use Rattle.rules.specs.Rules.{tick}
use Rattle.delivery.specs.World.{Side, World, side_at, Step, main, send, written, take, ack, drop, join, start, replies, answered, empty, run}
use Rattle.delivery.specs.Statement.{Leading, first_world}
use Rattle.delivery.proofs.Examples.{computed, done, nobody, wide, shown_at, term, room}
use Rattle.delivery.proofs.Invariant.{line_entries}

-- to unfold this is to unfold what the leading part is stated with
leading : Unit {0}
unfolding keep take_all
leading = tt

-- batch limit 2, a spacing and a first term, and no window silent
abbrev pub every : (spacing first : ℕ) → Settings
every spacing first = record { limit = 2; spacing = spacing; first = term first; silent = 0 }

-- a beginning: two windows, first term 1, and a spacing
abbrev pub opened_every : ℕ → List Entry → World
opened_every spacing j = first_world nobody j 2 (every spacing 1)

-- a Normal window with a term, for which nothing is queued; all that was sent, up to an index, is acknowledged
abbrev pub idle_at : (term index : ℕ) → WindowView
idle_at n i = record {
  term = term n;
  acked = i;
  sent = i;
  busy = false;
  batches = [];
  normal_queue = [];
  catch_queue = [];
  condition = normal;
}

-- ------------------------------------------------------------------------
-- A window without entries does not hold the start back

-- six entries, each for window 1 alone
abbrev pub busy : List Entry
busy =
    entry4 2 1 1 50400 ∷ entry4 2 2 1 350 ∷ entry4 2 2 1 400 ∷ entry4 2 3 1 0 ∷ entry4 2 1 2 52200 ∷ entry4 2 2 2 700 ∷ []

-- two entries are read; window 1 takes and acks them; then window 0 is sent whatever is ready, and takes and acks that
abbrev pub windows_served : (first second : ℕ) → List Step
windows_served first second =
    main first ∷ main second ∷ send 1 room ∷ written 1 (term 1) ∷ take 1 false ∷ take 1 false ∷ ack 1
    ∷ send 0 room ∷ written 0 (term 1) ∷ take 0 false ∷ ack 0 ∷ []

-- the tick is on window 0's line
abbrev pub sent_steps : List Step
sent_steps = main 1 ∷ main 2 ∷ send 0 room ∷ []

-- four entries, two and two, and a fifth that window 1 takes
abbrev pub busy_steps : List Step
busy_steps = windows_served 1 2 ++ (windows_served 3 4 ++ (main 5 ∷ send 1 room ∷ written 1 (term 1) ∷ take 1 false ∷ ack 1 ∷ []))

-- after a Start that begins at 4: the fifth entry, which window 1 has taken, the sixth, and what is then ready for each
abbrev pub onward_steps : List Step
onward_steps = main 5 ∷ main 6 ∷ send 1 room ∷ written 1 (term 2) ∷ take 1 false ∷ ack 1 ∷ send 0 room ∷ take 0 false ∷ []

-- the world after busy_steps, with a spacing; and after a Start
abbrev pub served : ℕ → World
served spacing = run (opened_every spacing busy) busy_steps

abbrev pub anew : ℕ → World
anew spacing = run (served spacing) (start (every spacing 2) ∷ [])

-- window 0 then, with spacing 2: it has taken two ticks
abbrev pub quiet_side : Side
quiet_side = record {
  view = idle_at 1 4;
  record' = record { last = record { 0 = 4 }; count = 2; races = new_record.races };
  line = [];
  back = [];
  taken = tick 2 ∷ tick 4 ∷ [];
}

-- With spacing 2 window 0 gets a tick at 2 and, that acknowledged, one at 4. None of this is its own, but its record goes up with them, and
-- the Start begins at 4; after it window 1 misses and repeats nothing. With a spacing that gives no tick the same steps leave window 0 at
-- 0, and the Start begins there.
pub record QuietWindow : Type 0 where
  pub line : line_entries (side_at 0 (run (opened_every 2 busy) sent_steps)).line ≡ tick 2 ∷ []
  pub answers : replies (opened_every 2 busy) busy_steps ≡
      done ∷ done ∷ done ∷ done ∷ done ∷ done ∷ done ∷ done ∷ done ∷ done ∷ done
      ∷ done ∷ done ∷ done ∷ done ∷ done ∷ done ∷ done ∷ done ∷ done ∷ done ∷ done ∷ done ∷ done ∷ done ∷ done ∷ done ∷ []
  pub side0 : side_at 0 (served 2) ≡ quiet_side
  pub own0 : own_of 0 quiet_side.taken ≡ []
  pub leads : Leading busy 0 quiet_side
  pub begins : (anew 2).current ≡ 4
  pub onward : replies (anew 2) onward_steps ≡ done ∷ done ∷ done ∷ done ∷ done ∷ done ∷ done ∷ done ∷ []
  pub window1 : (side_at 1 (run (anew 2) onward_steps)).taken ≡ own busy 1
  pub next : (side_at 0 (run (anew 2) onward_steps)).taken ≡ tick 2 ∷ tick 4 ∷ tick 6 ∷ []
  pub answers_wide : replies (opened_every wide busy) (windows_served 1 2) ≡
      done ∷ done ∷ done ∷ done ∷ done ∷ done ∷ done ∷ answered 7 ∷ answered 8 ∷ empty ∷ empty ∷ []
  pub window_wide : shown_at 0 (served wide) ≡ record { last = 0; count = 0 }
  pub begins_wide : (anew wide).current ≡ 0

pub quiet-window : QuietWindow
unfolding computed leading
quiet-window = record {
  line = refl;
  answers = refl;
  side0 = refl;
  own0 = refl;
  leads = record { k = 0; list = refl; others = refl; folded = refl; races = refl; count = refl; last = refl };
  begins = refl;
  onward = refl;
  window1 = refl;
  next = refl;
  answers_wide = refl;
  window_wide = refl;
  begins_wide = refl;
}

-- ------------------------------------------------------------------------
-- A tick and an entry

-- three entries, of which the third is for window 0 too
abbrev pub third : List Entry
third = entry4 2 1 1 50400 ∷ entry4 2 2 1 350 ∷ entry4 3 3 1 0 ∷ []

-- Window 0 has taken a tick when its line drops, and joins with the tick's index. Then its own entry comes.
abbrev pub tick_steps : List Step
tick_steps =
    main 1 ∷ main 2 ∷ send 0 room ∷ take 0 false ∷ drop 0 ∷ join 0
    ∷ main 3 ∷ send 0 room ∷ written 0 (term 2) ∷ take 0 false ∷ ack 0 ∷ []

-- window 0 then: it has taken a tick and its own entry, which closes race 1
abbrev pub closed_side : Side
closed_side = record {
  view = idle_at 2 3;
  record' = record { last = record { 0 = 3 }; count = 2; races = record { off = 0; price = 0; closed = true } ∷ replicate 11 empty_race };
  line = [];
  back = [];
  taken = tick 2 ∷ placed_at third 3 ∷ [];
}

pub record TickAndEntry : Type 0 where
  pub answers : replies (opened_every 2 third) tick_steps ≡
      done ∷ done ∷ done ∷ done ∷ done ∷ done ∷ done ∷ done ∷ done ∷ done ∷ done ∷ []
  pub side0 : side_at 0 (run (opened_every 2 third) tick_steps) ≡ closed_side
  pub own0 : own_of 0 closed_side.taken ≡ own third 0
  pub leads : Leading third 0 closed_side

pub tick-and-entry : TickAndEntry
unfolding computed leading
tick-and-entry = record {
  answers = refl;
  side0 = refl;
  own0 = refl;
  leads = record { k = 1; list = refl; others = refl; folded = refl; races = refl; count = refl; last = refl };
}
