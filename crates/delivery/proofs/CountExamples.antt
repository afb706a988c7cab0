-- The counts of W4, computed on four runs, one for each place where they begin: a Start, an append, a Join, and the first Start; on a run
-- with ticks; and a run after which all windows are joined and none can.
use Rattle.std.specs.Prelude.{ℕ, ◌≡◌, refl, List, [], ◌∷◌, ◌++◌, Bool, true, false, ◌&&◌}
use Rattle.lists.specs.Answer.{Answer, answer}
use Rattle.journal.specs.declared.Entry.{Entry}
use Rattle.journal.specs.Entry.{entry4}
use Rattle.journal.specs.Due.{due}
use Rattle.planner.specs.Plan.{figures, plan_rule}
use Rattle.delivery.specs.World.{World, numbers_in, Step, main, catch, written, send, take, ack, drop, join, start, append, run}
use Rattle.delivery.specs.Statement.{joined_after, joined_after_by, NoneCan, first_start}
use Rattle.delivery.specs.Counts.{takes_own, reads, done_since, left_by, last_at}
use Rattle.delivery.proofs.Examples.{computed, nobody, chosen, opened_with, term, room, afternoon, one_entry, five_moves}
use Rattle.delivery.proofs.TickExamples.{opened_every, busy, busy_steps}
use Rattle.delivery.proofs.Invariant.{Reached}
use Rattle.delivery.proofs.Reach.{reached-run}
use Rattle.delivery.proofs.Bound.{total, work_left, none_left}
use Rattle.delivery.proofs.Demand3.{opened-reached}

-- to unfold this is to unfold the definitions that the counts are stated with
counting : Unit {0}
unfolding done_since left_by joined_after_by plan_rule figures due
counting = tt

-- What two windows come to after a list of steps: the Takes of each answered 0 since the last fault or append, what the planner answers of
-- the last index that this left, the Mains answered 0, `current` as it was left, and whether both are joined.
pub record Tally : Type 0 where
  pub takes0 : ℕ
  pub plan0 : Answer
  pub takes1 : ℕ
  pub plan1 : Answer
  pub mains : ℕ
  pub current : ℕ
  pub joined : Bool

abbrev pub plan_after : ℕ → World → List Step → Answer
plan_after w wd steps = let now : World = run wd steps in plan_rule (numbers_in now) w (last_at w (left_by wd wd steps)) now.limit

abbrev pub tally : World → List Step → Tally
tally wd steps = record {
  takes0 = done_since (takes_own 0) 0 wd steps;
  plan0 = plan_after 0 wd steps;
  takes1 = done_since (takes_own 1) 0 wd steps;
  plan1 = plan_after 1 wd steps;
  mains = done_since reads 0 wd steps;
  current = (left_by wd wd steps).current;
  joined = joined_after 0 true wd steps && joined_after 1 true wd steps;
}

-- four entries: window 0 has those at 1 and 2, window 1 those at 1, 3 and 4
abbrev pub evening : List Entry
evening = entry4 3 1 1 50400 ∷ entry4 1 2 1 350 ∷ entry4 2 3 1 0 ∷ entry4 2 2 1 400 ∷ []

-- The player starts anew in the middle of window 0's batch, when both windows have taken entry 1. A Take from an empty line and a Main that
-- is refused are not counted, nor is what was taken and read before the Start.
abbrev pub started_steps : List Step
started_steps =
    main 1 ∷ main 2 ∷ send 0 room ∷ take 0 false ∷ send 1 room ∷ take 1 false ∷ start (chosen 2 0)
    ∷ main 2 ∷ main 3 ∷ main 4 ∷ main 5 ∷ send 0 room ∷ written 0 (term 2) ∷ take 0 false ∷ take 0 false ∷ ack 0
    ∷ send 1 room ∷ written 1 (term 2) ∷ take 1 false ∷ take 1 false ∷ ack 1 ∷ []

pub since-start : tally (opened_with evening 2) started_steps ≡ record {
  takes0 = 1;
  plan0 = answer 0 (1 ∷ 1 ∷ 5 ∷ []);
  takes1 = 2;
  plan1 = answer 0 (2 ∷ 1 ∷ 10 ∷ []);
  mains = 3;
  current = 1;
  joined = true;
}
unfolding computed counting
since-start = refl

-- Both windows have taken all; then an entry for window 1 is appended.
abbrev pub appended_steps : List Step
appended_steps =
    main 1 ∷ main 2 ∷ main 3 ∷ send 0 room ∷ written 0 (term 1) ∷ take 0 false ∷ take 0 false ∷ ack 0
    ∷ send 1 room ∷ written 1 (term 1) ∷ take 1 false ∷ take 1 false ∷ ack 1 ∷ append (entry4 2 2 1 400)
    ∷ main 4 ∷ send 1 room ∷ written 1 (term 1) ∷ take 1 false ∷ ack 1 ∷ []

pub since-append : tally (opened_with afternoon 2) appended_steps ≡ record {
  takes0 = 0;
  plan0 = answer 0 (0 ∷ 0 ∷ 0 ∷ []);
  takes1 = 1;
  plan1 = answer 0 (1 ∷ 1 ∷ 5 ∷ []);
  mains = 1;
  current = 3;
  joined = true;
}
unfolding computed counting
since-append = refl

-- Window 0's line drops in the middle of its batch, all is read, and it joins.
abbrev pub joined_steps : List Step
joined_steps =
    main 1 ∷ main 2 ∷ send 0 room ∷ take 0 false ∷ drop 0 ∷ main 3 ∷ join 0
    ∷ catch 0 (term 2) 2 ∷ catch 0 (term 2) 3 ∷ send 0 room ∷ written 0 (term 2) ∷ take 0 false ∷ ack 0
    ∷ send 1 room ∷ written 1 (term 1) ∷ take 1 false ∷ take 1 false ∷ ack 1 ∷ []

pub since-join : tally (opened_with afternoon 2) joined_steps ≡ record {
  takes0 = 1;
  plan0 = answer 0 (1 ∷ 1 ∷ 5 ∷ []);
  takes1 = 2;
  plan1 = answer 0 (2 ∷ 1 ∷ 10 ∷ []);
  mains = 0;
  current = 3;
  joined = true;
}
unfolding computed counting
since-join = refl

-- Neither fault nor append.
abbrev pub quiet_steps : List Step
quiet_steps =
    main 1 ∷ main 2 ∷ main 3 ∷ main 4 ∷ send 0 room ∷ written 0 (term 1) ∷ take 0 false ∷ take 0 false ∷ ack 0
    ∷ send 1 room ∷ written 1 (term 1) ∷ take 1 false ∷ take 1 false ∷ ack 1
    ∷ send 1 room ∷ written 1 (term 1) ∷ take 1 false ∷ ack 1 ∷ []

pub since-first : tally (opened_with evening 2) quiet_steps ≡ record {
  takes0 = 2;
  plan0 = answer 0 (2 ∷ 1 ∷ 10 ∷ []);
  takes1 = 3;
  plan1 = answer 0 (3 ∷ 2 ∷ 10 ∷ []);
  mains = 4;
  current = 0;
  joined = true;
}
unfolding computed counting
since-first = refl

-- Spacing 2 and no entry for window 0: it takes three ticks, which are not counted.
abbrev pub ticked_steps : List Step
ticked_steps =
    busy_steps
    ++ (main 6 ∷ send 1 room ∷ written 1 (term 1) ∷ take 1 false ∷ ack 1 ∷ send 0 room ∷ written 0 (term 1) ∷ take 0 false ∷ ack 0 ∷ [])

pub ticks-left-out : tally (opened_every 2 busy) ticked_steps ≡ record {
  takes0 = 0;
  plan0 = answer 0 (0 ∷ 0 ∷ 0 ∷ []);
  takes1 = 6;
  plan1 = answer 0 (6 ∷ 3 ∷ 10 ∷ []);
  mains = 6;
  current = 0;
  joined = true;
}
unfolding computed counting
ticks-left-out = refl

-- The premise of the counts, and of demand 3's finish, is met by a run: both windows are joined, and none can.
pub record PremiseMet : Type 0 where
  pub joined0 : joined_after 0 true one_entry five_moves ≡ true
  pub joined1 : joined_after 1 true one_entry five_moves ≡ true
  pub none : NoneCan (run one_entry five_moves)

none-to-do : work_left (run one_entry five_moves) ≡ 0
unfolding computed work_left total
none-to-do = refl

one-started : (first_start nobody (entry4 3 1 1 50400 ∷ []) 2 (chosen 1 0)).answer ≡ 0
unfolding computed
one-started = refl

pub premise-met : PremiseMet
unfolding computed counting
premise-met =
    let reached : Reached one_entry = opened-reached nobody (entry4 3 1 1 50400 ∷ []) 2 (chosen 1 0) one-started in
    record {
      joined0 = refl;
      joined1 = refl;
      none = none_left (run one_entry five_moves) (reached-run one_entry five_moves reached) none-to-do;
    }
