-- The duds that document 01 says demand 3 shuts out: each is a player, with a run on it after which a part of demand 3 is false.
-- The file imports definitions alone.
use Rattle.std.specs.Prelude.{ℕ, ◌≡◌, List, [], ◌∷◌, map, Bool, true, false, not, cond, ◌&&◌, replicate, eqb}
use Rattle.journal.specs.declared.Entry.{Entry}
use Rattle.journal.specs.Entry.{Placed, entry4}
use Rattle.journal.specs.Own.{own, own_of}
use Rattle.rules.specs.declared.Settings.{Settings}
use Rattle.rules.specs.declared.Term.{Term}
use Rattle.rules.specs.View.{PlayerView}
use Rattle.rules.specs.Rules.{Outcome, window_at, main_rule, catch_rule, written_rule, ack_rule, drop_rule, join_rule, send_rule, batch_at, start_rule}
use Rattle.delivery.specs.Machine.{Machine}
use Rattle.delivery.specs.World.{World, side_at, Step, main, send, written, take, ack, answered, run_by, replies_by}
use Rattle.delivery.specs.Statement.{Leading, AllJoinedBy, NoneCanBy, first_start_by, first_world_by}

-- two entries, both for window 0, the only one
abbrev pub two_entries : List Entry
two_entries = entry4 1 1 1 50400 ∷ entry4 1 2 1 350 ∷ []

-- the first of them at its place
abbrev pub first : Placed
first = record { index = 1; entry = entry4 1 1 1 50400 }

abbrev pub nobody : PlayerView
nobody = record { limit = 0; spacing = 0; current = 0; windows = [] }

abbrev pub term : ℕ → Term
term n = record { 0 = n }

-- batch limit 2, a spacing at which these runs have no tick, first term 1, and no window silent
abbrev pub settings : Settings
settings = record { limit = 2; spacing = 65535; first = term 1; silent = 0 }

abbrev pub room : List ℕ
room = replicate 10 0

-- of a player: its first Start, of one window that is not silent, the world after that, and the world after a list of steps from there
abbrev pub start_of : Machine → Outcome
start_of m = first_start_by m nobody two_entries 1 settings

abbrev pub opened_by : Machine → World
opened_by m = first_world_by m nobody two_entries 1 settings

abbrev pub after_by : Machine → List Step → World
after_by m steps = run_by m (opened_by m) steps

-- a run of which demand 3 speaks: the first Start is answered 0, and so is each step; and all that the window has taken
pub record Played (m : Machine) (steps : List Step) (all : List Placed) : Type 0 where
  pub started : (start_of m).answer ≡ 0
  pub answers : replies_by m (opened_by m) steps ≡ map (λ s. answered 0) steps
  pub taken : (side_at 0 (after_by m steps)).taken ≡ all

-- what the window has taken is no leading part of its own entries
abbrev pub NotLeading : Machine → List Step → Type 0
NotLeading m steps = Leading (after_by m steps).journal 0 (side_at 0 (after_by m steps)) → ⊥

-- all windows are joined and none can, and the window has not taken all of its own entries
pub record Unfinished (m : Machine) (steps : List Step) : Type 0 where
  pub joined : AllJoinedBy m 1 0 (opened_by m) steps
  pub none : NoneCanBy m (after_by m steps)
  pub missing : own_of 0 (side_at 0 (after_by m steps)).taken ≡ own (after_by m steps).journal 0 → ⊥

-- ------------------------------------------------------------------------
-- A constant batch

-- the large player, but for its batch: that is the first entry, always
abbrev pub constant_batch : Machine
constant_batch = record {
  start = start_rule;
  main = main_rule;
  catch = catch_rule;
  send = send_rule;
  batch = λ ns w p. 1 ∷ [];
  written = written_rule;
  ack = ack_rule;
  drop = drop_rule;
  join = join_rule;
}

-- the first entry goes to its window and is acknowledged, the second is read, and a second batch is sent and taken
abbrev pub two_batches : List Step
two_batches = main 1 ∷ send 0 room ∷ written 0 (term 1) ∷ take 0 false ∷ ack 0 ∷ main 2 ∷ send 0 room ∷ take 0 false ∷ []

-- both entries are read, and what is sent is written and taken
abbrev pub both_read : List Step
both_read =
    main 1 ∷ send 0 room ∷ written 0 (term 1) ∷ take 0 false ∷ ack 0 ∷ main 2 ∷ send 0 room ∷ written 0 (term 1) ∷ take 0 false ∷ []

-- ------------------------------------------------------------------------
-- Players that stop

-- answers 0 and leaves what is held as it is
abbrev pub still : PlayerView → Outcome
still p = record { answer = 0; next = p }

-- the large player until what it holds passes a test; from then on it only says 0, to all but a Start, and its batch is empty
abbrev pub stopping : (PlayerView → Bool) → Machine
stopping stops = record {
  start = start_rule;
  main = λ ns i p. cond (stops p) (still p) (main_rule ns i p);
  catch = λ ns w t i p. cond (stops p) (still p) (catch_rule ns w t i p);
  send = λ ns w size p. cond (stops p) (still p) (send_rule ns w size p);
  batch = λ ns w p. cond (stops p) [] (batch_at w p);
  written = λ ns w t p. cond (stops p) (still p) (written_rule ns w t p);
  ack = λ ns w t i p. cond (stops p) (still p) (ack_rule ns w t i p);
  drop = λ ns w p. cond (stops p) (still p) (drop_rule ns w p);
  join = λ ns w r p. cond (stops p) (still p) (join_rule ns w r p);
}

-- ------------------------------------------------------------------------
-- A player that stands still

-- it has stopped from the first
abbrev pub always : PlayerView → Bool
always p = true

abbrev pub stands_still : Machine
stands_still = stopping always

-- ------------------------------------------------------------------------
-- A player that plays the first entry, and afterwards only says 0

-- the first entry is through: read and acknowledged, with the line free
abbrev pub is_through : PlayerView → Bool
is_through p = eqb p.current 1 && (eqb (window_at 0 p).acked 1 && not (window_at 0 p).busy)

abbrev pub first_only : Machine
first_only = stopping is_through

-- the first entry goes to its window and is acknowledged; the second is not read, though Main is answered 0
abbrev pub one_batch : List Step
one_batch = main 1 ∷ send 0 room ∷ written 0 (term 1) ∷ take 0 false ∷ ack 0 ∷ main 2 ∷ []
