-- Document 01, "Quantities": what the player holds, as the rules see it: lists, numbers and a condition. No cell past a length and no
-- window from W up is in a view, so that none can matter to a rule.
use Rattle.std.specs.Prelude.{ℕ, List, [], Bool, false}
use Rattle.rules.specs.declared.Term.{Term}

-- Normal; Fetching, with the next and the end index; Completed, with the end; Suspended
pub data Condition : Type 0 where
  normal : Condition
  fetching : ℕ → ℕ → Condition
  completed : ℕ → Condition
  suspended : Condition

-- a window as the player holds it. Indices are numbers here, and a term keeps its own type: nothing can add or compare the two
pub record WindowView : Type 0 where
  pub term : Term
  pub acked : ℕ
  pub sent : ℕ
  pub busy : Bool
  pub batches : List ℕ
  pub normal_queue : List ℕ
  pub catch_queue : List ℕ
  pub condition : Condition

-- what stands where there is no window
abbrev pub no_window : WindowView
no_window = record {
  term = record { 0 = 0 };
  acked = 0;
  sent = 0;
  busy = false;
  batches = [];
  normal_queue = [];
  catch_queue = [];
  condition = suspended;
}

-- the player: the batch limit, the spacing E of document 02's W5, `current`, and the windows, W of them
pub record PlayerView : Type 0 where
  pub limit : ℕ
  pub spacing : ℕ
  pub current : ℕ
  pub windows : List WindowView
