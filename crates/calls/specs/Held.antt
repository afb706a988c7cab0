-- A player for each view, and what Take gives for all numbers: so what a promise asks of a call can be given.
use Rattle.std.specs.Prelude.{ℕ, ◌-◌, ◌≡◌, refl, List, [], ◌∷◌, ◌++◌, map, true, false, length, drop, replicate, eqb, Result, Ok, Err}
use Rattle.std.proofs.Common.{sym, ap, ap₂, ◌∙◌, ⊎_elim, drop_at}
use Rattle.std.proofs.lemmas.List.{length-map}
use Rattle.lists.specs.Cases.{eq-or-ne, true-or-false}
use Rattle.lists.specs.Cells.{front}
use Rattle.queue.specs.Items.{Queue, Batches, items_in, items_of, batches_of}
use Rattle.record.specs.declared.Record.{Record}
use Rattle.record.specs.declared.Refusal.{Refusal}
use Rattle.record.specs.declared.Refusal.TheVariants.{OutOfShape, Full}
use Rattle.record.specs.Record.{outcome_of, take_entry, take_numbers}
use Rattle.rules.specs.View.{Condition, normal, fetching, completed, suspended, WindowView, PlayerView}
use Rattle.rules.specs.Rules.{Outcome}
use Rattle.window.specs.declared.Condition.{Condition as HeldCondition}
use Rattle.window.specs.declared.Condition.TheVariants.{Normal, Fetching, Completed, Suspended}
use Rattle.window.specs.declared.Window.{Window}
use Rattle.window.specs.View.{condition_of, view_of}
use Rattle.player.specs.declared.Player.{Player}
use Rattle.player.specs.declared.Played.{Played}
use Rattle.player.specs.View.{first_windows, player_of}
use Rattle.player.specs.Promise.{Meets}
use Rattle.player.specs.FirstWindows.{first_windows-length}
use Rattle.calls.specs.Answers.{Numbered}

-- ------------------------------------------------------------------------
-- Queues: a list and zeros after it

-- so many cells that begin with a list; a list of more has no cell after it
filled : ℕ → List ℕ → List ℕ
filled size l = l ++ replicate (size - length l) 0

queue_from : List ℕ → Queue
queue_from l = record { cells = filled 128 l; len = length l }

batches_from : List ℕ → Batches
batches_from l = record { cells = filled 8 l; len = length l }

front_of : (l more : List ℕ) → front 0 (length l) (l ++ more) ≡ l
unfolding front
front_of [] more = refl
front_of (x ∷ l) more = ap (λ t. x ∷ t) (front_of l more)

items_of-from : (l : List ℕ) → items_of (queue_from l) ≡ l
unfolding items_in queue_from filled
items_of-from l = front_of l _

batches_of-from : (l : List ℕ) → batches_of (batches_from l) ≡ l
unfolding items_in batches_from filled
batches_of-from l = front_of l _

-- ------------------------------------------------------------------------
-- A window

condition_from : Condition → HeldCondition
condition_from normal = Normal
condition_from (fetching n e) = Fetching (record { 0 = n }) (record { 0 = e })
condition_from (completed e) = Completed (record { 0 = e })
condition_from suspended = Suspended

condition_of-from : (s : Condition) → condition_of (condition_from s) ≡ s
unfolding condition_from
condition_of-from normal = refl
condition_of-from (fetching n e) = refl
condition_of-from (completed e) = refl
condition_of-from suspended = refl

window_from : WindowView → Window
window_from v = record {
  head = record {
    term = v.term;
    acked = record { 0 = v.acked };
    sent = record { 0 = v.sent };
    busy = v.busy;
    batches = batches_from v.batches;
    condition = condition_from v.condition;
  };
  normal = queue_from v.normal_queue;
  catch_up = queue_from v.catch_queue;
}

view_of-from : (v : WindowView) → view_of (window_from v) ≡ v
unfolding view_of window_from
view_of-from v =
    ap₂ (λ b n. record {
      term = v.term;
      acked = v.acked;
      sent = v.sent;
      busy = v.busy;
      batches = b;
      normal_queue = n;
      catch_queue = items_of (queue_from v.catch_queue);
      condition = condition_of (condition_from v.condition);
    }) (batches_of-from v.batches) (items_of-from v.normal_queue)
    ∙ ap₂ (λ q s. record {
      term = v.term;
      acked = v.acked;
      sent = v.sent;
      busy = v.busy;
      batches = v.batches;
      normal_queue = v.normal_queue;
      catch_queue = q;
      condition = s;
    }) (items_of-from v.catch_queue) (condition_of-from v.condition)

-- ------------------------------------------------------------------------
-- A player, with the windows from W up of another

player_from : Player → PlayerView → Player
player_from before q = record {
  count = length q.windows;
  limit = q.limit;
  spacing = q.spacing;
  current = record { 0 = q.current };
  windows = map window_from q.windows ++ drop before.count before.windows;
}

first_windows-from : (vs : List WindowView) (more : List Window) → first_windows (length vs) (map window_from vs ++ more) ≡ vs
unfolding first_windows
first_windows-from [] more = refl
first_windows-from (v ∷ vs) more = ap₂ ◌∷◌ (view_of-from v) (first_windows-from vs more)

player_of-from : (before : Player) (q : PlayerView) → player_of (player_from before q) ≡ q
unfolding player_of player_from
player_of-from before q =
    ap (λ vs. record { limit = q.limit; spacing = q.spacing; current = q.current; windows = vs }) (first_windows-from q.windows _)

-- what a call of the player gives
pub record Given (before : Player) (o : Outcome) : Type 0 where
  pub gave : Played
  pub meets : Meets before gave o

-- answered 0, a player for the rule's next view; refused, the player handed in
pub given : (before : Player) (o : Outcome) → length o.next.windows ≡ length (player_of before).windows →
    ((o.answer ≡ 0 → ⊥) → o.next ≡ player_of before) → Numbered o.answer → Given before o
unfolding player_of player_from
given before o n same a =
    let count : length (map window_from o.next.windows) ≡ before.count =
    length-map o.next.windows window_from ∙ n ∙ first_windows-length before.count before.windows in
    ⊎_elim
    (λ (z : o.answer ≡ 0). record {
      gave = record { player = player_from before o.next; answer = a.answer };
      meets = record {
        answer = a.number;
        next = player_of-from before o.next;
        unchanged = λ r. absurd (r z);
        above = drop_at (map window_from o.next.windows) _ before.count count;
      };
    })
    (λ (r : o.answer ≡ 0 → ⊥). record {
      gave = record { player = before; answer = a.answer };
      meets = record { answer = a.number; next = sym (same r); unchanged = λ x. refl; above = refl };
    })
    (eq-or-ne o.answer 0)

-- ------------------------------------------------------------------------
-- Take

-- what Take gives
pub record TakeGiven (numbers : List ℕ) (own : Record) : Type 0 where
  pub gave : Result Record Refusal
  pub meets : outcome_of own gave ≡ take_numbers numbers own

-- where there are not five numbers
shapeless : {numbers : List ℕ} (own : Record) → take_numbers numbers own ≡ record { number = 1; record' = own } → TakeGiven numbers own
shapeless own e = record { gave = Err OutOfShape; meets = sym e }

pub take_given : (numbers : List ℕ) (own : Record) → TakeGiven numbers own
unfolding take_numbers take_entry
take_given [] own = shapeless own refl
take_given (i ∷ []) own = shapeless own refl
take_given (i ∷ s ∷ []) own = shapeless own refl
take_given (i ∷ s ∷ k ∷ []) own = shapeless own refl
take_given (i ∷ s ∷ k ∷ c ∷ []) own = shapeless own refl
take_given (i ∷ s ∷ k ∷ c ∷ v ∷ []) own =
    let next : Record = (take_numbers (i ∷ s ∷ k ∷ c ∷ v ∷ []) own).record' in
    ⊎_elim
    (λ (full : eqb own.count 4294967295 ≡ true). record { gave = Err Full; meets = rw full })
    (λ (room : eqb own.count 4294967295 ≡ false). record { gave = Ok next; meets = rw room })
    (true-or-false (eqb own.count 4294967295))
take_given (i ∷ s ∷ k ∷ c ∷ v ∷ x ∷ xs) own = shapeless own refl
