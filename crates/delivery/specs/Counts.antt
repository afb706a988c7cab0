-- Document 02, W4, its Takes read without ticks (W5): how many Takes and Mains are answered 0 since the last fault or append, stated
-- exactly. The file imports definitions alone. The paper's words stand beside each part.
use Rattle.std.specs.Prelude.{ℕ, suc, ◌-◌, ◌<◌, ◌≡◌, List, [], ◌∷◌, Bool, false, cond, ◌&&◌, length}
use Rattle.journal.specs.declared.Entry.{Entry}
use Rattle.journal.specs.Own.{is_own}
use Rattle.rules.specs.declared.Settings.{Settings}
use Rattle.rules.specs.View.{PlayerView}
use Rattle.planner.specs.declared.Needs.{Needs}
use Rattle.planner.specs.Plan.{figures, planned, plan_rule}
use Rattle.delivery.specs.World.{Sent, World, side_at, numbers_in, Step, Stepped, step, run}
use Rattle.delivery.specs.Sorts.{is_done, sort_of, begins, is_main, is_take_at}
use Rattle.delivery.specs.Statement.{AllJoined, NoneCan, first_start, first_world}

-- one of window w's own at the front of its line, and no tick
abbrev pub own_front : ℕ → List Sent → Bool
own_front w [] = false
own_front w (s ∷ rest) = is_own w s.placed

-- a Take of window w, of one of its own; a step is of a kind in the world in which it is made
abbrev pub takes_own : ℕ → World → Step → Bool
takes_own w wd s = is_take_at w (sort_of s) && own_front w (side_at w wd).line

-- a Main, in any world
abbrev pub reads : World → Step → Bool
reads wd s = is_main (sort_of s)

-- The number of steps of a kind answered 0 since the last fault or append; n of them are counted before the list.
unfoldable pub done_since : (World → Step → Bool) → ℕ → World → List Step → ℕ
done_since kind n wd [] = n
done_since kind n wd (s ∷ ss) =
    let r : Stepped = step s wd in
    done_since kind (cond (begins (sort_of s) (is_done r.reply)) 0 (cond (kind wd s && is_done r.reply) (suc n) n)) r.world ss

-- The world as the last fault or append left it; where the list has none, the one given, which is that after the first Start.
unfoldable pub left_by : World → World → List Step → World
left_by given wd [] = given
left_by given wd (s ∷ ss) =
    let r : Stepped = step s wd in
    left_by (cond (begins (sort_of s) (is_done r.reply)) r.world given) r.world ss

-- the last index in window w's record
abbrev pub last_at : ℕ → World → ℕ
last_at w wd = (side_at w wd).record'.last.0

-- the planner's figures of window w: from the last index that its record had in the world `left`, with the journal and the batch limit as
-- they now are
abbrev pub figures_for : ℕ → (left now : World) → Needs
figures_for w left now = figures now.journal w (last_at w left) now.limit

-- the results, for W windows, the set of those silent at the first Start, the world after it, and a list of steps from there
pub record Counts (count silent : ℕ) (wd : World) (steps : List Step) : Type 0 where
  -- the planner, asked of any window, answers 0 with these figures
  pub asked : (w : ℕ) → w < count →
      let left : World = left_by wd wd steps in
      let now : World = run wd steps in
      plan_rule (numbers_in now) w (last_at w left) now.limit ≡ planned (figures_for w left now)
  -- with all windows joined, when none can, the Takes of each window answered 0 since the last fault or append, ticks left out, are its
  -- first figure
  pub takes : AllJoined count silent wd steps → NoneCan (run wd steps) →
      (w : ℕ) → w < count → done_since (takes_own w) 0 wd steps ≡ (figures_for w (left_by wd wd steps) (run wd steps)).entries
  -- with all windows joined, when none can, the Mains answered 0 since then are L minus `current` as it was left
  pub mains : AllJoined count silent wd steps → NoneCan (run wd steps) →
      done_since reads 0 wd steps ≡ length (run wd steps).journal - (left_by wd wd steps).current

-- W4's counts, of whatever demand 3 speaks of
abbrev pub ExactCounts : Type 0
ExactCounts =
    (before : PlayerView) (j : List Entry) (count : ℕ) (settings : Settings) (steps : List Step) →
    (first_start before j count settings).answer ≡ 0 → Counts count settings.silent (first_world before j count settings) steps
