-- Document 02, W4, its Takes read without ticks (W5), of the calls: how many Takes and Mains are answered 0 since the last fault or append,
-- stated exactly. The file imports definitions alone. The paper's words stand beside each part.
use Rattle.std.specs.Prelude.{ℕ, suc, ◌-◌, ◌<◌, ◌≡◌, List, [], ◌∷◌, Bool, false, cond, ◌&&◌}
use Rattle.journal.specs.Entry.{count_of, entries_of}
use Rattle.rules.specs.declared.Settings.{Settings}
use Rattle.window.specs.Promise.{number_of}
use Rattle.player.specs.declared.Player.{Player}
use Rattle.player.specs.declared.Played.{Played}
use Rattle.player.specs.View.{player_of}
use Rattle.planner.specs.declared.Needs.{Needs}
use Rattle.planner.specs.Plan.{figures, planned, plan_rule}
use Rattle.delivery.specs.Sorts.{begins, is_main, is_take_at}
use Rattle.calls.specs.Host.{Sent, Host, end_at, Call, call_sort, report_of, done_in, after, MadeAll, host_after, opened}
use Rattle.calls.specs.Statement.{AllJoined, NoneCan, is_own_five, FirstStart}

-- one of window w's own at the front of its line, and no tick
abbrev pub own_front : ℕ → List Sent → Bool
own_front w [] = false
own_front w (s ∷ rest) = is_own_five w s.numbers

-- a Take of window w, of one of its own; a call is of a kind at the host that makes it
abbrev pub takes_own : ℕ → Host → Call → Bool
takes_own w h c = is_take_at w (call_sort c) && own_front w (end_at w h).line

-- a Main, of any host
abbrev pub reads : Host → Call → Bool
reads h c = is_main (call_sort c)

-- The number of calls of a kind answered 0 since the last fault or append; n of them are counted before the list.
unfoldable pub done_since : (Host → Call → Bool) → ℕ → Host → List Call → ℕ
done_since kind n h [] = n
done_since kind n h (c ∷ cs) =
    done_since kind (cond (begins (call_sort c) (done_in h c)) 0 (cond (kind h c && done_in h c) (suc n) n)) (after c h) cs

-- The host as the last fault or append left it; where the list has none, the one given, which is that after the first Start.
unfoldable pub left_by : Host → Host → List Call → Host
left_by given h [] = given
left_by given h (c ∷ cs) = left_by (cond (begins (call_sort c) (done_in h c)) (after c h) given) (after c h) cs

-- the last index in window w's record
abbrev pub last_at : ℕ → Host → ℕ
last_at w h = report_of (end_at w h)

-- the batch limit that the player holds
abbrev pub limit_in : Host → ℕ
limit_in h = (player_of h.player).limit

-- the planner's figures of window w: from the last index that its record had in the host `left`, with the journal and the batch limit as
-- they now are
abbrev pub figures_for : ℕ → (left now : Host) → Needs
figures_for w left now = figures (entries_of now.journal) w (last_at w left) (limit_in now)

-- the results, for W windows, the set of those silent at the first Start, the host after it, and a list of calls from there
pub record Counts (count silent : ℕ) (h : Host) (calls : List Call) : Type 0 where
  -- the planner, asked of any window, answers 0 with these figures
  pub asked : (w : ℕ) → w < count →
      let left : Host = left_by h h calls in
      let now : Host = host_after h calls in
      plan_rule now.journal w (last_at w left) (limit_in now) ≡ planned (figures_for w left now)
  -- with all windows joined, when none can, the Takes of each window answered 0 since the last fault or append, ticks left out, are its
  -- first figure
  pub takes : AllJoined count silent h calls → NoneCan (host_after h calls) →
      (w : ℕ) → w < count → done_since (takes_own w) 0 h calls ≡ (figures_for w (left_by h h calls) (host_after h calls)).entries
  -- with all windows joined, when none can, the Mains answered 0 since then are L minus `current` as it was left
  pub mains : AllJoined count silent h calls → NoneCan (host_after h calls) →
      done_since reads 0 h calls ≡ count_of (host_after h calls).journal - (player_of (left_by h h calls).player).current

-- W4's counts of the calls, of whatever demand 3 of the calls speaks of
abbrev pub ExactCountsCalls : Type 0
ExactCountsCalls =
    (before : Player) (ns : List ℕ) (count : ℕ) (settings : Settings) (r : Played) →
    FirstStart before ns count settings r → number_of r.answer ≡ 0 →
    (calls : List Call) → MadeAll (opened r.player settings.first ns count) calls →
    Counts count settings.silent (opened r.player settings.first ns count) calls
