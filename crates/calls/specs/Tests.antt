-- How a host finds out whether none can: which calls it makes, one after another, and what they tell where none of them changed anything.
-- The file imports definitions alone.
use Rattle.std.specs.Prelude.{ℕ, ◌+◌, ◌*◌, ◌≡◌, List, [], ◌∷◌, map, Bool, true, not, ◌&&◌, length}
use Rattle.rules.specs.declared.Settings.{Settings}
use Rattle.window.specs.Promise.{number_of}
use Rattle.player.specs.declared.Player.{Player}
use Rattle.player.specs.declared.Played.{Played}
use Rattle.player.specs.View.{player_of}
use Rattle.delivery.specs.World.{Step}
use Rattle.delivery.specs.Tests.{tests_of, Enough}
use Rattle.calls.specs.Host.{Host, Call, call_step, done_in, after, MadeAll, host_after, opened}
use Rattle.calls.specs.Statement.{changes, NoneCan, FirstStart}
use Rattle.calls.specs.Counts.{limit_in}

-- the tests of the player that a host holds
abbrev pub tests_for : (out : List ℕ) → Host → List Step
tests_for out h = tests_of out (player_of h.player)

-- calls that make them, from a host: its Sends are lent an output long enough for any batch, and what each call gave meets its promise
pub record Tries (out : List ℕ) (now : Host) (cs : List Call) : Type 0 where
  pub room : Enough out (limit_in now)
  pub steps : map call_step cs ≡ tests_for out now
  pub made : MadeAll now cs

-- none of these calls is answered 0
unfoldable pub none_done : Host → List Call → Bool
none_done h [] = true
none_done h (c ∷ cs) = not (done_in h c) && none_done (after c h) cs

-- what they tell, for W windows
pub record Told (count : ℕ) (now : Host) (cs : List Call) : Type 0 where
  -- there are 1 + 5 × W of them
  pub number : length cs ≡ 1 + 5 * count
  -- if none of them changed anything, none can
  pub tells : changes 0 now cs ≡ 0 → NoneCan now
  -- and if none can, none of them does
  pub only : NoneCan now → changes 0 now cs ≡ 0
  -- the answers show it: none of them was answered 0 exactly if none of them changed anything
  pub answers : none_done now cs ≡ true → changes 0 now cs ≡ 0
  pub unanswered : changes 0 now cs ≡ 0 → none_done now cs ≡ true

-- of whatever demand 3 of the calls speaks of
abbrev pub TestTellsCalls : Type 0
TestTellsCalls =
    (before : Player) (ns : List ℕ) (count : ℕ) (settings : Settings) (r : Played) →
    FirstStart before ns count settings r → number_of r.answer ≡ 0 →
    (calls : List Call) → MadeAll (opened r.player settings.first ns count) calls →
    let now : Host = host_after (opened r.player settings.first ns count) calls in
    (out : List ℕ) (cs : List Call) → Tries out now cs → Told count now cs
