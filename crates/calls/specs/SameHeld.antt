-- What two hosts share where nothing that a run goes by tells them apart, and what two lists of calls share that make one run. The file
-- imports definitions alone.
use Rattle.std.specs.Prelude.{◌≡◌, List, map}
use Rattle.player.specs.View.{player_of}
use Rattle.calls.specs.Host.{Host, Call, call_step}

-- two hosts that hold the same but for cells of the player that no view has
pub record SameHeld (h h' : Host) : Type 0 where
  pub player : player_of h.player ≡ player_of h'.player
  pub journal : h.journal ≡ h'.journal
  pub windows : h.windows ≡ h'.windows
  pub greatest : h.greatest ≡ h'.greatest

-- two lists of calls of the same steps, whatever results they give
abbrev pub SameSteps : (cs cs' : List Call) → Type 0
SameSteps cs cs' = map call_step cs ≡ map call_step cs'
