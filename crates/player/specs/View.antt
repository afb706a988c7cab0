-- The view of a player: the batch limit, the spacing, the last index read, and the views of its windows.
use Rattle.std.specs.Prelude.{ℕ, zero, suc, List, [], ◌∷◌}
use Rattle.rules.specs.View.{WindowView, no_window, PlayerView}
use Rattle.window.specs.declared.Window.{Window}
use Rattle.window.specs.View.{view_of}
use Rattle.player.specs.declared.Player.{Player}

-- the first n windows, filled up where there are fewer: so the list is as long as W says, whatever it says
unfoldable pub first_windows : ℕ → List Window → List WindowView
first_windows zero ws = []
first_windows (suc n) [] = no_window ∷ first_windows n []
first_windows (suc n) (w ∷ ws) = view_of w ∷ first_windows n ws

unfoldable pub player_of : Player → PlayerView
player_of p = record {
  limit = p.limit;
  spacing = p.spacing;
  current = p.current.0;
  windows = first_windows p.count p.windows;
}
