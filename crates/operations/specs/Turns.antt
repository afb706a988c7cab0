-- What an operation at one window does wherever it is done.
use Rattle.std.specs.Prelude.{ℕ, ◌≤◌, ◌≡◌, List, true}
use Rattle.journal.specs.Entry.{count_of}
use Rattle.window.specs.declared.Window.{Window}
use Rattle.window.specs.declared.Turned.{Turned}
use Rattle.window.specs.View.{view_of}
use Rattle.window.specs.Promise.{MeetsWindow}
use Rattle.rules.specs.View.{WindowView}
use Rattle.rules.specs.Shape.{window_shape}
use Rattle.rules.specs.Window.{Turn}
use Rattle.player.specs.declared.Player.{Player}

-- at a window in shape of a player over a journal in shape, it follows a rule
abbrev pub Follows : List ℕ → Player → (Window → Turned → Type 0) → (WindowView → Turn) → Type 0
Follows ns p Turns rule =
    (x : Window) (t : Turned) → count_of ns ≤ 65535 → window_shape (count_of ns) p.current.0 (view_of x) ≡ true → Turns x t →
    MeetsWindow x t (rule (view_of x))
