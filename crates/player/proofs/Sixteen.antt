-- A player that code holds has sixteen windows, whatever its count says.
use mathlib.Core.Path.{◌≡◌}
use mathlib.Core.List.{List}
use lib.ListN.{length}
use mir.Val.{Val}
use denote.Laws.{Is}
use denote.Struct.Declared.{row}
use Rattle.player.specs.declared.Player.{Player}
use Rattle.player.specs.contracts.Player as declared

pub windows-length : (p : Player) (vs : List Val) → Is (row declared.the_type) p vs → length p.windows ≡ 16
windows-length p vs h = h.1.1.1.1.1.1.0.1.0.1
