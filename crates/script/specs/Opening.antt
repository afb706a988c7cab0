-- The beginning of a run: what opening a stage gives.
use Prim.Native.Nat.{ℕ}
use Rattle.std.specs.Prelude.{Bool, replicate}
use mathlib.Core.List.{List}
use Rattle.std.proofs.Math.Bool.{cond}
use Rattle.std.proofs.Math.Dec.{eqb}
use Rattle.journal.specs.Entry.{count_of}
use Rattle.record.specs.Record.{new_record}
use Rattle.rules.specs.declared.Settings.{Settings}
use Rattle.rules.specs.Rules.{start_rule}
use Rattle.player.specs.declared.Player.{Player}
use Rattle.player.specs.View.{player_of}
use Rattle.player.specs.Promise.{fresh_player, blank_player}
use Rattle.script.specs.declared.Stage.{Stage}
use Rattle.script.specs.declared.Opened.{Opened}
use Rattle.script.specs.Line.{fresh_line}

-- new records and empty lines round a player
abbrev pub around_player : Player → Stage
around_player p = record { player = p; records = replicate 16 new_record; lines = replicate 16 fresh_line }

-- the settings that the runner gives: the batch limit 2, the spacing 65,535, the first term 1, and no window silent
abbrev pub run_settings : Settings
run_settings = record { limit = 2; spacing = 65535; first = record { 0 = 1 }; silent = 0 }

-- the answer to a first Start with these, of new windows
unfoldable pub opening_answer : List ℕ → ℕ → ℕ
opening_answer ns count = (start_rule ns count run_settings (replicate count 0) (player_of blank_player)).answer

-- What opening gives: where that Start is answered 0, a stage with the fresh player that it makes; where it is refused, one with a blank
-- player
abbrev pub opened_by : List ℕ → ℕ → Opened
opened_by ns count =
    let ok : Bool = eqb (opening_answer ns count) 0 in
    record { ok = ok; stage = around_player (cond ok (fresh_player (count_of ns) count run_settings (replicate count 0)) blank_player) }
