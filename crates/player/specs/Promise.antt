-- What the calls promise: the equations between code and rule.
use Rattle.std.specs.Prelude.{ℕ, ◌-◌, ◌≡◌, List, ◌++◌, map, Bool, ◌&&◌, length, drop, replicate, leb}
use Rattle.journal.specs.Entry.{in_shape, count_of}
use Rattle.rules.specs.Shape.{count_fits, limit_fits, spacing_fits}
use Rattle.rules.specs.declared.Term.{Term}
use Rattle.rules.specs.declared.Settings.{Settings}
use Rattle.rules.specs.Window.{Report}
use Rattle.rules.specs.Rules.{Outcome, said, spoken, least}
use Rattle.window.specs.Promise.{number_of, started_window, silent_window, started_window_by}
use Rattle.window.specs.declared.Window.{Window}
use Rattle.player.specs.declared.Player.{Player}
use Rattle.player.specs.declared.Played.{Played}
use Rattle.player.specs.View.{player_of}

-- an operation on the player: its answer and the view of the next state are the rule's, a refusal gives back the player handed in, stale
-- cells too, and the windows from W up are as they were in any case
pub record Meets (before : Player) (r : Played) (o : Outcome) : Type 0 where
  pub answer : number_of r.answer ≡ o.answer
  pub next : player_of r.player ≡ o.next
  pub unchanged : (o.answer ≡ 0 → ⊥) → r.player ≡ before
  pub above : drop before.count r.player.windows ≡ drop before.count before.windows

-- the sixteen windows of a fresh player, on the first term and with L: one for each report or silence, and from W up those of a report
-- of 0
unfoldable pub fresh_windows : Term → ℕ → List Report → List Window
fresh_windows first l reports = map (started_window_by first l) reports ++ replicate (16 - length reports) (started_window first 0)

-- a fresh player, whole
abbrev pub fresh_player : (l count : ℕ) → Settings → (reports : List ℕ) → Player
fresh_player l count settings reports = record {
  count = count;
  limit = settings.limit;
  spacing = settings.spacing;
  current = record { 0 = least l (spoken (said settings.silent reports)) };
  windows = fresh_windows settings.first l (said settings.silent reports);
}

-- Start over a journal of l entries: its answer is the rule's; answered 0, the next state is a fresh player, whose view is the rule's; a
-- refusal gives back the player handed in
pub record Starts (before : Player) (l count : ℕ) (settings : Settings) (reports : List ℕ) (r : Played) (o : Outcome) : Type 0 where
  pub answer : number_of r.answer ≡ o.answer
  pub next : player_of r.player ≡ o.next
  pub fresh : o.answer ≡ 0 → r.player ≡ fresh_player l count settings reports
  pub unchanged : (o.answer ≡ 0 → ⊥) → r.player ≡ before

-- a blank player, whole: no windows, every number 0, and in all sixteen places a window silent at a Start on term 0 over no entries
unfoldable pub blank_player : Player
blank_player = record {
  count = 0;
  limit = 0;
  spacing = 0;
  current = record { 0 = 0 };
  windows = replicate 16 (silent_window (record { 0 = 0 }) 0);
}

-- what the shape asks of the player's numbers and of the journal, beside each window
abbrev pub numbers_fit : List ℕ → (count limit spacing current : ℕ) → Bool
numbers_fit ns count limit spacing current =
    count_fits count && (limit_fits limit && (spacing_fits spacing && (in_shape ns && leb current (count_of ns))))
