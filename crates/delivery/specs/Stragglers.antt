-- Document 02, W7: an offer from an earlier life of the player changes nothing, stated. The file imports definitions alone.
use Rattle.std.specs.Prelude.{ℕ, ◌<◌, ◌≡◌, List}
use Rattle.journal.specs.declared.Entry.{Entry}
use Rattle.rules.specs.declared.Settings.{Settings}
use Rattle.rules.specs.declared.Term.{Term}
use Rattle.rules.specs.View.{PlayerView}
use Rattle.rules.specs.Refusals.{turned_away}
use Rattle.delivery.specs.World.{World, side_at, player_in, Step, catch, written, late-ack, start, answered, Stepped, stays, step, run}
use Rattle.delivery.specs.Statement.{first_start, first_world}

-- A Catch, a Written and an Ack with term t, offered at window w, the Catch and the Ack with index i: each is made and turned away, and the
-- world is the same.
pub record Unmoved (t : Term) (w i : ℕ) (wd : World) : Type 0 where
  pub caught : step (catch w t i) wd ≡ stays (answered (turned_away w (player_in wd))) wd
  pub wrote : step (written w t) wd ≡ stays (answered (turned_away w (player_in wd))) wd
  pub acked : step (late-ack w t i) wd ≡ stays (answered (turned_away w (player_in wd))) wd

-- Stragglers, in whatever demand 3 speaks of. `had` is the world at some point of the list, and window u has some term then. Later comes a
-- Start that is answered 0, and `now` is the world at some point after it. An offer with that term changes nothing then, whatever its
-- window and index. The newest Start answered 0 is one such Start, so the term may be any that a window had before the newest.
abbrev pub Stragglers : Type 0
Stragglers =
    (before : PlayerView) (j : List Entry) (count : ℕ) (settings : Settings) (early between : List Step) (again : Settings)
    (later : List Step) →
    let had : World = run (first_world before j count settings) early in
    let started : Stepped = step (start again) (run had between) in
    let now : World = run started.world later in
    (first_start before j count settings).answer ≡ 0 → started.reply ≡ answered 0 →
    (u : ℕ) → u < count → (w i : ℕ) → Unmoved (side_at u had).view.term w i now
