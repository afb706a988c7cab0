-- Document 02, W7, of the calls: an offer from an earlier life of the player changes nothing, stated. The file imports definitions alone.
use Rattle.std.specs.Prelude.{ℕ, ◌<◌, ◌≡◌, List, true}
use Rattle.journal.specs.declared.Index.{Index}
use Rattle.rules.specs.declared.Settings.{Settings}
use Rattle.rules.specs.declared.Term.{Term}
use Rattle.rules.specs.Refusals.{turned_away}
use Rattle.window.specs.Promise.{number_of}
use Rattle.player.specs.declared.Player.{Player}
use Rattle.player.specs.declared.Played.{Played}
use Rattle.player.specs.View.{player_of}
use Rattle.calls.specs.Host.{Host, held_for, Call, catch, written, late-ack, start, is_late, Made, after, MadeAll, host_after, opened}
use Rattle.calls.specs.Statement.{FirstStart}

-- what a call at window w gave: it is turned away, and the host holds what it held, the whole player and all
pub record TurnedAway (w : ℕ) (c : Call) (r : Played) (h : Host) : Type 0 where
  pub number : number_of r.answer ≡ turned_away w (player_of h.player)
  pub same : after c h ≡ h

-- A Catch, a Written and an Ack with term t, offered at window w, the Catch and the Ack with index i: each is turned away, whatever it
-- gives that meets its promise. The Ack is a late one.
pub record Unmoved (t : Term) (w : ℕ) (i : Index) (h : Host) : Type 0 where
  pub caught : (r : Played) → Made h (catch w t i r) → TurnedAway w (catch w t i r) r h
  pub wrote : (r : Played) → Made h (written w t r) → TurnedAway w (written w t r) r h
  pub late : is_late w t h ≡ true
  pub acked : (r : Played) → Made h (late-ack w t i r) → TurnedAway w (late-ack w t i r) r h

-- Stragglers, in whatever demand 3 of the calls speaks of. `had` is the host at some point of the list, and its player holds some term for
-- window u then. Later comes a Start that is answered 0, and `now` is the host at some point after it. An offer with that term changes
-- nothing then, whatever its window and index. The newest Start answered 0 is one such Start.
abbrev pub StragglersCalls : Type 0
StragglersCalls =
    (before : Player) (ns : List ℕ) (count : ℕ) (settings : Settings) (r : Played) →
    FirstStart before ns count settings r → number_of r.answer ≡ 0 →
    (early between : List Call) (again : Settings) (r' : Played) (later : List Call) →
    let first : Host = opened r.player settings.first ns count in
    let had : Host = host_after first early in
    let restart : Call = start again r' in
    let begun : Host = after restart (host_after had between) in
    let now : Host = host_after begun later in
    MadeAll first early → MadeAll had between →
    Made (host_after had between) restart → number_of r'.answer ≡ 0 → MadeAll begun later →
    (u : ℕ) → u < count → (w : ℕ) (i : Index) → Unmoved (held_for u had.player).term w i now
