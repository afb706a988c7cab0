-- A blank player: what it shows, and what the operations answer on it.
use Rattle.std.specs.Prelude.{ℕ, ◌≡◌, refl, List, [], false}
use Rattle.rules.specs.View.{WindowView}
use Rattle.rules.specs.Shape.{shape}
use Rattle.rules.specs.Window.{Turn}
use Rattle.rules.specs.Rules.{main_rule, operate}
use Rattle.player.specs.View.{first_windows, player_of}
use Rattle.player.specs.Promise.{blank_player}

-- no windows, and every number 0
pub blank-shown : player_of blank_player ≡ record { limit = 0; spacing = 0; current = 0; windows = [] }
unfolding player_of blank_player first_windows
blank-shown = refl

-- it is out of shape, whatever the journal
pub blank-shape : (ns : List ℕ) → shape ns (player_of blank_player) ≡ false
unfolding shape
blank-shape ns = rw blank-shown

-- A result to be read: Main, and every operation on a window, is answered 1 on it.
pub record OnBlank (ns : List ℕ) : Type 0 where
  pub main : (i : ℕ) → (main_rule ns i (player_of blank_player)).answer ≡ 1
  pub others : (w : ℕ) (rule : WindowView → Turn) → (operate ns w rule (player_of blank_player)).answer ≡ 1

pub on-blank : (ns : List ℕ) → OnBlank ns
unfolding main_rule operate
on-blank ns = record { main = λ i. rw (blank-shape ns); others = λ w rule. rw (blank-shape ns) }
