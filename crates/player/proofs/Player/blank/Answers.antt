-- Sixteen windows as Start leaves a silent one, none of them counted.
use Rattle.player.specs.Promise.{blank_player}
use Rattle.player.proofs.Player.blank.Goals as goal

pub returns : goal.returns
unfolding blank_player
returns c = rw c.silent.ensures
