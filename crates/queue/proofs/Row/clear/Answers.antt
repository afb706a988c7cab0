-- A length of 0 leaves no items.
use mathlib.Core.Path.{refl}
use Rattle.lists.specs.Cells.{front}
use Rattle.queue.specs.Items.{items_in}
use Rattle.queue.proofs.Row.clear.Goals as goal

pub returns : goal.returns
unfolding items_in front
returns g c = refl
