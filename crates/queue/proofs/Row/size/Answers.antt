-- There are as many items as the length says, whatever it says.
use mathlib.Core.Path.{sym}
use Rattle.lists.specs.Cells.{front_length}
use Rattle.queue.specs.Items.{items_in}
use Rattle.queue.proofs.Row.size.Goals as goal

pub returns : goal.returns
unfolding items_in
returns g c = sym (front_length _ c.args.self.len c.args.self.cells)
