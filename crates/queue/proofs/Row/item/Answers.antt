-- Past the end there is no item, and the number of an empty cell is 0.
use mathlib.Core.Path.{sym}
use Rattle.std.proofs.lemmas.Option.{unwrap_or-slice_get}
use Rattle.queue.proofs.Row.item.Goals as goal

pub returns-in-None : goal.returns-in-None
returns-in-None g c = rw (← unwrap_or-slice_get _ _ g.C.Item.NONE, ← c.get.ensures, c.in-None.is) (sym g.met.C.Cell.none_is_zero)
