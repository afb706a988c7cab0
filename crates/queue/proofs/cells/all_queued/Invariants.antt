-- The loop's invariant: the test of the indices so far.
use mathlib.Core.Path.{◌≡◌}
use lib.ListN.{take}
use Rattle.lists.specs.All.{all, queued_in}
use Rattle.queue.proofs.cells.all_queued.Given as goal

abbrev pub invariant-loop-cell : goal.invariant-loop-cell
invariant-loop-cell l = l.each ≡ all (queued_in l.l) (take l.cell-index l.cells)
