-- The loop's invariant: the cells kept, and those above x of the rest, are those above x of the entry.
use Prim.Native.Nat.{◌≤◌}
use mathlib.Core.Path.{◌≡◌}
use lib.ListN.{length}
use Rattle.lists.specs.Above.{above}
use Rattle.lists.specs.Cells.{front}
use Rattle.queue.proofs.Kept.{kept}
use Rattle.queue.proofs.cells.keep_above.Given as goal

abbrev pub invariant-loop-from : goal.invariant-loop-from
invariant-loop-from l =
    (l.to ≤ l.from) × (length l.cells ≡ length l.initial.cells) × (kept l.x l.n l.to l.from l.cells ≡ above l.x (front 0 l.n l.initial.cells))
