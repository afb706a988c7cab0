use Prim.Native.Nat.{◌≤◌}
use native.Mathlib.Omega.{arith}
use mathlib.Core.Path.{refl, ◌∙◌}
use lib.ListN.{get_or}
use borrow.Author.Tests.{le-leb, lt-leb}
use Rattle.std.proofs.lemmas.List.{take_all}
use Rattle.lists.specs.All.{all}
use Rattle.queue.proofs.Tested.{tested_more, top_is, queued_in-cell}
use Rattle.queue.proofs.cells.all_queued.Goals as goal
use Rattle.queue.proofs.cells.all_queued.Goals.{then-cell-ge1, else-cell-ge1}

pub loop-cell-init : goal.loop-cell-init
unfolding all
loop-cell-init c = refl

pub loop-cell-preserved : goal.loop-cell-preserved
loop-cell-preserved c =
    let cells = c.args.cells.now in
    let i = c.loop-cell.cell-index in
    let x = get_or cells i 0 in
    let fits : x ≤ 65535 = omega (arith, c.type_inv.cells i) in
    let top = c.unwrap_or-top.ensures ∙ top_is _ _ c.try_from.ensures in
    let same = queued_in-cell c.args.l x fits in
    rw (tested_more _ cells i 0 c.loop-cell-test.true, ← c.loop-cell.invariant, ← same, ← top)
    (elim c.if-cell-ge1.branch [
      | then-cell-ge1 w ↦ rw (w.each-is, le-leb 1 x w.if-cell-ge1.true)
      | else-cell-ge1 w ↦ rw (w.each-is, lt-leb 1 x w.if-cell-ge1.false)
    ])

pub returns : goal.returns
returns c = c.loop-cell.invariant ∙ rw (take_all _ c.args.cells.now c.loop-cell-test.false)
