use Prim.Native.Nat.{◌<◌, ◌≤◌}
use native.Mathlib.Omega.{arith}
use mathlib.Core.Path.{refl, sym, ◌∙◌}
use lib.ListN.{length, length-set}
use borrow.Author.Rules.{rules}
use Rattle.lists.specs.Cells.{front}
use Rattle.queue.proofs.Kept.{kept-moved, kept-passed, kept-all}
use Rattle.queue.proofs.cells.keep_above.Goals as goal
use Rattle.queue.proofs.cells.keep_above.Goals.{then-x-y, else-x-y}

pub loop-from-init : goal.loop-from-init
unfolding front
loop-from-init c = (search rules, refl, refl)

pub loop-from-preserved : goal.loop-from-preserved
loop-from-preserved c =
    let at = c.loop-from in
    let here : at.from < c.args.n = omega arith in
    let room : at.to < length at.cells = omega (arith, at.invariant.1) in
    elim c.if-x-y.branch [
      | then-x-y w ↦ rw (w.cells-is, w.to-is)
          (omega arith, rw length-set at.invariant.1, kept-moved _ _ _ _ _ here at.invariant.0 room w.if-x-y.true ∙ at.invariant.2)
      | else-x-y w ↦ rw (w.cells-is, w.to-is) (omega arith, at.invariant.1, kept-passed _ _ _ _ _ here w.if-x-y.false ∙ at.invariant.2)
    ]

pub returns : goal.returns
returns c =
    let at = c.loop-from in
    let end : c.args.n ≤ at.from = omega arith in
    sym (kept-all _ _ _ _ _ end) ∙ at.invariant.2
