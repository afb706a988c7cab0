-- The items of the cells that are kept are those above x; above 8 the items stay.
use Prim.Native.Nat.{◌≤◌}
use native.Mathlib.Omega.{arith}
use Rattle.queue.specs.Items.{items_in}
use Rattle.queue.proofs.Laws.{where_fits-front-over, where_fits-front-fits}
use Rattle.queue.proofs.ends.Batches.above.Goals as goal

pub returns-then-self-gt8 : goal.returns-then-self-gt8
unfolding items_in
returns-then-self-gt8 c = where_fits-front-over _ _ _ _ _ c.if-self-gt8.true

pub returns : goal.returns
unfolding items_in
returns c =
    let fits : c.args.self.len ≤ 8 = omega arith in
    rw (where_fits-front-fits _ _ _ _ _ fits) c.keep_above-len.ensures
