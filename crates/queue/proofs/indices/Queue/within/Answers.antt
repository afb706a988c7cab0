-- What is tested is the items where there are at most 128.
use native.Mathlib.Omega.{arith}
use mathlib.Core.Path.{◌≡◌}
use lib.ListN.{length}
use borrow.Author.Rules.{rules}
use borrow.Author.Tests.{lt-leb}
use Rattle.queue.specs.Items.{items_in}
use Rattle.queue.proofs.Laws.{front_fits, front-over, front-take}
use Rattle.queue.proofs.indices.Queue.within.Goals as goal

pub returns-then-self-le128 : goal.returns-then-self-le128
unfolding items_in
returns-then-self-le128 c =
    let h : length c.args.self.cells ≡ 128 = search rules in
    rw (front_fits _ _ _ _ c.if-self-le128.true, front-take 0 c.args.self.len c.args.self.cells (omega (arith, c.if-self-le128.true)))
    c.all_queued.ensures

pub returns-else-self-le128 : goal.returns-else-self-le128
unfolding items_in
returns-else-self-le128 c = rw (front-over _ _ _ _ c.if-self-le128.false) (lt-leb _ _ c.if-self-le128.false)
