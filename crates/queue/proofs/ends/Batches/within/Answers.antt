-- What is tested is the items where there are at most 8: the iterator yields them, and the closure is the test.
use native.Mathlib.Omega.{arith}
use mathlib.Core.Path.{◌≡◌}
use mathlib.Core.Bool.{true, false}
use lib.Dec.{leb}
use lib.ListN.{length, take}
use borrow.Author.Rules.{rules}
use borrow.Author.Tests.{lt-leb, tests}
use Rattle.std.proofs.lemmas.Iterator.{cases_from_all, YieldsList-from_slice}
use Rattle.queue.specs.Items.{items_in}
use Rattle.queue.proofs.Laws.{front_fits, front-over, front-take}
use Rattle.queue.proofs.Tested.{all_from}
use Rattle.queue.proofs.ends.Batches.within.Goals as goal

pub returns-then-self-le8 : goal.returns-then-self-le8
unfolding items_in
returns-then-self-le8 c =
    let h : length c.args.self.cells ≡ 8 = search rules in
    rw (front_fits _ _ _ _ c.if-self-le8.true, front-take 0 c.args.self.len c.args.self.cells (omega (arith, c.if-self-le8.true)))
    (all_from _ _ _
    (cases_from_all _ _ _ (λ x. leb x c.args.l ≡ true) (λ x. leb x c.args.l ≡ false)
    c.all.ensures.ran (YieldsList-from_slice (take c.args.self.len c.args.self.cells) cc) (λ x q k. search (rules, tests)) (λ x q k. search (rules, tests))))

pub returns-else-self-le8 : goal.returns-else-self-le8
unfolding items_in
returns-else-self-le8 c = rw (front-over _ _ _ _ c.if-self-le8.false) (lt-leb _ _ c.if-self-le8.false)
