-- The items of the moved cells are what is left; above N the items stay.
use native.Mathlib.Omega.{arith}
use mathlib.Core.Path.{◌≡◌}
use lib.ListN.{length}
use borrow.Author.Rules.{rules}
use Rattle.queue.specs.Items.{items_in}
use Rattle.queue.proofs.Laws.{front_moved, where_fits-front-over, where_fits-front-fits}
use Rattle.queue.proofs.Row.skip.Goals as goal

pub returns : goal.returns
unfolding items_in
returns g c =
    let h : length c.args.self.cells ≡ g.row.N = search rules in
    rw (where_fits-front-fits _ _ _ _ _ c.if-self.false, c.copy_within.ensures.after, c.min-gone.ensures)
    (front_moved _ _ _ c.args.self.cells (omega (arith, c.if-self.false)))

pub returns-then-self : goal.returns-then-self
unfolding items_in
returns-then-self g c = where_fits-front-over _ _ _ _ _ c.if-self.true
