-- A store at the length, with a length one more, puts the item at the end; where it is full the items stay.
use mathlib.Core.Path.{◌≡◌}
use lib.ListN.{length}
use borrow.Author.Rules.{rules}
use Rattle.queue.specs.Items.{items_in}
use Rattle.queue.proofs.Laws.{pushed-front-full, pushed-front-room}
use Rattle.queue.proofs.Row.append.Goals as goal

pub returns : goal.returns
unfolding items_in
returns g c =
    let h : length c.args.self.cells ≡ g.row.N = search rules in
    pushed-front-room _ _ _ _ _ h c.if-self.false

pub returns-then-self : goal.returns-then-self
unfolding items_in
returns-then-self g c = pushed-front-full _ _ _ _ _ c.if-self.true
