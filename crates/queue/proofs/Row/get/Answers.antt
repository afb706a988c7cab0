-- An item below the length is what its cell holds; past the length there is none.
use mathlib.Core.Path.{sym, ap}
use Rattle.std.specs.Prelude.{Some}
use Rattle.std.proofs.lemmas.Option.{slice_get-get_or, slice_get_past}
use Rattle.lists.specs.Cells.{front, front_length}
use Rattle.queue.specs.Items.{items_in}
use Rattle.queue.proofs.Laws.{front-get_or}
use Rattle.queue.proofs.Row.get.Goals as goal

pub returns-then-self-k : goal.returns-then-self-k
unfolding items_in
returns-then-self-k g c =
    sym (slice_get_past (front g.T.Item.NONE c.args.self.len c.args.self.cells) c.args.k (rw front_length c.if-self-k.true))

pub returns : goal.returns
unfolding items_in
returns g c =
    rw (
      slice_get-get_or (front g.T.Item.NONE c.args.self.len c.args.self.cells) c.args.k g.T.Item.NONE (rw front_length c.if-self-k.false),
      front-get_or g.T.Item.NONE _ c.args.self.cells c.args.k c.if-self-k.false,
    )
    (ap (λ x. Some x) c.cell.ensures)
