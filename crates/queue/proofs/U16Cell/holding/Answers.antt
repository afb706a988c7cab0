-- Where the number fits in 16 bits the cell is the number.
use Rattle.std.specs.Prelude.{ℕ, ◌<◌, ◌≡◌, cond, Some, None, Ok, Err, Result}
use Rattle.std.specs.Result.{OkIff, result_ok}
use Rattle.std.proofs.Common.{arith, ap, ◌∙◌, le-leb}
use Rattle.std.proofs.lemmas.Bool.{lt-leb}
use Rattle.queue.specs.Items.{fits_cell}
use Rattle.queue.proofs.U16Cell.holding.Goals as goal

fits : {E : Type 0} (x : ℕ) (r : Result ℕ E) → OkIff r (x < 65536) x → result_ok r ≡ cond (fits_cell x) (Some x) None
unfolding fits_cell
fits x (Ok y) (h, e) = rw (le-leb x 65535 (omega arith)) (ap (λ n. Some n) e)
fits x (Err e) h = rw (lt-leb x 65535 (omega arith))

pub returns : goal.returns
returns c = c.ok.ensures.value ∙ fits _ _ c.try_from.ensures
