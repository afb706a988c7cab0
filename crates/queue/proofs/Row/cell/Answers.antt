-- Where there is a cell it is what is read.
use Rattle.std.specs.Prelude.{ℕ, ◌≤◌, ◌<◌, ◌≡◌, List, length, get_or, Option, Some, None, MatchOption}
use Rattle.std.specs.Borrow.{Bor}
use Rattle.std.specs.List.{HoldsAt}
use Rattle.std.specs.Option.{unwrap_or, option_copied}
use Rattle.std.proofs.Common.{sym, ◌∙◌}
use Rattle.std.proofs.Math.ListN.{get_or-eq_default}
use Rattle.queue.proofs.Row.cell.Goals as goal

read : {A : Type 0} (xs : List A) (k : ℕ) (d : A) (r : Option (Bor A))
    → MatchOption r (length xs ≤ k) (λ x. (k < length xs) × HoldsAt (λ y. x.now ≡ y) xs k) → unwrap_or (option_copied r) d ≡ get_or xs k d
read xs k d None h = sym (get_or-eq_default xs d h)
read xs k d (Some x) h = h.1 d

pub returns : goal.returns
returns g c =
    c.unwrap_or.ensures
    ∙ rw (c.copied.ensures, c.NONE.ensures) (read c.args.self.cells c.args.k g.T.Item.NONE c.get.result c.get.ensures.lookup.3)
