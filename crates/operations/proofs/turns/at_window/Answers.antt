-- The turn of the window is stored.
use Rattle.std.proofs.Common.{arith}
use Rattle.operations.proofs.Operate.{operate-stored}
use Rattle.operations.proofs.turns.at_window.Goals as goal

pub returns : goal.returns
returns g c = λ rule follows.
    let (same, below, few, fits) = c.in_ok-at.ensures.there in
    rw same (operate-stored _ _ _ fits below (omega arith) _ rule _ follows _ (rw same at c.turn-turned.ensures))
