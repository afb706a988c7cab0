-- The digits that are left to write end before `i`.
use Rattle.decimal.proofs.Writing.{Left}
use Rattle.decimal.proofs.fill.Given as goal

abbrev pub invariant-loop-i : goal.invariant-loop-i
invariant-loop-i l = Left l.n l.fn.out l.at l.rest l.out l.i
