-- A digit is stored while two or more are left, and then the first one.
use Rattle.std.proofs.Common.{arith}
use Rattle.decimal.specs.Value.{numeral-nonempty}
use Rattle.decimal.proofs.Writing.{left_digit, left_few, left_last}
use Rattle.decimal.proofs.fill.Goals as goal

pub loop-i-preserved : goal.loop-i-preserved
loop-i-preserved c =
    left_digit _ _ _ c.loop-i.rest c.loop-i.out c.loop-i.i c.loop-i-test.true (omega (arith, c.loop-i.auto.i, c.requires.1, c.loop-i.auto.out))
    c.loop-i.invariant

pub overflow_cast-out-2 : goal.overflow_cast-out-2
overflow_cast-out-2 c = omega (arith, left_few _ _ _ c.loop-i.rest c.loop-i.out c.loop-i.i c.loop-i-test.false c.loop-i.invariant)

pub overflow_add-out-2 : goal.overflow_add-out-2
overflow_add-out-2 c = omega (arith, left_few _ _ _ c.loop-i.rest c.loop-i.out c.loop-i.i c.loop-i-test.false c.loop-i.invariant)

pub bounds-out-at : goal.bounds-out-at
bounds-out-at c = omega (arith, c.requires.0, c.requires.1, c.loop-i.auto.out, numeral-nonempty c.args.n)

pub returns : goal.returns
returns c =
    left_last _ _ _ c.loop-i.rest c.loop-i.out c.loop-i.i c.loop-i-test.false
    (omega (arith, c.requires.0, c.requires.1, c.loop-i.auto.out, numeral-nonempty c.args.n)) c.loop-i.invariant
