-- Each return follows from the digits at the place.
use Rattle.std.proofs.Common.{arith, refl, sym, ◌∙◌, ap, inl, inr, ◌+◌, length, take}
use Rattle.std.proofs.Math.Nat.{min-le_left}
use Rattle.std.proofs.lemmas.List.{length-take}
use Rattle.decimal.specs.Numeral.{lead_digits, value_from}
use Rattle.decimal.proofs.Reading.{digits_more, digits_all, value_from-next, answer_end, answer-other, answer-above, answer-number}
use Rattle.decimal.proofs.read.Goals.{else-loop-byte-test, then-loop-byte-test+then-not-is_ascii_digit}
use Rattle.decimal.proofs.read.Goals as goal

pub returns-in_err-rest : goal.returns-in_err-rest
returns-in_err-rest c = c.from_residual.ensures ∙ answer_end _ _ _ (omega (arith, c.in_err-rest.ensures.lookup.0))

pub loop-byte-init : goal.loop-byte-init
unfolding value_from lead_digits
loop-byte-init c = (refl, omega arith, omega arith, refl, refl)

pub overflow_mul-value : goal.overflow_mul-value
overflow_mul-value c = omega (arith, c.loop-byte.invariant.2, c.ranges.bound.fits)

pub overflow_add-value : goal.overflow_add-value
overflow_add-value c = omega (arith, c.loop-byte.invariant.2, c.ranges.bound.fits, c.from.ensures, c.from.type_inv)

pub returns-then-from-value : goal.returns-then-from-value
returns-then-from-value c =
    let near = take c.min.result c.in_ok-rest.rest.now in
    let i = c.loop-byte.byte-index in
    let more = digits_more near i c.loop-byte.invariant.4 c.loop-byte-test.true (sym c.if-not-is_ascii_digit.ensures.value) in
    let next = value_from-next near i c.loop-byte-test.true in
    answer-above _ _ _ _ _ _ (omega arith) c.in_ok-rest.ensures.lookup.0.2 c.min.ensures (i + 1) more
    (omega (arith, next, c.loop-byte.invariant.3, c.from.ensures, c.if-from-value.true, c.from-in-loop-byte.ensures))

pub overflow_add-count : goal.overflow_add-count
overflow_add-count c =
    omega (
      arith,
      c.loop-byte.invariant.0,
      c.loop-byte.invariant.1,
      length-take c.min.result c.in_ok-rest.rest.now,
      min-le_left c.min.result (length c.in_ok-rest.rest.now),
      c.min.ensures,
      min-le_left 11 (length c.in_ok-rest.rest.now),
    )

pub loop-byte-preserved : goal.loop-byte-preserved
loop-byte-preserved c =
    let near = take c.min.result c.in_ok-rest.rest.now in
    let i = c.loop-byte.byte-index in
    let next = value_from-next near i c.loop-byte-test.true in (
      ap (λ n. n + 1) c.loop-byte.invariant.0,
      omega (arith, c.loop-byte-test.true),
      omega (arith, c.if-from-value.false, c.from-in-loop-byte.ensures),
      omega (arith, next, c.loop-byte.invariant.3, c.from.ensures),
      digits_more near i c.loop-byte.invariant.4 c.loop-byte-test.true (sym c.if-not-is_ascii_digit.ensures.value),
    )

pub returns-then-not-is_canonical : goal.returns-then-not-is_canonical
returns-then-not-is_canonical c =
    let all =
    digits_all (take c.min.result c.in_ok-rest.rest.now) c.loop-byte.byte-index c.loop-byte.count c.loop-byte.invariant.0 c.loop-byte.invariant.4
    (elim c.loop-byte-test.branch [
      | else-loop-byte-test w ↦ inl (omega (arith, w.loop-byte-test.false))
      | then-loop-byte-test+then-not-is_ascii_digit w ↦ inr (w.loop-byte-test.true, sym w.if-not-is_ascii_digit.ensures.value)
    ]) in
    answer-other _ _ _ _ _ _ (omega arith) c.in_ok-rest.ensures.lookup.0.2 c.min.ensures c.loop-byte.count all
    (sym c.if-not-is_canonical.ensures)

pub returns : goal.returns
returns c =
    let all =
    digits_all (take c.min.result c.in_ok-rest.rest.now) c.loop-byte.byte-index c.loop-byte.count c.loop-byte.invariant.0 c.loop-byte.invariant.4
    (elim c.loop-byte-test.branch [
      | else-loop-byte-test w ↦ inl (omega (arith, w.loop-byte-test.false))
      | then-loop-byte-test+then-not-is_ascii_digit w ↦ inr (w.loop-byte-test.true, sym w.if-not-is_ascii_digit.ensures.value)
    ]) in
    answer-number _ _ _ _ _ _ (omega arith) c.in_ok-rest.ensures.lookup.0.2 c.min.ensures c.loop-byte.count c.loop-byte.value all
    (sym c.if-not-is_canonical.ensures)
    (rw c.loop-byte.invariant.0 c.loop-byte.invariant.3) c.loop-byte.invariant.2 c.ranges.bound.fits
