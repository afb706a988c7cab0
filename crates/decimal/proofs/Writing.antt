-- What `write` and `fill` rest on: what is answered; a number's last digit stored at its place, and the digits before it written over
-- that, are the number written; and what the loop keeps.
use Prim.Native.Nat.{ℕ, suc, ◌*◌, ◌^◌, ◌+◌, ◌-◌, ◌/◌, ◌%◌, ◌≤◌, ◌<◌}
use native.Mathlib.Omega.{arith}
use mathlib.Core.Path.{◌≡◌, ◌∙◌, sym}
use Rattle.std.specs.Prelude.{Some, None}
use Rattle.std.proofs.Common.{⊎_elim, pow-suc}
use Rattle.lists.specs.Cases.{le-or-lt}
use mathlib.Core.List.{List, [], ◌∷◌}
use lib.ListN.{length, set, length-append, length-set}
use Rattle.lists.specs.Over.{over, over-stores, over-prepend}
use Rattle.decimal.specs.Numeral.{numeral, write_at, with_numeral}
use Rattle.decimal.specs.Value.{numeral-small, numeral-step, numeral-nonempty, numeral-length-le, numeral-length-gt}
use Rattle.decimal.specs.Laws.{with_numeral-room, write-room, write-full, with_numeral-full}

-- numeral

pub numeral_length_small : (n : ℕ) → n < 10 → length (numeral n) ≡ 1
numeral_length_small n h = rw (numeral-small n h)

pub numeral_length_step : (n : ℕ) → 10 ≤ n → length (numeral n) ≡ length (numeral (n / 10)) + 1
numeral_length_step n h = rw (numeral-step n h, length-append)

pub numeral_length_one : (n : ℕ) → n < 10 → 1 ≡ length (numeral n)
numeral_length_one n h = sym (numeral_length_small n h)

pub numeral_length_zero : 1 ≡ length (numeral 0)
numeral_length_zero = numeral_length_one 0 (omega arith)

pub numeral_length_is : (n k : ℕ) → 10 ^ k ≤ n → n < 10 * 10 ^ k → k + 1 ≡ length (numeral n)
numeral_length_is n k h l =
    omega (arith, numeral-length-gt n k h, numeral-length-le n (suc k) (omega arith) (omega (arith, pow-suc 10 k)))

-- with_numeral

module _ (n : ℕ) (buf : List ℕ) (at i : ℕ) (last : i + 1 ≡ at + length (numeral n)) (within : i < length buf) where
  pub with_numeral-last : n < 10 → set buf i (48 + n) ≡ with_numeral n buf at
  with_numeral-last h =
      let e : at ≡ i = omega (arith, numeral_length_small n h) in
      rw (with_numeral-room n buf at (omega arith), numeral-small n h, e) (over-stores i (48 + n) [] buf (omega arith))

  pub with_numeral-step : 10 ≤ n → with_numeral (n / 10) (set buf i (48 + n % 10)) at ≡ with_numeral n buf at
  with_numeral-step h =
      let x : ℕ = 48 + n % 10 in
      let front : List ℕ = numeral (n / 10) in
      let e : i ≡ at + length front = omega (arith, numeral_length_step n h) in
      let stored : set buf i x ≡ over (at + length front) (x ∷ []) buf = rw (← e) (over-stores i x [] buf (omega arith)) in
      let fits : at + length front ≤ length (set buf i x) = omega (arith, length-set buf i x) in
      rw (with_numeral-room (n / 10) (set buf i x) at fits, with_numeral-room n buf at (omega arith), stored, numeral-step n h)
      (over-prepend at front (x ∷ []) buf (omega arith))

-- What `write` answers.
module _ (n : ℕ) (buf : List ℕ) (at : ℕ) where
  pub write_some : (end : ℕ) → end ≡ at + length (numeral n) → end ≤ length buf → Some end ≡ write_at n (length buf) at
  write_some end e h = rw e (sym (write-room n (length buf) at (omega arith)))

  pub write_none : length buf < at + length (numeral n) → None ≡ write_at n (length buf) at
  write_none h = sym (write-full n (length buf) at h)

  pub write_nothing : length buf < at + length (numeral n) → buf ≡ with_numeral n buf at
  write_nothing h = sym (with_numeral-full n buf at h)

-- Left: what a turn of `fill`'s loop keeps. The digits of `rest` are left to write, and end before the place i: written over what the
-- buffer holds now, they make the number written over what it held at first.
module _ (n : ℕ) (buf : List ℕ) (at : ℕ) where
  abbrev pub Left : ℕ → List ℕ → ℕ → Type 0
  Left rest out i = (i ≡ at + length (numeral rest)) × (with_numeral rest out at ≡ with_numeral n buf at)

  pub left_digit : (rest : ℕ) (out : List ℕ) (i : ℕ) → at + 1 < i → i ≤ length out → Left rest out i
      → Left (rest / 10) (set out (i - 1) (48 + rest % 10)) (i - 1)
  left_digit rest out i h b l =
      let m : 10 ≤ rest
      = ⊎_elim (λ (m : 10 ≤ rest). m) (λ (m : rest < 10). absurd (omega (arith, numeral_length_small rest m, l.0, h))) (le-or-lt 10 rest) in
      (omega (arith, numeral_length_step rest m, l.0), with_numeral-step rest out at (i - 1) (omega (arith, l.0, h)) (omega arith) m ∙ l.1)

  -- the first digit is left
  pub left_few : (rest : ℕ) (out : List ℕ) (i : ℕ) → i ≤ at + 1 → Left rest out i → rest < 10
  left_few rest out i h l =
      ⊎_elim (λ (m : 10 ≤ rest). absurd (omega (arith, numeral_length_step rest m, numeral-nonempty (rest / 10), l.0, h)))
      (λ (m : rest < 10). m) (le-or-lt 10 rest)

  pub left_last : (rest : ℕ) (out : List ℕ) (i : ℕ) → i ≤ at + 1 → at < length out → Left rest out i
      → set out at (48 + rest) ≡ with_numeral n buf at
  left_last rest out i h b l =
      let m = left_few rest out i h l in
      with_numeral-last rest out at at (omega (arith, numeral_length_small rest m)) b m ∙ l.1
