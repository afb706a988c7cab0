-- Decimal numerals as bytes: the numeral of a number, and what reading and writing one at a place of a text answer.
use Rattle.std.specs.Prelude.{ℕ, zero, suc, ◌+◌, ◌*◌, ◌-◌, ◌/◌, ◌%◌, List, [], ◌∷◌, ◌++◌}
use Rattle.std.specs.Prelude.{Bool, true, false, not, cond, ◌&&◌, length, drop, leb, ltb, eqb, Option, Some, None}
use Rattle.lists.specs.All.{between}
use Rattle.lists.specs.Over.{over}

-- one of the bytes `0` to `9`
abbrev pub is_digit : ℕ → Bool
is_digit = between 48 57

-- the numeral of n: its digits from the highest, with no leading zero but in `0` itself. The fuel bounds the digits, and n is enough of it
unfoldable pub numeral_by : ℕ → ℕ → List ℕ
numeral_by zero n = (48 + n % 10) ∷ []
numeral_by (suc fuel) n = elim (ltb n 10) [ true ↦ (48 + n) ∷ [] | false ↦ numeral_by fuel (n / 10) ++ ((48 + n % 10) ∷ []) ]

unfoldable pub numeral : ℕ → List ℕ
unfolding numeral_by
numeral n = numeral_by n n

-- the digits at the front of a text, as many as stand there
unfoldable pub lead_digits : List ℕ → List ℕ
lead_digits [] = []
lead_digits (b ∷ s) = elim (is_digit b) [ true ↦ b ∷ lead_digits s | false ↦ [] ]

-- the value of digits, from the highest, after digits of the value v
unfoldable pub value_from : ℕ → List ℕ → ℕ
value_from v [] = v
value_from v (b ∷ s) = value_from (v * 10 + (b - 48)) s

-- one digit, or several of which the first is not `0`
unfoldable pub canonical : List ℕ → Bool
canonical [] = false
canonical (b ∷ []) = true
canonical (b ∷ c ∷ s) = not (eqb b 48)

-- Reading at a place of a text: all digits that stand there, if they are a numeral of at most the bound, and the place after them
unfoldable pub read_at : ℕ → List ℕ → ℕ → Option (ℕ × ℕ)
unfolding lead_digits value_from canonical
read_at bound text at =
    let ds : List ℕ = lead_digits (drop at text) in
    cond (canonical ds && leb (value_from 0 ds) bound) (Some (value_from 0 ds, at + length ds)) None

-- whether n's numeral fits into so many bytes from a place
abbrev pub room : ℕ → ℕ → ℕ → Bool
room n size at = leb (at + length (numeral n)) size

-- Writing at a place of a buffer of so many bytes: the place after the numeral, or that there is no room
unfoldable pub write_at : ℕ → ℕ → ℕ → Option ℕ
write_at n size at = cond (room n size at) (Some (at + length (numeral n))) None

-- what the buffer then holds: the numeral at the place and all else as before; where there is no room, all as before
unfoldable pub with_numeral : ℕ → List ℕ → ℕ → List ℕ
with_numeral n buf at = cond (room n (length buf) at) (over at (numeral n) buf) buf
