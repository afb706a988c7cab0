-- So many bytes are counted, all of them digits, and the value is theirs and at most the bound.
use Rattle.std.proofs.Common.{◌≤◌, ◌≡◌, length, take}
use Rattle.decimal.specs.Numeral.{lead_digits, value_from}
use Rattle.decimal.proofs.read.Given as goal

abbrev pub invariant-loop-byte : goal.invariant-loop-byte
invariant-loop-byte l =
    (l.count ≡ l.byte-index) × (l.byte-index ≤ length l.near) × (l.value ≤ l.bound)
    × (l.value ≡ value_from 0 (take l.byte-index l.near)) × (lead_digits (take l.byte-index l.near) ≡ take l.byte-index l.near)
