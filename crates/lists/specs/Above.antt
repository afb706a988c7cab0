-- The numbers of a list that are above a given one, in order.
use Rattle.std.specs.Prelude.{ℕ, List, [], ◌∷◌, cond, ltb}

unfoldable pub above : ℕ → List ℕ → List ℕ
above i [] = []
above i (x ∷ xs) = cond (ltb i x) (x ∷ above i xs) (above i xs)
