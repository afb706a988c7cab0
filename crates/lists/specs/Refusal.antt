-- Document 01: "Checks run in the order given." A call's refusals as a list, and the answer that the list gives.
use Rattle.std.specs.Prelude.{ℕ, List, [], ◌∷◌, Bool, cond}

infix 68 ◌when◌
-- a refusal: its number, and the condition under which a call is refused
pub data Refusal : Type 0 where
  ◌when◌ : ℕ → Bool → Refusal

-- the number of the first refusal whose condition holds; 0 where none does
abbrev pub first_of : List Refusal → ℕ
first_of [] = 0
first_of ((n when b) ∷ rs) = cond b n (first_of rs)
