-- What a call with values in its answer answers, in the papers' numbers.
use Rattle.std.specs.Prelude.{ℕ, List}

-- an answer's number, and the values that come with it
pub record Answer : Type 0 where
  pub number : ℕ
  pub values : List ℕ

abbrev pub answer : ℕ → List ℕ → Answer
answer n vs = record { number = n; values = vs }
