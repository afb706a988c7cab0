-- A table of words, tried in turn from a place on.
use Rattle.std.specs.Prelude.{ℕ, List, [], ◌∷◌, Option, None}
use Rattle.std.specs.Borrow.{Bor}
use Rattle.script_line.specs.declared.Verb.{Verb}
use Rattle.script_line.specs.declared.Step.{Step}
use Rattle.script_line.specs.Line.{number_after, step_or}

-- the step of the first word that the line has, of those listed
abbrev pub first_of : List ℕ → List (Bor (List ℕ) × Verb) → Option Step
first_of line [] = None
first_of line (entry ∷ words) = step_or entry.1 (number_after entry.0.now 99 line) (first_of line words)
