-- What is left of the table decides.
use Rattle.std.proofs.Common.{◌≡◌, drop}
use Rattle.script_line.specs.Line.{windowed_of}
use Rattle.script_line.proofs.First.{first_of}
use Rattle.script_line.proofs.read_step.Given as goal

abbrev pub invariant-loop-word : goal.invariant-loop-word
invariant-loop-word l = windowed_of l.line ≡ first_of l.line (drop l.word-index l.word-items)
