-- The measure is what is left of the longest line.
use Rattle.std.proofs.Common.{◌-◌}
use Rattle.runner.proofs.input.Lines.read_step_len.Given as goal

abbrev pub decreases-loop-self : goal.decreases-loop-self
decreases-loop-self g l = 16 - l.self.end
