-- The measure is what is left to read and to pass.
use Rattle.std.proofs.Common.{◌+◌, ◌-◌}
use Rattle.runner.proofs.input.Lines.head.Given as goal

abbrev pub decreases-loop-n : goal.decreases-loop-n
decreases-loop-n g l = (65536 - l.self.at) + (65536 - l.self.end)
