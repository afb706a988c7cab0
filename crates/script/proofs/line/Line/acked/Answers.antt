-- The front ack is the first of a row that has no more than it may.
use mathlib.Core.Path.{refl, ◌∙◌}
use Rattle.queue.proofs.Laws.{skipped-items}
use Rattle.script.specs.Line.{no_ack}
use Rattle.script.proofs.line.Line.acked.Goals as goal

pub returns : goal.returns
returns c = record { entries = refl; acks = c.skip.ensures ∙ skipped-items no_ack c.args.self.acks 1 c.requires }
