-- The last of a batch has its mark.
use mathlib.Core.Path.{◌∙◌}
use Rattle.queue.proofs.Laws.{pushed-items, skipped-items}
use Rattle.script.specs.Line.{no_sent, no_ack, ack_for}
use Rattle.script.proofs.line.Line.taken.Goals as goal

pub returns-then-not-sent : goal.returns-then-not-sent
returns-then-not-sent c =
    record {
      entries = c.skip-entries.ensures ∙ skipped-items no_sent c.args.self.entries 1 c.requires.entries_fit;
      acks = rw c.if-not-sent.true;
    }

pub returns : goal.returns
returns c =
    record {
      entries = c.skip-entries.ensures ∙ skipped-items no_sent c.args.self.entries 1 c.requires.entries_fit;
      acks = rw c.if-not-sent.false (c.append.ensures ∙ pushed-items no_ack c.args.self.acks (ack_for c.args.sent) c.requires.acks_fit);
    }
