-- The window's Send is stored, and its output is the rule's.
use Rattle.std.proofs.Common.{arith, rules}
use Rattle.operations.proofs.Sent.{send-refused, send-meets}
use Rattle.operations.proofs.turns.send.Goals as goal

pub returns-in_err-from : goal.returns-in_err-from
returns-in_err-from c =
    let k = send-refused c.args.journal.now c.args.w c.args.out.now c.args.player.now _ c.in_err-from.ensures.refused in search rules

pub returns : goal.returns
returns c =
    let (same, below, few, fits) = c.in_ok-from.ensures.there in
    rw same (send-meets _ _ _ fits below (omega arith) _ _ _ (rw same at c.send_at-sent.ensures))
