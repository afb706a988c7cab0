-- The turn follows the rule.
use borrow.Author.Rules.{rules}
use Rattle.rules.specs.Rules.{ack_rule}
use Rattle.rules.specs.Window.{ack_at}
use Rattle.operations.proofs.Operate.{turns-guarded}
use Rattle.operations.proofs.turns.ack_on.Goals as goal

pub returns : goal.returns
unfolding ack_rule
returns c =
    c.at_window-answer.ensures (ack_at c.args.term c.args.index.0)
    (λ x t few fits turned. turns-guarded _ _ (ack_at c.args.term c.args.index.0) fits (search rules))
