-- The turn follows the rule.
use borrow.Author.Rules.{rules}
use Rattle.rules.specs.Rules.{written_rule}
use Rattle.rules.specs.Window.{written_at}
use Rattle.operations.proofs.Operate.{turns-guarded}
use Rattle.operations.proofs.turns.written_on.Goals as goal

pub returns : goal.returns
unfolding written_rule
returns c =
    c.at_window-answer.ensures (written_at c.args.term)
    (λ x t few fits turned. turns-guarded _ _ (written_at c.args.term) fits (search rules))
