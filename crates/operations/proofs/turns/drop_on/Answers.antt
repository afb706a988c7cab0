-- The turn follows the rule.
use borrow.Author.Rules.{rules}
use Rattle.rules.specs.Rules.{drop_rule}
use Rattle.rules.specs.Window.{drop_at}
use Rattle.operations.proofs.Operate.{turns-guarded}
use Rattle.operations.proofs.turns.drop_on.Goals as goal

pub returns : goal.returns
unfolding drop_rule
returns c =
    c.at_window-answer.ensures drop_at
    (λ x t few fits turned. turns-guarded _ _ drop_at fits (search rules))
