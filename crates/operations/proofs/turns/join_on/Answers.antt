-- The turn follows the rule.
use borrow.Author.Rules.{rules}
use Rattle.player.specs.View.{player_of}
use Rattle.rules.specs.Rules.{join_rule}
use Rattle.rules.specs.View.{WindowView}
use Rattle.rules.specs.Window.{Turn, join_at}
use Rattle.operations.proofs.Operate.{turns-guarded}
use Rattle.operations.proofs.turns.join_on.Goals as goal

pub returns : goal.returns
unfolding join_rule player_of
returns c =
    let rule : WindowView → Turn = λ v. join_at c.args.player.current.0 c.args.report.0 v in
    c.at_window-answer.ensures rule (λ x t few fits turned. turns-guarded _ _ rule fits (search rules))
