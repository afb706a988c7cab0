-- The iterator yields the windows that count, and the closure is the test.
use Rattle.std.specs.Prelude.{◌≡◌, true, false}
use Rattle.std.proofs.Common.{◌∙◌, sym, arith}
use borrow.Author.Rules.{rules}
use borrow.Author.Tests.{tests}
use Rattle.std.proofs.lemmas.Iterator.{cases_from_all, YieldsList-from_slice}
use Rattle.queue.proofs.Tested.{all_from}
use Rattle.window.specs.View.{view_of}
use Rattle.rules.specs.Shape.{window_shape}
use Rattle.player.specs.FirstWindows.{first_windows-test}
use Rattle.player.proofs.Player.windows_fit.Goals as goal

pub returns : goal.returns
returns c =
    all_from _ _ _
    (cases_from_all _ _ _ (λ x. window_shape c.args.l c.args.self.now.current.0 (view_of x) ≡ true) (λ x. window_shape c.args.l c.args.self.now.current.0 (view_of x) ≡ false)
    c.all.ensures.ran (YieldsList-from_slice _ cc) (λ x q k. search (rules, tests)) (λ x q k. search (rules, tests)))
    ∙ sym (first_windows-test _ c.args.self.now.count c.args.self.now.windows (omega arith))
