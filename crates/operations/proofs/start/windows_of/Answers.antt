-- One more window is stored as Start leaves it.
use mathlib.Core.Path.{◌≡◌, refl, ap, ◌∙◌}
use native.Mathlib.Omega.{arith}
use lib.ListN.{length, take}
use lib.Seq.{take-length}
use Rattle.player.specs.Promise.{fresh_windows}
use Rattle.rules.specs.Rules.{said}
use Rattle.rules.proofs.Offers.{said-length}
use Rattle.operations.specs.Starting.{fresh_windows-none, fresh_windows-more}
use borrow.Author.Rules.{rules}
use Rattle.operations.proofs.start.windows_of.Goals as goal

pub loop-w-init : goal.loop-w-init
loop-w-init c = (search rules, refl, rw c.started-windows.ensures (fresh_windows-none _ _))

pub loop-w-preserved : goal.loop-w-preserved
loop-w-preserved c =
    let at = c.loop-w in
    let long = at.invariant.1 in (
      search rules,
      search rules,
      rw (at.invariant.2, c.window_of.ensures) (fresh_windows-more _ _ _ _ _ c.loop-w-test.true (omega arith)),
    )

pub returns : goal.returns
returns c =
    let args = c.args in
    let rs = said args.silent args.reports.now in
    let e : c.loop-w.w ≡ length rs = omega (arith, said-length args.silent args.reports.now) in
    c.loop-w.invariant.2
    ∙ ap (λ n. fresh_windows args.first args.l.0 (take n rs)) e
    ∙ ap (fresh_windows args.first args.l.0) (take-length rs)
