-- Each way out has the outcomes of the checks before it; the player made is a fresh one, part by part.
use mathlib.Core.Path.{◌≡◌, sym, ◌∙◌}
use mathlib.Core.Bool.{true}
use Rattle.journal.specs.Entry.{count_of}
use Rattle.lists.specs.All.{all}
use Rattle.rules.specs.Rules.{said, is_start_report}
use Rattle.operations.proofs.Started.{start-shapeless, start-unspaced, start-refused, start-done, started-player}
use Rattle.operations.proofs.start.start.Goals as goal

pub returns-then-not-start_in_shape : goal.returns-then-not-start_in_shape
returns-then-not-start_in_shape c = λ before. start-shapeless _ _ _ _ _ (sym c.start_in_shape.ensures ∙ c.if-not-start_in_shape.true)

pub returns-then-not-spacing_fits : goal.returns-then-not-spacing_fits
returns-then-not-spacing_fits c = λ before.
    start-unspaced _ _ _ _ _ (sym c.start_in_shape.ensures ∙ c.if-not-start_in_shape.false)
    (sym c.spacing_fits.ensures ∙ c.if-not-spacing_fits.true)

pub returns-then-not-are_reports : goal.returns-then-not-are_reports
returns-then-not-are_reports c = λ before.
    start-refused _ _ _ _ _ (sym c.start_in_shape.ensures ∙ c.if-not-start_in_shape.false)
    (sym c.spacing_fits.ensures ∙ c.if-not-spacing_fits.false)
    (rw c.entries-l.ensures at (sym c.are_reports.ensures ∙ c.if-not-are_reports.true))

pub returns : goal.returns
returns c = λ before.
    let args = c.args in
    let l = c.entries-l.ensures in
    let right : all (is_start_report (count_of args.journal.now)) (said args.settings.silent args.reports.now) ≡ true =
    rw l at (sym c.are_reports.ensures ∙ c.if-not-are_reports.false) in
    start-done _ _ _ _ _ (sym c.start_in_shape.ensures ∙ c.if-not-start_in_shape.false)
    (sym c.spacing_fits.ensures ∙ c.if-not-spacing_fits.false) right _
    (started-player args.journal.now _ args.settings args.reports.now _ _ right
    (rw l at c.lowest.ensures) (rw l at c.windows_of.ensures))
