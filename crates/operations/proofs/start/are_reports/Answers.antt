-- A report that is not taken decides all; the last is followed by none.
use mathlib.Core.Path.{◌≡◌, sym, ◌∙◌}
use mathlib.Core.Bool.{◌&&◌}
use Prim.Native.Nat.{◌+◌}
use lib.ListN.{drop}
use Rattle.lists.specs.All.{all}
use Rattle.rules.specs.Rules.{said, is_start_report}
use Rattle.operations.specs.Starting.{reports-at, reports-end}
use borrow.Author.Rules.{rules}
use Rattle.operations.proofs.start.are_reports.Goals as goal

pub returns-then-not-is_start_report : goal.returns-then-not-is_start_report
returns-then-not-is_start_report c =
    let rs = said c.args.silent c.args.reports.now in
    let turn : all (is_start_report c.args.l) rs
    ≡ (c.is_start_report.result && all (is_start_report c.args.l) (drop (c.loop-w.w + 1) rs)) =
    rw c.is_start_report.ensures (c.loop-w.invariant.1 ∙ reports-at _ _ _ _ c.loop-w-test.true) in
    rw (turn, c.if-not-is_start_report.true)

pub loop-w-preserved : goal.loop-w-preserved
loop-w-preserved c =
    let rs = said c.args.silent c.args.reports.now in
    let turn : all (is_start_report c.args.l) rs
    ≡ (c.is_start_report.result && all (is_start_report c.args.l) (drop (c.loop-w.w + 1) rs)) =
    rw c.is_start_report.ensures (c.loop-w.invariant.1 ∙ reports-at _ _ _ _ c.loop-w-test.true) in
    (search rules, rw (turn, c.if-not-is_start_report.false))

pub returns : goal.returns
returns c = rw c.loop-w.invariant.1 (sym (reports-end _ _ _ _ c.loop-w-test.false))
