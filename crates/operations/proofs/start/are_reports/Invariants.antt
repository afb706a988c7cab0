-- The loop's invariant: the test of every window is the test of those from the next on.
use Prim.Native.Nat.{◌≤◌}
use mathlib.Core.Path.{◌≡◌}
use lib.ListN.{length, drop}
use Rattle.lists.specs.All.{all}
use Rattle.rules.specs.Rules.{said, is_start_report}
use Rattle.operations.proofs.start.are_reports.Given as goal

abbrev pub invariant-loop-w : goal.invariant-loop-w
invariant-loop-w l =
    let rs = said l.silent l.reports in (l.w ≤ length l.reports) × (all (is_start_report l.l) rs ≡ all (is_start_report l.l) (drop l.w rs))
