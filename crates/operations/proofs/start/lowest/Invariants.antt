-- The loop's invariant: the least of L and every report is that of `low` and the reports from the next on.
use Prim.Native.Nat.{◌≤◌}
use mathlib.Core.Path.{◌≡◌}
use lib.ListN.{length, drop}
use Rattle.rules.specs.Rules.{said}
use Rattle.operations.specs.Starting.{lowest}
use Rattle.operations.proofs.start.lowest.Given as goal

abbrev pub invariant-loop-w : goal.invariant-loop-w
invariant-loop-w l =
    let rs = said l.silent l.reports in (l.w ≤ length l.reports) × (lowest l.l rs ≡ lowest l.low (drop l.w rs))
