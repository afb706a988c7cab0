-- The loop's invariant: the windows before the next are as Start leaves them, and the others as they were made.
use Prim.Native.Nat.{◌≤◌}
use mathlib.Core.Path.{◌≡◌}
use lib.ListN.{length, take}
use Rattle.player.specs.Promise.{fresh_windows}
use Rattle.rules.specs.Rules.{said}
use Rattle.operations.proofs.start.windows_of.Given as goal

abbrev pub invariant-loop-w : goal.invariant-loop-w
invariant-loop-w l =
    (l.w ≤ length l.reports) × (length l.windows ≡ 16) × (l.windows ≡ fresh_windows l.first l.l.0 (take l.w (said l.silent l.reports)))
