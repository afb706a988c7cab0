-- One more report lessens `low` as the rule does; after the last `low` is the least.
use mathlib.Core.Path.{sym, ◌∙◌}
use Rattle.operations.specs.Starting.{lowest-at, lowest-end}
use borrow.Author.Rules.{rules}
use Rattle.operations.proofs.start.lowest.Goals as goal

pub loop-w-preserved : goal.loop-w-preserved
loop-w-preserved c = (
  search rules,
  rw c.lesser-low.ensures (c.loop-w.invariant.1 ∙ lowest-at _ _ _ _ c.loop-w-test.true),
)

pub returns : goal.returns
returns c = sym (c.loop-w.invariant.1 ∙ lowest-end _ _ _ _ c.loop-w-test.false)
