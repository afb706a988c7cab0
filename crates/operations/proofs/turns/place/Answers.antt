-- Each refusal is the rule's, and a player in shape has at most sixteen windows.
use Rattle.std.proofs.Common.{sym, refl, ◌∙◌}
use Rattle.operations.proofs.Operate.{operate-shapeless, operate-absent, shape-few}
use Rattle.operations.proofs.turns.place.Goals as goal

pub returns-then-not-in_shape-clause-refused : goal.returns-then-not-in_shape-clause-refused
returns-then-not-in_shape-clause-refused c = λ rule. operate-shapeless _ _ rule _ (sym c.in_shape.ensures ∙ c.if-not-in_shape.true)

pub returns-then-player-w-clause-refused : goal.returns-then-player-w-clause-refused
returns-then-player-w-clause-refused c = λ rule. operate-absent _ _ rule _ (sym c.in_shape.ensures ∙ c.if-not-in_shape.false) c.if-player-w.true

pub returns-clause-there : goal.returns-clause-there
returns-clause-there c =
    let h = sym c.in_shape.ensures ∙ c.if-not-in_shape.false in (refl, c.if-player-w.false, shape-few _ _ h, h)
