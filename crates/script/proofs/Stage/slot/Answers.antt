-- A window of the player has what stands at its place, and any other is absent.
use Rattle.std.specs.Prelude.{◌≤◌}
use Rattle.std.proofs.Common.{rules, arith, ◌∙◌}
use Rattle.window.specs.View.{view_of}
use Rattle.script.proofs.Worlds.{slot_in-absent, slot_in-present, Staged}
use Rattle.script.proofs.Stage.slot.Goals as goal
use Rattle.script.proofs.Stage.slot.Goals.{then-self-at-via-then-self-at, then-self-at-via-else-self-at+then-at-ge16}

pub returns-then-self-at : goal.returns-then-self-at
returns-then-self-at c few =
    let beyond : c.args.self.now.player.count ≤ c.args.at = elim c.then-self-at.branch [
      | then-self-at-via-then-self-at w ↦ w.if-self-at.true
      | then-self-at-via-else-self-at+then-at-ge16 w ↦ omega (arith, w.if-at-ge16.true)
    ] in
    c.none.ensures ∙ slot_in-absent c.args.self.now c.args.at beyond

pub returns : goal.returns
unfolding view_of
returns c few =
    let held : Staged c.args.self.now = record { few = few; records = search rules; lines = search rules } in
    rw (c.first.ensures, c.due_in.ensures)
    (slot_in-present c.args.self.now held (search rules) c.args.at _ _ _ (omega (arith, c.if-self-at.false)))
