-- Above 16 windows Start is refused; else it gets as many reports of 0 as there are windows.
use Rattle.std.specs.Prelude.{refl}
use Rattle.script.proofs.Opening.{opened_by-over, opened_by-start}
use Rattle.script.proofs.Stage.open.Goals as goal

pub returns-then-count-gt16 : goal.returns-then-count-gt16
returns-then-count-gt16 c = rw (c.new.ensures, c.new-2.ensures) (opened_by-over _ _ _ c.blank-player.ensures c.if-count-gt16.true)

pub returns : goal.returns
returns c =
    rw (c.new.ensures, c.new-2.ensures, c.is_ok.ensures.value)
    (opened_by-start _ _ _ c.blank-player.ensures _ _ c.if-count-gt16.false refl c.start_on-played.ensures)
