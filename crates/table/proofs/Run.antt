-- Document 01's run, whole: the rules give what the paper shows, and so do the stage's own steps.
use Rattle.std.specs.Prelude.{◌≡◌, refl, true}
use Rattle.std.proofs.Common.{ap, ◌∙◌}
use Rattle.journal.specs.Entry.{numbers_of}
use Rattle.rules.specs.View.{PlayerView}
use Rattle.delivery.proofs.Examples.{computed, nobody, afternoon}
use Rattle.script.specs.Stage.{steps_in}
use Rattle.script.specs.Opening.{opening_answer, opened_by}
use Rattle.scripts.proofs.Delivered.{script-runs}
use Rattle.table.specs.Run.{afternoon_steps, shown_of, RunA, StageA}

-- by the rules
pub row-a : (before : PlayerView) → RunA before
unfolding computed steps_in
row-a before = record { answers = refl; window0 = refl; window1 = refl }

-- by the calls
opened-a : (opened_by (numbers_of afternoon) 2).ok ≡ true
unfolding computed opening_answer
opened-a = refl

pub row-a-stage : StageA
unfolding computed
row-a-stage = record {
  ok = opened-a;
  prints = λ rs t script.
      let runs = script-runs (numbers_of afternoon) 2 nobody opened-a t afternoon_steps rs script in
      let by = row-a nobody in
      record {
        answers = runs.replied ∙ by.answers;
        window0 = ap shown_of (runs.records 0) ∙ by.window0;
        window1 = ap shown_of (runs.records 1) ∙ by.window1;
      };
}
