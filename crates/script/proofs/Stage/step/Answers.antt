-- A step that is answered early leaves the stage as it was, and so does a refused call; any other is what its call and its window give.
use Rattle.std.proofs.Common.{rules, arith, ap}
use Rattle.window.specs.Promise.{number_of}
use Rattle.script.proofs.EarlyLaws.{early-none, early-plays}
use Rattle.script.proofs.Played.{plays-within, plays-refused, plays-done}
use Rattle.script.proofs.Stage.step.Goals as goal

pub returns-in-Some : goal.returns-in-Some
returns-in-Some c =
    early-plays c.args.journal.now c.args.self c.args.step c.slot-slot.result _ c.window_of-at.ensures c.slot-slot.ensures
    (search rules) (search rules) c.early.ensures c.in-Some.is

pub returns-in-Err : goal.returns-in-Err
returns-in-Err c =
    let on = early-none c.args.journal.now c.args.self c.args.step c.slot-slot.result _ c.window_of-at.ensures c.slot-slot.ensures
    (search rules) (search rules) c.early.ensures c.in_default.is in
    plays-refused _ _ _ _ on _ _ c.called-played.ensures c.in-Err.is c.from.ensures

pub bounds-self-at : goal.bounds-self-at
bounds-self-at c =
    let on = early-none c.args.journal.now c.args.self c.args.step c.slot-slot.result _ c.window_of-at.ensures c.slot-slot.ensures
    (search rules) (search rules) c.early.ensures c.in_default.is in
    omega (arith, plays-within _ _ _ _ on _ _ c.called-played.ensures (ap number_of c.in_default-answer.is), on.held.few)

pub bounds-self-at-2 : goal.bounds-self-at-2
bounds-self-at-2 c =
    let on = early-none c.args.journal.now c.args.self c.args.step c.slot-slot.result _ c.window_of-at.ensures c.slot-slot.ensures
    (search rules) (search rules) c.early.ensures c.in_default.is in
    omega (arith, plays-within _ _ _ _ on _ _ c.called-played.ensures (ap number_of c.in_default-answer.is), on.held.few)

pub returns : goal.returns
returns c =
    let on = early-none c.args.journal.now c.args.self c.args.step c.slot-slot.result _ c.window_of-at.ensures c.slot-slot.ensures
    (search rules) (search rules) c.early.ensures c.in_default.is in
    plays-done _ _ _ _ on _ _ c.called-played.ensures c.settled-settled.result c.window_of-at.ensures
    (ap number_of c.in_default-answer.is) c.settled-settled.ensures
