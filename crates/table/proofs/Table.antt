-- The proved table of document 01 holds: one theorem about the rules.
use Rattle.std.specs.Prelude.{◌+◌, ◌<◌, ◌≡◌, refl, [], ◌∷◌, true, false, eqb}
use Rattle.std.proofs.Common.{ap, ◌∙◌, arith, lt-ltb, le-ltb, eq-eqb, ne_eqb}
use Rattle.std.proofs.Math.Bool.{or-true}
use Rattle.journal.specs.Entry.{numbers_of, entries_of}
use Rattle.record.specs.declared.Record.{Record}
use Rattle.record.specs.Record.{take_numbers}
use Rattle.rules.specs.View.{WindowView}
use Rattle.rules.specs.Window.{is_suspended}
use Rattle.rules.specs.Rules.{window_at}
use Rattle.rules.proofs.Offers.{shaped, operated-at, main_rule-refusals, send_rule-refusals, join_rule-refusals, read_at-room, read_at-normal, ready_of, launched-ready, send_rule-done, join_rule-done, join_rule-can}
use Rattle.journal_text.specs.Text.{header}
use Rattle.journal_text.specs.Scan.{scan}
use Rattle.journal_text.specs.Answers.{Current}
use Rattle.journal_text.proofs.AnswerLaws.{reads-good, reads-bad}
use Rattle.table.specs.Table.{ProvedTable}
use Rattle.table.proofs.Run.{row-a, row-a-stage}
use Rattle.table.proofs.States.{one_more-wanted, one_more-window, eight_out-within, eight_out-here, more_ready-taken, more_ready-length, more_ready-answer, can_take-below, can_take-post, can_take-close, open_until-stamps, closed-post, lent-answer, lent-count}

pub proved-table : ProvedTable
unfolding scan numbers_of
proved-table = record {
  a = row-a;
  a-stage = row-a-stage;
  b = λ i p s. main_rule-refusals [] i p ∙ simp (s, eq-eqb p.current 0 (omega (arith, (shaped [] p s).current_in)));
  c = λ ns p w q.
      let e =
      one_more-window q (omega arith) ∙ read_at-normal (entries_of ns) w _ _ (one_more-wanted q) q.condition (omega (arith, q.queued)) in
      (ap (λ v. v.condition) e, ap (λ v. v.catch_queue) e, ap (λ v. v.normal_queue) e);
  d = λ ns p w q.
      let e =
      one_more-window q (omega arith)
      ∙ read_at-room (entries_of ns) w _ _ (one_more-wanted q) (ap is_suspended q.condition) (omega (arith, q.queued)) in
      (ap (λ v. v.condition) e ∙ q.condition, ap (λ v. v.normal_queue) e);
  e = λ ns p w size q.
      send_rule-refusals ns w size p ∙ simp (q.shaped, lt-ltb w _ (eight_out-within q), eight_out-here q, q.free, q.out);
  f = λ ns p w size q. (
    more_ready-answer q,
    (more_ready-taken q).first,
    more_ready-length q,
    ap ready_of (operated-at (send_rule-done ns w size p (more_ready-answer q))) ∙ launched-ready _ ∙ (more_ready-taken q).rest,
  );
  g = λ ns p w q.
      let v : WindowView = window_at w p in
      let away : is_suspended v.condition ≡ true = ap is_suspended q.condition in
      let below : eqb v.term.0 4294967295 ≡ false = ne_eqb v.term.0 4294967295 (omega (arith, q.term)) in (
        λ least.
            let e = join_rule-can ns w p q.shaped q.within v.sent away q.term least (omega arith) in
            (e, operated-at (join_rule-done ns w v.sent p e)),
        join_rule-refusals ns w (v.sent + 1) p
            ∙ simp (q.shaped, lt-ltb w _ q.within, away, below, lt-ltb v.sent (v.sent + 1) (omega arith), or-true),
      );
  h = λ r race q opened index set.
      let o = can_take-post q index set 50400 refl opened in
      (lent-answer r (can_take-below q) index set 1 race 50400, open_until-stamps o 50399, open_until-stamps o 50400);
  h-any = λ r race s q. (
    open_until-stamps q s ∙ lt-ltb s (s + 1) (omega arith),
    open_until-stamps q (s + 1) ∙ le-ltb (s + 1) (s + 1) (omega arith),
  );
  i = λ out. (reads-good Current header out [] refl (omega arith), reads-bad Current [] out [] 0 refl);
  j = λ r race q index set value index' set' value'.
      let r' : Record = (take_numbers (index ∷ set ∷ 3 ∷ race ∷ value ∷ []) r).record' in
      let below : r'.count < 4294967295 = omega (arith, lent-count r (can_take-below q) index set 3 race value, q.room) in
      let shut = can_take-close q index set value in
      let still = (closed-post r' index' set' race value' shut.closed).0 in (
        lent-answer r (can_take-below q) index set 3 race value,
        lent-answer r' below index' set' 1 race value',
        record { kept = record { closed = still.kept.closed; off = still.kept.off ∙ shut.off }; none = still.none },
      );
  j-any = closed-post;
}
