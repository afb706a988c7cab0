-- A script over a journal that is shorter than the spacing: no window gets a tick, so all that is queued, on a line or taken is the
-- window's own.
use Rattle.std.specs.Prelude.{ℕ, ◌-◌, ◌<◌, ◌≡◌, List, [], ◌∷◌, ◌++◌, map, Bool, cond, eqb}
use Rattle.std.proofs.Math.Path.{refl, ap, subst⁻¹}
use Rattle.std.proofs.Common.{sym, ◌∙◌, true≢false, arith}
use Rattle.std.proofs.Math.Logic.{⊎_elim}
use Rattle.std.proofs.lemmas.List.{map-append}
use Rattle.std.proofs.Math.Bool.{true, false}
use Rattle.std.proofs.Math.ListN.{length}
use Rattle.lists.specs.Cases.{true-or-false, and_left, and_right, and_intro}
use Rattle.lists.specs.All.{all, all_append, all_more, all_drop}
use Rattle.journal.specs.declared.Entry.{Entry}
use Rattle.journal.specs.Entry.{numbers_of, five_of, is_for}
use Rattle.journal.specs.Own.{is_own}
use Rattle.record.specs.Record.{take_numbers}
use Rattle.rules.specs.declared.Settings.{Settings}
use Rattle.rules.specs.declared.Term.{Term}
use Rattle.rules.specs.View.{WindowView, PlayerView}
use Rattle.rules.specs.Window.{wanted, tick_at, main_at, fetched, batch_of, Report, told, silence, started_by}
use Rattle.rules.specs.Rules.{said_by, sent_for}
use Rattle.rules.proofs.Offers.{read_at-other, tick_at-cases, main_at-both, main_at-either, batch_of-cases, batch_of-queued, launched-is, sent_for-is_own}
use Rattle.rules.proofs.Offers.{start_rule-done}
use Rattle.delivery.specs.World.{Sent, Side, World, side_at, take_front, opened}
use Rattle.delivery.specs.World as W
use Rattle.delivery.specs.Statement.{new_reports, first_start, first_world}
use Rattle.delivery.proofs.Offers.{on_line-entries, launched_side, Worked, caught, sent, written, took, acked, Moved, still, appended, mained, worked, dropped-here, joined-here, started-here, step_count, side-moves, line_entries, reached-step, run-count, opened-count, opened-side, opened-reached}
use Rattle.script_line.specs.declared.Step.{Step}
use Rattle.script.specs.Stage.{step_in, steps_in}
use Rattle.scripts.specs.Room.{scripted, step_in-scripted, scripted-keeps}
use Rattle.scripts.specs.Tickless.{Short, OwnQueues, OwnSide, Tickless}

-- ------------------------------------------------------------------------
-- one window

-- what goes out for the window's own is its own
all-sent : (j : List Entry) (w : ℕ) (is : List ℕ) → all (is_for j w) is ≡ true → all (is_own w) (map (sent_for j w) is) ≡ true
unfolding all
all-sent j w [] each = refl
all-sent j w (i ∷ is) each =
    and_intro (sent_for-is_own j w i ∙ and_left (is_for j w i) _ each) (all-sent j w is (and_right (is_for j w i) _ each))

module _ (j : List Entry) (w : ℕ) where
  -- Main below the spacing
  main-own : (e i : ℕ) (v : WindowView) → i < e → OwnQueues j w v → OwnQueues j w (main_at j w e i v)
  unfolding all
  main-own e i v few q =
      ⊎_elim
      (λ (h : wanted j w i v ≡ true).
      main_at-either j w e i v (OwnQueues j w) q
      (λ here. record { normal = all_more (is_for j w) v.normal_queue i q.normal (and_left (is_for j w i) _ h); catch_up = q.catch_up })
      (λ is. record { normal = refl; catch_up = q.normal })
      (λ n end is. record { normal = refl; catch_up = q.catch_up })
      (λ end is. record { normal = refl; catch_up = q.catch_up })
      (λ t. absurd (omega (arith, t.behind))))
      (λ (h : wanted j w i v ≡ false).
      subst⁻¹ (OwnQueues j w) (main_at-both j w e i v ∙ ap (tick_at e i) (read_at-other j w i v h))
      (tick_at-cases e i v (OwnQueues j w) q (λ t. absurd (omega (arith, t.behind)))))
      (true-or-false (wanted j w i v))

  fetched-own : (i upto : ℕ) (v : WindowView) → OwnQueues j w v → (b : Bool) → (b ≡ true → is_for j w i ≡ true) →
      OwnQueues j w (fetched b i upto v)
  unfolding fetched
  fetched-own i upto v q true own = record {
    normal = q.normal;
    catch_up = all_more (is_for j w) v.catch_queue i q.catch_up (own refl);
  }
  fetched-own i upto v q false own = record { normal = q.normal; catch_up = q.catch_up }

  -- what a batch leaves
  rest-own : (k : ℕ) (v : WindowView) → OwnQueues j w v → OwnQueues j w (batch_of k v).rest
  unfolding all
  rest-own k v q =
      batch_of-cases k v (λ b. OwnQueues j w b.rest) q
      (λ is. record { normal = all_drop _ k _ q.normal; catch_up = q.catch_up })
      (λ n e is. record { normal = q.normal; catch_up = all_drop _ k _ q.catch_up })
      (λ e is h. record { normal = q.normal; catch_up = all_drop _ k _ q.catch_up })
      (λ e is h. record { normal = all_drop _ (k - length v.catch_queue) _ q.normal; catch_up = refl })

  sent-own : (limit : ℕ) (p : Side) → OwnSide j w p → OwnSide j w (launched_side j w (batch_of limit p.view) p)
  sent-own limit p o =
      let is : List ℕ = (batch_of limit p.view).indices in
      let rest : OwnQueues j w (batch_of limit p.view).rest = rest-own limit p.view o.queues in
      let own : all (is_for j w) is ≡ true = batch_of-queued (is_for j w) limit p.view o.queues.normal o.queues.catch_up in
      record {
        queues =
            subst⁻¹ (OwnQueues j w) (launched-is is (batch_of limit p.view).rest)
            (record { normal = rest.normal; catch_up = rest.catch_up });
        line =
            rw (
              map-append (λ s. s.placed) p.line (W.on_line j w p.view.term is),
              all_append (is_own w) (line_entries p.line) (line_entries (W.on_line j w p.view.term is)),
              on_line-entries j w p.view.term is,
            ) (and_intro o.line (all-sent j w is own));
        taken = o.taken;
      }

  took-own : (acks : Bool) (x : Sent) (rest : List Sent) (p : Side) → p.line ≡ x ∷ rest → OwnSide j w p →
      OwnSide j w (take_front acks x rest p)
  unfolding take_front all
  took-own acks x rest p front o =
      let line : all (is_own w) (line_entries (x ∷ rest)) ≡ true = rw front at o.line in
      record {
        queues = o.queues;
        line = and_right (is_own w x.placed) _ line;
        taken = by (and_left (is_own w x.placed) _ line) (eqb (take_numbers (five_of x.placed) p.record').number 0);
      }
    where
      by : is_own w x.placed ≡ true → (b : Bool) → all (is_own w) (cond b (p.taken ++ (x.placed ∷ [])) p.taken) ≡ true
      by own true = all_more (is_own w) p.taken x.placed o.taken own
      by own false = o.taken

  worked-own : {limit : ℕ} {s : W.Step} {reply : W.Reply} {p p' : Side} → OwnSide j w p → Worked j limit w s reply p p' → OwnSide j w p'
  worked-own {p = p} o (caught k) =
      rw k.side
      (record {
        queues = fetched-own k.index k.tells.upto p.view o.queues k.tells.appends k.tells.own;
        line = o.line;
        taken = o.taken;
      })
  worked-own {p = p} o (sent k) = rw k.side (sent-own _ p o)
  worked-own o (written k) = rw k.side
      (record { queues = record { normal = o.queues.normal; catch_up = o.queues.catch_up }; line = o.line; taken = o.taken })
  worked-own {p = p} o (took k) = rw k.side (took-own k.acks k.entry k.rest p k.front o)
  worked-own o (acked k) = rw k.side
      (record { queues = record { normal = o.queues.normal; catch_up = o.queues.catch_up }; line = o.line; taken = o.taken })

-- ------------------------------------------------------------------------
-- a step of a script

-- a step of a script, at a window
moved-own : (wd : World) (s : W.Step) (w : ℕ) {p p' : Side} → scripted s ≡ true → Short wd.journal wd.spacing →
    OwnSide wd.journal w p → Moved s wd w p p' → OwnSide wd.journal w p'
unfolding all
moved-own wd s w script short o (still k) = rw k.side o
moved-own wd s w script short o (appended k) = rw k.side o
moved-own wd s w {p} script short o (mained k) =
    rw k.side
    (record {
      queues = main-own wd.journal w wd.spacing _ p.view (omega (arith, k.by.mained.below)) o.queues;
      line = o.line;
      taken = o.taken;
    })
moved-own wd s w script short o (worked k) = worked-own wd.journal w o k.work
moved-own wd s w script short o (dropped-here k) =
    rw k.side (record { queues = record { normal = refl; catch_up = refl }; line = o.line; taken = o.taken })
moved-own wd s w script short o (joined-here k) =
    rw k.side
    (record { queues = record { normal = o.queues.normal; catch_up = o.queues.catch_up }; line = refl; taken = o.taken })
moved-own wd s w script short o (started-here k) = absurd (true≢false (sym script ∙ ap scripted k.by.is))

-- ------------------------------------------------------------------------
-- a script

tickless-step : (wd : World) (s : Step) → Tickless wd → Tickless (W.step (step_in wd s) wd).world
tickless-step wd s r =
    let made : W.Step = step_in wd s in
    let script : scripted made ≡ true = step_in-scripted wd s in
    let shaped = r.reached.in_shape in
    let keeps = scripted-keeps wd made script r.reached in
    record {
      reached = reached-step wd made r.reached;
      short = rw (keeps.journal, keeps.spacing) r.short;
      each = λ w h.
          let within : w < length wd.sides = omega (arith, step_count wd made shaped) in
          rw keeps.journal (moved-own wd made w script r.short (r.each w within) (side-moves wd made shaped w within));
    }

tickless-run : (wd : World) (ss : List Step) → Tickless wd → Tickless (W.run wd (steps_in wd ss))
unfolding steps_in W.run_by
tickless-run wd [] r = r
tickless-run wd (s ∷ ss) r = tickless-run (W.step (step_in wd s) wd).world ss (tickless-step wd s r)

-- a window begins with nothing queued
started-own : (j : List Entry) (w : ℕ) (first : Term) (l : ℕ) (r : Report) → OwnQueues j w (started_by first l r)
unfolding all
started-own j w first l (told r) = record { normal = refl; catch_up = refl }
started-own j w first l silence = record { normal = refl; catch_up = refl }

module _ (before : PlayerView) (j : List Entry) (count : ℕ) (settings : Settings)
    (done : (first_start before j count settings).answer ≡ 0) (short : Short j settings.spacing) where
  abbrev wd₀ : World
  wd₀ = first_world before j count settings

  tickless-opened : Tickless wd₀
  unfolding opened all
  tickless-opened =
      let d = start_rule-done (numbers_of j) count settings (new_reports count) before done in
      record {
        reached = opened-reached before j count settings done;
        short = rw (ap (λ q. q.spacing) d.next) short;
        each = λ w h.
            let within : w < count = omega (arith, opened-count before j count settings done) in
            subst⁻¹ (OwnSide j w) (opened-side before j count settings done w within)
            (record {
              queues = started-own j w settings.first (length j) (said_by settings.silent w 0);
              line = refl;
              taken = refl;
            });
      }

  -- in every world that a script reaches from there, all that a window has taken is its own
  pub taken_own : (ss : List Step) (w : ℕ) → w < count → all (is_own w) (side_at w (W.run wd₀ (steps_in wd₀ ss))).taken ≡ true
  taken_own ss w below =
      let count-now = run-count wd₀ (steps_in wd₀ ss) tickless-opened.reached in
      ((tickless-run wd₀ ss tickless-opened).each w (omega (arith, count-now, opened-count before j count settings done))).taken
