-- The steps that reach every window: Main, Start and an append; and all steps together.
use Prim.Native.Nat.{ℕ, suc, ◌≤◌, ◌<◌}
use Rattle.std.specs.Prelude.{◌≡◌, List, [], ◌∷◌, ◌++◌, map, true, false, get_or}
use Rattle.std.proofs.Math.Path.{refl, ap, ap₂, subst⁻¹}
use Rattle.std.proofs.Common.{sym, ◌∙◌}
use Rattle.std.proofs.Math.Logic.{⊎_elim}
use Rattle.std.proofs.lemmas.Bool.{false≢true}
use native.Mathlib.Omega.{arith}
use Rattle.std.proofs.Math.Numerals.{add-one}
use borrow.Author.Tests.{eqb-true, eq-eqb, ne_eqb, ltb-true, lt-ltb, le-ltb}
use Rattle.std.proofs.Math.ListN.{length, length-map, get_or-map}
use Rattle.journal.specs.declared.Entry.{Entry}
use Rattle.journal.specs.Entry.{count_of}
use Rattle.journal.specs.EntryLaws.{numbers_of-append}
use Rattle.lists.specs.Cases.{le-or-lt, true-or-false}
use Rattle.rules.specs.declared.Settings.{Settings}
use Rattle.rules.specs.declared.Term.{Term}
use Rattle.rules.specs.Shape.{shape}
use Rattle.rules.specs.Window.{main_at, started_by}
use Rattle.rules.specs.Rules.{Outcome, window_at, main_rule, said_by, start_rule}
use Rattle.rules.proofs.Offers.{main_rule-done, main_rule-refuses, main_next-at, main_rule-count, start_rule-done, start_rule-refuses, start_next-at, start_next-current, main-shaped, start-shaped, append-shaped}
use Rattle.delivery.specs.World.{Side, World, no_side, side_at, numbers_in, player_in, with_view, with_views, with_player, with_journal, Step, main, catch, written, send, ack, late-ack, drop, join, start, append, answered, unmade, called_then, cleared, restarted, is_new, reports_in, step, step_by}
use Rattle.delivery.specs.World as W
use Rattle.delivery.specs.Sorts.{is_done}
use Rattle.delivery.proofs.Invariant.{last_of}
use Rattle.delivery.proofs.Worlds.{entries-in, count-in, window-in, windows-in, with_windows, with_views-length, with_views-at, with_player-player}
use Rattle.delivery.proofs.Effects.{Mained, reads, Restarted, Facts, working, starting, appending}
use Rattle.delivery.proofs.Stepped.{called_then-done, called-then, call-either, idle-facts, facts-catch, facts-written, facts-late, facts-drop}
use Rattle.delivery.proofs.SteppedLine.{facts-join, facts-send, facts-ack, facts-take}

module _ (wd : World) (shaped : shape (numbers_in wd) (player_in wd) ≡ true) where
  -- ------------------------------------------------------------------------
  -- Main

  pub main-moves : (i : ℕ) → (main_rule (numbers_in wd) i (player_in wd)).answer ≡ 0 → Mained wd (step (main i) wd).world
  unfolding step_by with_player
  main-moves i e =
      let o : Outcome = main_rule (numbers_in wd) i (player_in wd) in
      let d = main_rule-done (numbers_in wd) i (player_in wd) e in
      let n : length o.next.windows ≡ length wd.sides = main_rule-count (numbers_in wd) i (player_in wd) ∙ windows-in wd in
      let i≡ : i ≡ suc wd.current = d.index ∙ add-one wd.current in
      record {
        below = omega (arith, d.below, count-in wd);
        journal = refl;
        limit = ap (λ q. q.limit) d.next;
        spacing = ap (λ q. q.spacing) d.next;
        current = ap (λ q. q.current) d.next ∙ i≡;
        count = with_views-length o.next.windows wd.sides n;
        greatest = refl;
        each = λ w h.
            with_views-at o.next.windows wd.sides w n h
            ∙ ap (λ v. with_view v (side_at w wd))
            (ap (window_at w) d.next
            ∙ main_next-at (numbers_in wd) i (player_in wd) w
            ∙ ap₂ (λ j v. main_at j w wd.spacing i v) (entries-in wd) (window-in w wd)
            ∙ ap (λ i. main_at wd.journal w wd.spacing i (side_at w wd).view) i≡);
        shaped = ap (shape (numbers_in wd)) (with_player-player wd o.next n) ∙ main-shaped (numbers_in wd) i (player_in wd) shaped;
      }

  facts-main : (i : ℕ) → Facts (main i) wd
  unfolding step_by
  facts-main i =
      call-either wd (main i) (main_rule (numbers_in wd) i (player_in wd)) (λ x. x) (called-then _ wd) (λ n. refl)
      (main_rule-refuses (numbers_in wd) i (player_in wd))
      (λ e. working refl (reads (record { index = i; is = refl; done = eq-eqb _ 0 e; mained = main-moves i e })))

  -- ------------------------------------------------------------------------
  -- Start

  views-cleared : (ps : List Side) → map (λ p. p.view) (map cleared ps) ≡ map (λ p. p.view) ps
  views-cleared [] = refl
  views-cleared (p ∷ ps) = ap (λ l. p.view ∷ l) (views-cleared ps)

  report-in : (w : ℕ) → get_or (reports_in wd) w 0 ≡ last_of (side_at w wd)
  report-in w = get_or-map last_of wd.sides w no_side

  module _ (settings : Settings) where
    abbrev first : Term
    first = settings.first

    abbrev starts : Outcome
    starts = start_rule (numbers_in wd) (length wd.sides) settings (reports_in wd) (player_in wd)

    -- a Start that is made
    start-made : is_new first wd ≡ true → step (start settings) wd ≡ called_then starts (restarted first) wd
    unfolding step_by
    start-made new = rw new

    start-done : is_new first wd ≡ true → starts.answer ≡ 0 → Restarted settings wd (step (start settings) wd).world
    unfolding with_player
    start-done new e =
        let l : ℕ = count_of (numbers_in wd) in
        let o : Outcome = starts in
        let d = start_rule-done (numbers_in wd) (length wd.sides) settings (reports_in wd) (player_in wd) e in
        let is : (step (start settings) wd).world ≡ restarted first (with_player o.next wd)
        = ap (λ r. r.world) (start-made new) ∙ called_then-done o (restarted first) wd e in
        let n : length o.next.windows ≡ length wd.sides = d.windows in
        let all : length (reports_in wd) ≡ length wd.sides = d.given.each in
        subst⁻¹ (Restarted settings wd) is
        (record {
          above = ltb-true wd.greatest first.0 new;
          greatest = refl;
          journal = refl;
          count = length-map (with_views o.next.windows wd.sides) cleared ∙ with_views-length o.next.windows wd.sides n;
          least = λ w h speaking.
              omega (
                arith,
                ap (λ q. q.current) d.next,
                start_next-current l settings (reports_in wd) w (omega arith) speaking,
                report-in w,
              );
          each = λ w h.
              get_or-map cleared (with_views o.next.windows wd.sides) w no_side
              ∙ ap cleared
              (with_views-at o.next.windows wd.sides w n h
              ∙ ap (λ v. with_view v (side_at w wd))
              (ap (window_at w) d.next
              ∙ start_next-at l settings (reports_in wd) w (omega arith)
              ∙ ap₂ (λ l r. started_by first l (said_by settings.silent w r)) (count-in wd) (report-in w)));
          shaped =
              ap (λ vs. shape (numbers_in wd) (with_windows o.next vs))
              (views-cleared (with_views o.next.windows wd.sides))
              ∙ ap (shape (numbers_in wd)) (with_player-player wd o.next n)
              ∙ start-shaped (numbers_in wd) (length wd.sides) settings (reports_in wd) (player_in wd) e;
        })

    -- one that is answered 0 is made
    pub start-restarts : is_done (step (start settings) wd).reply ≡ true → Restarted settings wd (step (start settings) wd).world
    unfolding step_by
    start-restarts done =
        ⊎_elim
        (λ (new : is_new first wd ≡ true).
        start-done new (eqb-true starts.answer 0 (ap (λ r. is_done r.reply) (sym (start-made new)) ∙ done)))
        (λ (used : is_new first wd ≡ false). absurd (false≢true (rw used at done)))
        (true-or-false (is_new first wd))

    facts-start : Facts (start settings) wd
    unfolding step_by
    facts-start =
        ⊎_elim
        (λ (new : is_new first wd ≡ true).
        call-either wd (start settings) starts (restarted first) (start-made new) (ne_eqb _ 0)
        (start_rule-refuses (numbers_in wd) (length wd.sides) settings (reports_in wd) (player_in wd))
        (λ e.
        starting
        (record {
          settings = settings;
          is = refl;
          done = ap (λ r. is_done r.reply) (start-made new) ∙ eq-eqb _ 0 e;
          restarted = start-done new e;
        })))
        (λ (used : is_new first wd ≡ false). idle-facts wd (start settings) unmade refl refl (rw used))
        (true-or-false (is_new first wd))

  -- ------------------------------------------------------------------------
  -- An append

  append-made : (e : Entry) → length wd.journal < 65535 →
      step (append e) wd ≡ W.stays (answered 0) (with_journal (wd.journal ++ (e ∷ [])) wd)
  unfolding step_by
  append-made e h = simp (lt-ltb (length wd.journal) 65535 h)

  facts-append : (e : Entry) → Facts (append e) wd
  unfolding step_by
  facts-append e =
      ⊎_elim
      (λ (h : 65535 ≤ length wd.journal).
      idle-facts wd (append e) unmade refl refl (simp (le-ltb (length wd.journal) 65535 h)))
      (λ (h : length wd.journal < 65535).
      appending
      (record {
        entry = e;
        is = refl;
        done = ap (λ x. is_done x.reply) (append-made e h);
        world = ap (λ x. x.world) (append-made e h);
        shaped =
            ap (λ x. shape (numbers_in x.world) (player_in x.world)) (append-made e h)
            ∙ ap (λ ns. shape ns (player_in wd)) (numbers_of-append wd.journal e)
            ∙ append-shaped (numbers_in wd) e (player_in wd) shaped (omega (arith, count-in wd));
      }))
      (le-or-lt 65535 (length wd.journal))

  -- ------------------------------------------------------------------------
  -- every step

  pub step-facts : (s : Step) → Facts s wd
  step-facts (main i) = facts-main i
  step-facts (catch w t i) = facts-catch wd shaped w t i
  step-facts (written w t) = facts-written wd shaped w t
  step-facts (send w out) = facts-send wd shaped w out
  step-facts (W.take w acks) = facts-take wd shaped w acks
  step-facts (ack w) = facts-ack wd shaped w
  step-facts (late-ack w t i) = facts-late wd shaped w t i
  step-facts (drop w) = facts-drop wd shaped w
  step-facts (join w) = facts-join wd shaped w
  step-facts (start settings) = facts-start settings
  step-facts (append e) = facts-append e
