-- Demand 3 holds.
use Rattle.std.specs.Prelude.{ℕ, ◌+◌, ◌*◌, ◌≤◌, ◌<◌, ◌≡◌, refl, Bool, true, false, not, ◌||◌, length, get_or, take, eqb}
use Rattle.std.proofs.Common.{sym, subst, ◌∙◌, le_refl, eqb-true}
use Rattle.std.proofs.Math.Path.{ap, ap₂, subst⁻¹}
use mathlib.Core.List.{List, [], ◌∷◌, ◌++◌, map, map-append, map-map, map-id}
use native.Mathlib.Omega.{arith}
use Rattle.std.proofs.Math.ListN.{length-map, get_or-map}
use Rattle.std.proofs.lemmas.List.{get_or-replicate}
use Rattle.std.proofs.Math.Seq.{take-append_seam}
use Rattle.journal.specs.declared.Entry.{Entry}
use Rattle.journal.specs.Entry.{Placed, count_of, numbers_of, placed_at, is_for, is_race}
use Rattle.journal.specs.Due.{due, due-split}
use Rattle.journal.specs.Own.{own, is_own, own_of, own-due}
use Rattle.lists.specs.Cases.{and_left, and_right, and_intro}
use Rattle.lists.specs.All.{all, all-weaken}
use Rattle.record.specs.Record.{new_record, take_all}
use Rattle.record.proofs.Laws.{take_all-nil, take_all-new-count, take_all-last, take_all-kept}
use Rattle.rules.specs.declared.Settings.{Settings}
use Rattle.rules.specs.View.{PlayerView, no_window}
use Rattle.rules.specs.Shape.{shape}
use Rattle.rules.specs.Window.{is_suspended, started_by}
use Rattle.rules.specs.Rules.{Outcome, window_at, speaks, said_by, sent_for}
use Rattle.rules.proofs.Offers.{sent_for-is_own, sent_for-tick, StartDone, start_rule-done, start_next-at, start_next-current, start-shaped}
use Rattle.delivery.specs.World.{Side, World, side_at, player_in, new_side, opened, Step, run}
use Rattle.delivery.specs.Statement.{changes, is_tick, Leading, Delivers, new_reports, first_start, first_world, Demand3}
use Rattle.delivery.proofs.Invariant.{Taken, Inv, Reached, last_of}
use Rattle.delivery.proofs.Worlds.{count-in, with_windows}
use Rattle.delivery.proofs.KeepFault.{keep-start}
use Rattle.delivery.proofs.Queued.{holds-none}
use Rattle.delivery.proofs.KeepLine.{taken_own, taken-few}
use Rattle.delivery.proofs.Reach.{few-in, reached-run, run-count}
use Rattle.delivery.proofs.Bound.{work_left-most, changes-bound}
use Rattle.delivery.proofs.Joined.{started_by-away, joined-run}
use Rattle.delivery.proofs.Finish.{taken-all}

-- ------------------------------------------------------------------------
-- the leading part

-- what goes out is the window's own or a tick
sent-others : (j : List Entry) (w : ℕ) (xs : List ℕ) → all (λ x. is_own w x || is_tick x) (map (sent_for j w) xs) ≡ true
unfolding all
sent-others j w [] = refl
sent-others j w (x ∷ xs) = and_intro (by (is_for j w x) refl) (sent-others j w xs)
  where
    by : (b : Bool) → is_for j w x ≡ b → (is_own w (sent_for j w x) || is_tick (sent_for j w x)) ≡ true
    by true own = rw (sent_for-is_own j w x, own)
    by false other = rw (sent_for-is_own j w x, other, sent_for-tick j w x other)

-- a tick names no race
tick-race : (x : Placed) → is_tick x ≡ true → is_race x.entry.race ≡ false
tick-race x e =
    let race = and_left (eqb x.entry.race 0) _ (and_right (eqb x.entry.kind 4) _ (and_right (eqb x.entry.set 0) _ e)) in
    rw (eqb-true x.entry.race 0 race)

no_race : (w : ℕ) (x : Placed) → (is_own w x || is_tick x) ≡ true → (is_own w x || not (is_race x.entry.race)) ≡ true
no_race w x = by (is_own w x)
  where
    by : (b : Bool) → (b || is_tick x) ≡ true → (b || not (is_race x.entry.race)) ≡ true
    by true e = refl
    by false e = ap not (tick-race x e)

leading-part : (j : List Entry) (w : ℕ) (p : Side) → length j ≤ 65535 → Taken j w p.record' p.taken → Leading j w p
leading-part j w p few is =
    let before : List Placed = map (placed_at j) (due j w 0 (last_of p)) in
    let split : own j w ≡ before ++ map (placed_at j) (due j w (last_of p) (length j))
    = own-due j w
    ∙ ap (map (placed_at j)) (due-split j w 0 (last_of p) (length j) (omega arith) is.last_in)
    ∙ map-append (placed_at j) (due j w 0 (last_of p)) (due j w (last_of p) (length j)) in
    let list : own_of w p.taken ≡ take (length before) (own j w)
    = taken_own is ∙ sym (ap (take (length before)) split ∙ take-append_seam before _) in
    let others : all (λ x. is_own w x || is_tick x) p.taken ≡ true
    = ap (all (λ x. is_own w x || is_tick x)) is.taken_is ∙ sent-others j w is.order in
    let room : 0 + length p.taken ≤ 4294967295 = omega (arith, taken-few is) in
    record {
      k = length before;
      list = list;
      others = others;
      folded = is.record_is;
      races =
          ap (λ r. r.races) is.record_is
          ∙ take_all-kept (is_own w) p.taken new_record new_record
          (all-weaken (λ x. is_own w x || is_tick x) (λ x. is_own w x || not (is_race x.entry.race)) (no_race w) p.taken others)
          refl room room
          ∙ ap (λ l. (take_all l new_record).races) list;
      count = ap (λ r. r.count) is.record_is ∙ take_all-new-count p.taken (omega arith);
      last = ap (λ r. r.last.0) is.record_is ∙ take_all-last p.taken new_record room;
    }

-- ------------------------------------------------------------------------
-- the beginning

-- a new window has taken nothing
new-taken : (j : List Entry) (w : ℕ) → Taken j w new_record []
new-taken j w = record {
  last_in = omega arith;
  order = [];
  has = holds-none (le_refl 0);
  taken_is = refl;
  record_is = sym (take_all-nil new_record);
}

module _ (before : PlayerView) (j : List Entry) (count : ℕ) (settings : Settings)
    (done : (first_start before j count settings).answer ≡ 0) where
  -- the first Start, and the world after it
  abbrev starts : Outcome
  starts = first_start before j count settings

  abbrev wd₀ : World
  wd₀ = first_world before j count settings

  start-done : StartDone (numbers_of j) count settings (new_reports count) starts
  start-done = start_rule-done (numbers_of j) count settings (new_reports count) before done

  -- every report is 0
  report-at : (w : ℕ) → w < count → get_or (new_reports count) w 0 ≡ 0
  report-at w h = get_or-replicate count w 0 0 h

  pub opened-count : length wd₀.sides ≡ count
  unfolding opened
  opened-count =
      length-map starts.next.windows new_side ∙ start-done.windows

  -- `current` is 0 where a window speaks
  opened-least : (w : ℕ) → w < count → speaks settings.silent w ≡ true → wd₀.current ≤ 0
  unfolding opened
  opened-least w h speaking =
      omega (
        arith,
        ap (λ q. q.current) start-done.next,
        start_next-current (count_of (numbers_of j)) settings (new_reports count) w (omega (arith, start-done.given.each)) speaking,
        report-at w h,
      )

  pub opened-side : (w : ℕ) → w < count → side_at w wd₀ ≡ new_side (started_by settings.first (length j) (said_by settings.silent w 0))
  unfolding opened
  opened-side w h =
      get_or-map new_side starts.next.windows w no_window
      ∙ ap new_side
      (ap (window_at w) start-done.next
      ∙ start_next-at (count_of (numbers_of j)) settings (new_reports count) w (omega (arith, start-done.given.each))
      ∙ ap₂ (λ l r. started_by settings.first l (said_by settings.silent w r)) (count-in wd₀) (report-at w h))

  opened-shaped : shape (numbers_of j) (player_in wd₀) ≡ true
  unfolding opened
  opened-shaped =
      ap (λ vs. shape (numbers_of j) (with_windows starts.next vs))
      (map-map (λ p. p.view) new_side starts.next.windows ∙ map-id starts.next.windows)
      ∙ start-shaped (numbers_of j) count settings (new_reports count) before done

  pub opened-reached : Reached wd₀
  unfolding opened
  opened-reached = record {
    in_shape = opened-shaped;
    each = λ w h.
        let k : w < count = omega (arith, opened-count) in
        subst⁻¹ (Inv j starts.next.current w) (opened-side w k)
        (keep-start settings.first settings.silent (new_side no_window) (new-taken j w) (opened-least w k));
  }

  delivers : (steps : List Step) → Delivers count settings.silent wd₀ steps
  delivers steps =
      let wd : World = wd₀ in
      let reached : Reached (run wd steps) = reached-run wd steps opened-reached in
      let n : length (run wd steps).sides ≡ count = run-count wd steps opened-reached ∙ opened-count in
      record {
        leading = λ w h.
            leading-part (run wd steps).journal w (side_at w (run wd steps)) (few-in (run wd steps) reached)
            (reached.each w (omega arith)).taken;
        bound = λ joined.
            subst (λ k. changes 0 wd steps ≤ length (run wd steps).journal * (1 + 5 * k)) n
            (changes-bound 0 wd steps opened-reached (omega (arith, work_left-most wd opened-reached)));
        finish = λ joined none w h.
            taken-all (run wd steps) reached none w (omega arith)
            (joined-run wd steps w (speaks settings.silent w) opened-reached (omega (arith, opened-count))
            (ap (λ p. is_suspended p.view.condition) (opened-side w h)
            ∙ started_by-away (speaks settings.silent w) settings.first (length j) 0)
            ∙ ap not (joined w h));
      }

-- Demand 3, for every W, batch limit, spacing, first term, set of silent windows, journal and list of steps
pub demand-3 : Demand3
demand-3 before j count settings steps done = delivers before j count settings done steps
