-- What follows of ticks in every world of a run: where one comes, where it stands, what is queued beside it, and what it is not. In states
-- that no run reaches these need not hold: rules/specs/TickExamples computes one.
use Rattle.std.specs.Prelude.{ℕ, suc, ◌-◌, ◌≤◌, ◌<◌, ◌≡◌, true, false, length, drop}
use Rattle.std.proofs.Math.Path.{refl, ap, ap₂}
use Rattle.std.proofs.Common.{sym, subst, ◌∙◌, arith}
use mathlib.Core.List.{List, [], ◌∷◌, ◌++◌, map, map-append, append-nil, cons≢nil}
use Rattle.journal.specs.declared.Entry.{Entry}
use Rattle.journal.specs.Entry.{Placed, is_for}
use Rattle.journal.specs.Due.{due}
use Rattle.journal.specs.Own.{is_own}
use Rattle.lists.specs.All.{all}
use Rattle.lists.specs.Elem.{last_or}
use Rattle.lists.specs.Rising.{Rising, rising_none, rising-weaken, rising-append}
use Rattle.lists.specs.Keep.{keep, keep_append}
use Rattle.rules.specs.declared.Settings.{Settings}
use Rattle.rules.specs.View.{Condition, normal, fetching, completed, suspended, WindowView, PlayerView}
use Rattle.rules.specs.Shape.{catch_up_fits}
use Rattle.rules.specs.Window.{is_suspended, read_at, gets_tick}
use Rattle.rules.specs.Rules.{sent_for}
use Rattle.rules.proofs.Offers.{is_empty-nil, shaped, Ticked, ticked, ticked-same, sent_for-is_own, sent_for-index}
use Rattle.delivery.specs.World.{Sent, Side, World, side_at, numbers_in, player_in, Step, run}
use Rattle.delivery.specs.Statement.{first_start, first_world}
use Rattle.delivery.proofs.Invariant.{line_entries, Whole, LineHas, whole, nothing, QueuesOf, Inv, Reached, last_of}
use Rattle.delivery.proofs.Lines.{line-here}
use Rattle.delivery.proofs.Queued.{holds-append, first-append}
use Rattle.delivery.proofs.KeepMain.{keep-read, tick-other}
use Rattle.delivery.proofs.Worlds.{window-in, windows-in}
use Rattle.delivery.proofs.Reach.{spaced-in, reached-run, run-count}
use Rattle.delivery.proofs.Demand3.{opened-reached, opened-count}

-- ------------------------------------------------------------------------
-- The statement

-- what is queued for a window, in the order in which it goes out
abbrev pub queued_at : WindowView → List ℕ
queued_at v = v.catch_queue ++ v.normal_queue

-- What is due of what was read: all after sent; while fetching, up to next - 1 and again after the end; nothing of a Suspended window.
abbrev pub due_at : List Entry → (current w : ℕ) → WindowView → Condition → List ℕ
due_at j current w v normal = due j w v.sent current
due_at j current w v (fetching next end) = due j w v.sent (next - 1) ++ due j w end current
due_at j current w v (completed end) = due j w v.sent current
due_at j current w v suspended = []

-- What is queued, with a tick or without, rises; a tick stands only at its front, in the catch-up queue too once a full normal queue was
-- moved there, so there are never two; without it, what is queued is what is due.
pub record Queueing (j : List Entry) (current w : ℕ) (v : WindowView) (s : Condition) : Type 0 where
  pub rises : Rising v.sent (queued_at v) current
  pub front : all (is_for j w) (drop 1 (queued_at v)) ≡ true
  pub others : keep (is_for j w) (queued_at v) ≡ due_at j current w v s

-- Where Main has a tick for a window, `current` is then i, which is not the index of one of its own; nothing is queued or on the line, and
-- all that was ever sent is taken and acknowledged. So no tick comes while another is queued or unacknowledged.
pub record Alone (j : List Entry) (i w : ℕ) (p : Side) : Type 0 where
  pub other : is_for j w i ≡ false
  pub queued : queued_at p.view ≡ []
  pub line : p.line ≡ []
  pub acknowledged : p.view.acked ≡ p.view.sent
  pub last : p.record'.last.0 ≡ p.view.sent

-- what a window has taken, and what is on its line after that
abbrev pub gone_out : Side → List Placed
gone_out p = p.taken ++ map (λ s. s.placed) p.line

-- These, at window w in a world. Of all that went out to the window, item by item, it is the window's own exactly where the journal's entry
-- at its index is: the index of a tick is never that of one of the window's own.
pub record TickLaws (w : ℕ) (wd : World) : Type 0 where
  pub queueing : Queueing wd.journal wd.current w (side_at w wd).view (side_at w wd).view.condition
  pub alone : let i : ℕ = suc wd.current in
      gets_tick wd.spacing i (read_at wd.journal w i (side_at w wd).view) ≡ true → Alone wd.journal i w (side_at w wd)
  pub apart : map (is_own w) (gone_out (side_at w wd)) ≡ map (λ x. is_for wd.journal w x.index) (gone_out (side_at w wd))

-- ------------------------------------------------------------------------
-- What is queued

module _ (j : List Entry) (c w : ℕ) (v : WindowView) where
  queueing-in : (s : Condition) → QueuesOf j c w v s → catch_up_fits s v.catch_queue ≡ true → Queueing j c w v s
  unfolding all keep
  queueing-in normal is none =
      let e : queued_at v ≡ v.normal_queue = ap (λ q. q ++ v.normal_queue) (is_empty-nil v.catch_queue none) in
      record { rises = rw e is.normal_has.rises; front = rw e is.tick_first.own; others = rw e is.normal_has.own }
  queueing-in (fetching next end) is none = record {
    rises =
        rising-append v.sent (next - 1) c v.catch_queue v.normal_queue (omega (arith, is.behind))
        (omega (arith, is.order, is.read)) is.catch_has.rises
        (rising-weaken (next - 1) end c v.normal_queue (omega (arith, is.order)) is.normal_has.rises);
    front = (first-append is.tick_first is.no_tick).own;
    others = keep_append (is_for j w) v.catch_queue v.normal_queue ∙ ap₂ (λ l r. l ++ r) is.catch_has.own is.normal_has.own;
  }
  queueing-in (completed end) is none =
      let has = holds-append is.behind is.read is.catch_has is.normal_has in
      record { rises = has.rises; front = (first-append is.tick_first is.no_tick).own; others = has.own }
  queueing-in suspended is none =
      let e : queued_at v ≡ [] = ap₂ (λ l r. l ++ r) is.catch_is is.normal_is in
      record { rises = rw e tt; front = rw e refl; others = rw e refl }

-- ------------------------------------------------------------------------
-- Where a tick comes

-- where all that was sent is taken, nothing is on the line
line-none : (j : List Entry) (w last sent : ℕ) (line : List Sent) → sent ≤ last → Whole j w last sent line → line ≡ []
line-none j w last sent [] h is = refl
line-none j w last sent (s ∷ line) h is =
    absurd (cons≢nil (is.line_is ∙ ap (map (sent_for j w)) (rising_none last sent is.order h is.has.rises)))

tick-alone : (j : List Entry) (c w e : ℕ) (p : Side) → 1 ≤ e → Inv j c w p → Ticked e (suc c) (read_at j w (suc c) p.view) →
    Alone j (suc c) w p
tick-alone j c w e p some inv t =
    let t' : Ticked e (suc c) p.view = subst (Ticked e (suc c)) (ticked-same j w e (suc c) p.view t) t in
    let here : is_suspended p.view.condition ≡ false = ap is_suspended t'.condition in
    let acked : p.view.acked ≡ p.view.sent
    = ap (last_or p.view.acked) (sym t'.batches) ∙ inv.unacked.newest here in
    let last : last_of p ≡ p.view.sent = omega (arith, inv.unacked.acked_last, inv.flight.last_sent) in
    record {
      other = tick-other (keep-read j c w p inv) some t;
      queued = ap₂ (λ l r. l ++ r) t'.catch_queue t'.normal_queue;
      line = line-none j w (last_of p) p.view.sent p.line (omega arith) (line-here inv.flight.line_is here);
      acknowledged = acked;
      last = last;
    }

-- ------------------------------------------------------------------------
-- What goes out

-- it is sent for some indices
gone-out : {j : List Entry} {c w : ℕ} {p : Side} → Inv j c w p → (xs : List ℕ) × (gone_out p ≡ map (sent_for j w) xs)
gone-out {j} {c} {w} {p} inv = by inv.flight.line_is
  where
    by : LineHas j w (is_suspended p.view.condition) (last_of p) p.view.sent p.line →
        (xs : List ℕ) × (gone_out p ≡ map (sent_for j w) xs)
    by (whole is) = (
      inv.taken.order ++ is.order,
      ap₂ (λ l r. l ++ r) inv.taken.taken_is is.line_is ∙ sym (map-append (sent_for j w) inv.taken.order is.order),
    )
    by (nothing away none) = (
      inv.taken.order,
      ap (λ l. p.taken ++ line_entries l) none ∙ append-nil p.taken ∙ inv.taken.taken_is,
    )

goes-apart : (j : List Entry) (w : ℕ) (xs : List ℕ) →
    map (is_own w) (map (sent_for j w) xs) ≡ map (λ x. is_for j w x.index) (map (sent_for j w) xs)
goes-apart j w [] = refl
goes-apart j w (x ∷ xs) =
    ap₂ (λ b l. b ∷ l) (sent_for-is_own j w x ∙ ap (is_for j w) (sym (sent_for-index j w x))) (goes-apart j w xs)

-- ------------------------------------------------------------------------
-- Every world of a run

tick-laws-in : (w : ℕ) (wd : World) → Reached wd → w < length wd.sides → TickLaws w wd
tick-laws-in w wd r h =
    let p : Side = side_at w wd in
    let inv : Inv wd.journal wd.current w p = r.each w h in
    let fits : catch_up_fits p.view.condition p.view.catch_queue ≡ true
    = subst (λ v. catch_up_fits v.condition v.catch_queue ≡ true) (window-in w wd)
    ((shaped (numbers_in wd) (player_in wd) r.in_shape).windows w (omega (arith, windows-in wd))).catch_up in
    let (xs, out) = gone-out inv in
    record {
      queueing = queueing-in wd.journal wd.current w p.view p.view.condition inv.queues fits;
      alone = λ t. tick-alone wd.journal wd.current w wd.spacing p (spaced-in wd r) inv (ticked _ _ _ t);
      apart = rw out (goes-apart wd.journal w xs);
    }

-- A result to be read: these hold at every window, for whatever demand 3 speaks of
pub tick-laws : (before : PlayerView) (j : List Entry) (count : ℕ) (settings : Settings) (steps : List Step) →
    (first_start before j count settings).answer ≡ 0 → (w : ℕ) → w < count → TickLaws w (run (first_world before j count settings) steps)
tick-laws before j count settings steps done w h =
    let wd : World = first_world before j count settings in
    let reached : Reached wd = opened-reached before j count settings done in
    tick-laws-in w (run wd steps) (reached-run wd steps reached)
    (omega (arith, run-count wd steps reached, opened-count before j count settings done))
