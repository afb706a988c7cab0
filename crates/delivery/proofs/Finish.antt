-- When none can and all windows are joined, every window has taken all of its own entries.
use Rattle.std.specs.Prelude.{ℕ, zero, suc, ◌+◌, ◌*◌, ◌-◌, ◌≤◌, ◌<◌, ◌≡◌, true, false, take, replicate}
use Rattle.std.proofs.Math.Path.{refl, sym, ap, subst⁻¹}
use Rattle.std.proofs.Common.{ap₂, ◌∙◌, true≢false, arith}
use Rattle.std.proofs.Math.Logic.{⊎_elim}
use mathlib.Core.List.{List, [], ◌∷◌, ◌++◌, map, append-nil}
use Rattle.std.proofs.lemmas.Bool.{false≢true}
use Rattle.std.proofs.Math.ListN.{length}
use Rattle.std.proofs.lemmas.List.{length-replicate}
use Rattle.lists.specs.Cases.{true-or-false, le-or-lt}
use Rattle.lists.specs.Keep.{keep}
use Rattle.journal.specs.declared.Entry.{Entry}
use Rattle.journal.specs.Entry.{placed_at, is_for}
use Rattle.journal.specs.Due.{due, due-split}
use Rattle.journal.specs.Own.{own, own_of, own-due}
use Rattle.rules.specs.View.{Condition, normal, fetching, completed, suspended, WindowView}
use Rattle.rules.specs.Shape.{is_empty}
use Rattle.rules.proofs.Offers.{shaped, batch_of-normal, batch_of-fetching, batch_of-more, batch_of-all, is_empty-some, main_rule-can, catch_rule-can, send_rule-can, written_rule-can, ack_rule-can}
use Rattle.rules.specs.Window.{is_suspended, requeue, batch_of}
use Rattle.rules.specs.Rules.{window_at, ack_rule, sent_for}
use Rattle.delivery.specs.World.{Sent, Ack, Side, World, side_at, numbers_in, player_in, Step, main, catch, written, send, ack, step}
use Rattle.delivery.specs.World as W
use Rattle.delivery.proofs.SameLaws.{seen, WorldIs, same_world-equal}
use Rattle.delivery.specs.Sorts.{sort_of, is_work}
use Rattle.delivery.specs.Statement.{NoneCan}
use Rattle.delivery.proofs.Invariant.{Whole, Queues, Inv, Reached, last_of, line_entries}
use Rattle.delivery.proofs.Lines.{line-here, unacked-none}
use Rattle.delivery.proofs.Queued.{is_empty-append}
use Rattle.delivery.proofs.KeepLine.{taken_own}
use Rattle.delivery.proofs.Measure.{view_work, side_work, worked-lowers}
use Rattle.delivery.proofs.Worlds.{count-in, window-in, windows-in, with_side-here}
use Rattle.delivery.proofs.Effects.{WorksAt}
use Rattle.delivery.proofs.Stepped.{catch-works, written-works}
use Rattle.delivery.proofs.SteppedLine.{send-works, ack-works, take-works}
use Rattle.delivery.proofs.SteppedAll.{main-moves}
use Rattle.delivery.proofs.Reach.{read-in, few-in}

-- ------------------------------------------------------------------------
-- A window for which nothing is ready and no index can be fetched: nothing is due after sent

take-nil : (k : ℕ) (q : List ℕ) → 1 ≤ k → is_empty (take k q) ≡ true → q ≡ []
take-nil zero q k e = absurd (omega arith)
take-nil (suc n) [] k e = refl
take-nil (suc n) (x ∷ q) k e = absurd (false≢true e)

module _ (j : List Entry) (c w acked sent limit : ℕ) (some : 1 ≤ limit) (v : WindowView) where
  none-due : (n q : List ℕ) (s : Condition) → Queues j c w acked sent n q s → is_suspended s ≡ false →
      is_empty (batch_of limit (requeue n q s v)).indices ≡ true → ((next end : ℕ) → s ≡ fetching next end → q ≡ [] → ⊥) →
      due j w sent c ≡ []
  unfolding keep
  none-due n q normal is here none stuck =
      sym is.normal_has.own
      ∙ ap (keep (is_for j w)) (take-nil limit n some (sym (ap (λ b. is_empty b.indices) (batch_of-normal v limit n q)) ∙ none))
  none-due n q (fetching next end) is here none stuck =
      let law = batch_of-fetching v limit next end n q in
      absurd (stuck next end refl (take-nil limit q some (sym (ap (λ b. is_empty b.indices) law) ∙ none)))
  none-due n q (completed end) is here none stuck =
      ⊎_elim
      (λ (all : length q ≤ limit).
      let law = batch_of-all v limit end n q (is_empty-some q is.some) all in
      absurd (false≢true (sym (ap (λ b. is_empty b.indices) law ∙ is_empty-append q _ is.some) ∙ none)))
      (λ (more : limit < length q).
      let law = batch_of-more v limit end n q more in
      let nil : q ≡ [] = take-nil limit q some (sym (ap (λ b. is_empty b.indices) law) ∙ none) in
      absurd (true≢false (sym (ap is_empty nil) ∙ is.some)))
      (le-or-lt (length q) limit)
  none-due n q suspended is here none stuck = absurd (true≢false here)

map-nil : (j : List Entry) (w : ℕ) (xs : List ℕ) → [] ≡ map (sent_for j w) xs → xs ≡ []
map-nil j w [] e = refl
map-nil j w (x ∷ xs) e = absurd (let z : ◌≡◌ {A = ℕ} 0 1 = cc in omega arith)

-- a window, not Suspended, that has all on the line taken, and nothing due after sent, has taken all
taken-whole : {j : List Entry} {c w : ℕ} {p : Side} → Inv j c w p → is_suspended p.view.condition ≡ false → p.line ≡ [] →
    due j w p.view.sent (length j) ≡ [] → own_of w p.taken ≡ own j w
unfolding keep
taken-whole {j} {c} {w} {p} inv here line queued =
    let on : Whole j w (last_of p) p.view.sent p.line = line-here inv.flight.line_is here in
    let on_line : due j w (last_of p) p.view.sent ≡ []
    = sym on.has.own ∙ ap (keep (is_for j w)) (map-nil j w on.order (sym (ap line_entries line) ∙ on.line_is)) in
    let split : due j w 0 (length j) ≡ due j w 0 (last_of p)
    = due-split j w 0 (last_of p) (length j) (omega arith) inv.taken.last_in
    ∙ ap (λ l. due j w 0 (last_of p) ++ l)
    (due-split j w (last_of p) p.view.sent (length j) inv.flight.last_sent inv.flight.sent_in ∙ ap₂ (λ a b. a ++ b) on_line queued)
    ∙ append-nil (due j w 0 (last_of p)) in
    taken_own inv.taken ∙ ap (map (placed_at j)) (sym split) ∙ sym (own-due j w)

-- ------------------------------------------------------------------------
-- A world in which none can

module _ (wd : World) (r : Reached wd) (none : NoneCan wd) where
  -- all of the journal is read
  pub all_read : wd.current ≡ length wd.journal
  all_read =
      ⊎_elim (λ (h : length wd.journal ≤ wd.current). omega (arith, read-in wd r))
      (λ (h : wd.current < length wd.journal).
      let e = main_rule-can (numbers_in wd) (player_in wd) r.in_shape (omega (arith, count-in wd)) in
      let m = main-moves wd r.in_shape (wd.current + 1) e in
      let same : WorldIs wd (step (main (wd.current + 1)) wd).world = same_world-equal wd _ (none (main (wd.current + 1)) refl) in
      absurd (omega (arith, m.current, same.current)))
      (le-or-lt (length wd.journal) wd.current)

  -- no window has work to do
  no-work : (w : ℕ) (s : Step) → is_work (sort_of s) ≡ true → WorksAt s wd w → ⊥
  no-work w s is k =
      let l : ℕ = length wd.journal in
      let same : seen (side_at w wd) ≡ seen (side_at w (step s wd).world) = (same_world-equal wd (step s wd).world (none s is)).sides w in
      let here : side_at w (step s wd).world ≡ k.after = ap (side_at w) k.world ∙ with_side-here w k.after wd k.within in
      let equal : side_work l wd.current (side_at w wd) ≡ side_work l wd.current k.after
      = ap (λ x. view_work l wd.current x.0 + (l - x.1.0.last.0)) same ∙ ap (side_work l wd.current) here in
      omega (arith, worked-lowers (r.each w k.within) (read-in wd r) wd.limit k.after (few-in wd r) k.work)

  module _ (w : ℕ) (h : w < length wd.sides) (here : is_suspended (side_at w wd).view.condition ≡ false) where
    abbrev v : WindowView
    v = (side_at w wd).view

    -- what holds of the world's window holds of the player's
    in-player : (P : WindowView → Type 0) → P (side_at w wd).view → P (window_at w (player_in wd))
    in-player P = subst⁻¹ P (window-in w wd)

    within : w < length (player_in wd).windows
    within = omega (arith, windows-in wd)

    here' : is_suspended (window_at w (player_in wd)).condition ≡ false
    here' = in-player (λ x. is_suspended x.condition ≡ false) here

    line-free : (side_at w wd).view.busy ≡ false
    line-free =
        ⊎_elim
        (λ (b : v.busy ≡ true).
        absurd (no-work w (written w (window_at w (player_in wd)).term) refl
        (written-works wd r.in_shape w _
        (written_rule-can (numbers_in wd) w (player_in wd) r.in_shape within here' (in-player (λ x. x.busy ≡ true) b)))))
        (λ (b : v.busy ≡ false). b)
        (true-or-false v.busy)

    line-empty : (l : List Sent) → (side_at w wd).line ≡ l → l ≡ []
    line-empty [] e = refl
    line-empty (s ∷ rest) e = absurd (no-work w (W.take w false) refl (take-works wd r.in_shape w false s rest h e))

    back-empty : (b : List Ack) → (side_at w wd).back ≡ b → b ≡ []
    back-empty [] e = refl
    back-empty (a ∷ rest) e =
        let un = rw e at (r.each w h).unacked in
        let i : ℕ = a.index in
        let most : i ≤ v.sent = omega (arith, un.back_rises.1, (r.each w h).flight.last_sent) in
        let term : a.term ≡ (window_at w (player_in wd)).term = un.back_terms.0 ∙ ap (λ x. x.term) (sym (window-in w wd)) in
        absurd (no-work w (ack w) refl
        (ack-works wd r.in_shape w a rest h e
        (subst⁻¹ (λ t. (ack_rule (numbers_in wd) w t i (player_in wd)).answer ≡ 0) term
        (ack_rule-can (numbers_in wd) w (player_in wd) r.in_shape within i here' (in-player (λ x. x.acked < i) un.back_rises.0)
        (in-player (λ x. i ≤ x.sent) most)))))

    -- no batch is unacknowledged
    none_out : (side_at w wd).view.batches ≡ []
    none_out = unacked-none (rw (back-empty (side_at w wd).back refl, line-empty (side_at w wd).line refl) at (r.each w h).unacked)

    -- nothing is ready
    none-ready : is_empty (batch_of wd.limit (side_at w wd).view).indices ≡ true
    none-ready =
        ⊎_elim (λ (e : is_empty (batch_of wd.limit v).indices ≡ true). e)
        (λ (e : is_empty (batch_of wd.limit v).indices ≡ false).
        let out : List ℕ = replicate (5 * wd.limit) 0 in
        absurd (no-work w (send w out) refl
        (send-works wd r.in_shape w out
        (send_rule-can (numbers_in wd) w (player_in wd) r.in_shape within (length out) here' (in-player (λ x. x.busy ≡ false) line-free)
        (in-player (λ x. length x.batches < 8) (rw none_out (omega arith))) (omega (arith, length-replicate {A = ℕ} (5 * wd.limit) 0))
        (in-player (λ x. is_empty (batch_of wd.limit x).indices ≡ false) e)))))
        (true-or-false (is_empty (batch_of wd.limit v).indices))

    -- no index is to be fetched with nothing in the catch-up queue
    none-fetched : (next end : ℕ) → (side_at w wd).view.condition ≡ fetching next end → (side_at w wd).view.catch_queue ≡ [] → ⊥
    none-fetched next end e q =
        no-work w (catch w (window_at w (player_in wd)).term next) refl
        (catch-works wd r.in_shape w _ next
        (catch_rule-can (numbers_in wd) w (player_in wd) r.in_shape within next end (in-player (λ x. x.condition ≡ fetching next end) e)
        (in-player (λ x. length x.catch_queue < 128) (rw q (omega arith)))))

    pub taken-all : own_of w (side_at w wd).taken ≡ own wd.journal w
    taken-all =
        let limit = (shaped (numbers_in wd) (player_in wd) r.in_shape).limit_some in
        taken-whole (r.each w h) here (line-empty (side_at w wd).line refl)
        (rw (← all_read)
        (none-due wd.journal wd.current w v.acked v.sent wd.limit limit v v.normal_queue v.catch_queue v.condition
        (r.each w h).queues here none-ready none-fetched))
