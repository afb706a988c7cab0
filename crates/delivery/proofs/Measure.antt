-- A number that falls with every piece of work, and how large it can be. It speaks of indices and of no list.
use Rattle.std.specs.Prelude.{ℕ, suc, ◌+◌, ◌-◌, ◌≤◌, ◌<◌, ◌≡◌, Bool, true, false, cond, length}
use Rattle.std.proofs.Math.Path.{ap}
use Rattle.std.proofs.Common.{⊎_elim, arith}
use mathlib.Core.List.{List, ◌∷◌, ◌++◌}
use Rattle.journal.specs.declared.Entry.{Entry}
use Rattle.lists.specs.Cases.{le-or-lt}
use Rattle.lists.specs.Rising.{Rising}
use Rattle.lists.specs.Elem.{last_or}
use Rattle.rules.specs.View.{Condition, normal, fetching, completed, suspended, WindowView}
use Rattle.rules.specs.Shape.{is_empty}
use Rattle.rules.specs.Window.{requeue, main_at, fetched, batch_of, launched, Batch}
use Rattle.rules.proofs.Offers.{ConditionAfter, same, emptied, batch_of-condition, batch_of-untouched, one_if, main_at-either, fetched-more, fetched-last, launched-is}
use Rattle.delivery.specs.World.{Sent, Side, with_view, take_front, Step, Reply}
use Rattle.delivery.proofs.Invariant.{FetchingQueues, Inv, last_of, back_indices}
use Rattle.delivery.proofs.Queued.{queues-in}
use Rattle.delivery.proofs.KeepSend.{Launched, keep-send}
use Rattle.delivery.proofs.KeepLine.{Front, front, take_last}
use Rattle.delivery.proofs.Effects.{Worked, caught, sent, written, took, acked}

-- how far the main stream, or the fetching in its place, is from the journal's end l
abbrev pub ahead : ℕ → ℕ → Condition → ℕ
ahead l c normal = l - c
ahead l c (fetching n e) = l - n + 1
ahead l c (completed e) = l - e
ahead l c suspended = l - c

abbrev pub busy_of : Bool → ℕ
busy_of true = 1
busy_of false = 0

-- the work left at one window
abbrev pub view_work : ℕ → ℕ → WindowView → ℕ
view_work l c v = ahead l c v.condition + (l - v.sent) + (l - v.sent + busy_of v.busy) + (l - v.acked)

abbrev pub side_work : ℕ → ℕ → Side → ℕ
side_work l c p = view_work l c p.view + (l - last_of p)

-- ------------------------------------------------------------------------
-- Main does not raise it

pub main-work : (j : List Entry) (l c w e : ℕ) (p : Side) → Inv j c w p → c < l → length j ≡ l →
    side_work l (suc c) (with_view (main_at j w e (suc c) p.view) p) ≤ side_work l c p
main-work j l c w e p inv h len = omega (arith, by)
  where
    still : (s : Condition) → ahead l (suc c) s ≤ ahead l c s
    still normal = omega arith
    still (fetching n end) = omega arith
    still (completed end) = omega arith
    still suspended = omega arith

    by : view_work l (suc c) (main_at j w e (suc c) p.view) ≤ view_work l c p.view
    by =
        main_at-either j w e (suc c) p.view (λ v. view_work l (suc c) v ≤ view_work l c p.view)
        (omega (arith, still p.view.condition))
        (λ here. omega (arith, still p.view.condition))
        (λ is. omega (arith, ap (ahead l c) is))
        (λ n end is. omega (arith, ap (ahead l c) is))
        (λ end is. omega (arith, ap (ahead l c) is, (queues-in inv (completed end) is).read))
        (λ t. omega (arith, ap (ahead l c) t.condition))

-- ------------------------------------------------------------------------
-- each piece of work lowers it

module _ {j : List Entry} {c w : ℕ} {p : Side} (inv : Inv j c w p) (read : c ≤ length j) where
  caught-work : (i upto : ℕ) (b : Bool) → p.view.condition ≡ fetching i upto →
      view_work (length j) c (fetched b i upto p.view) < view_work (length j) c p.view
  caught-work i upto b e =
      ⊎_elim
      (λ (h : upto ≤ i). rw (fetched-last b i upto p.view h) (past h (is_empty (p.view.catch_queue ++ one_if b i))))
      (λ (h : i < upto). rw (fetched-more b i upto p.view h) (omega (arith, was, is.order, is.read)))
      (le-or-lt upto i)
    where
      is : FetchingQueues j c w p.view.sent p.view.normal_queue p.view.catch_queue i upto
      is = queues-in inv (fetching i upto) e

      was : ahead (length j) c p.view.condition ≡ length j - i + 1
      was = ap (ahead (length j) c) e

      past : upto ≤ i → (t : Bool) →
          view_work (length j) c
          (requeue p.view.normal_queue (p.view.catch_queue ++ one_if b i) (cond t normal (completed upto)) p.view)
          < view_work (length j) c p.view
      past h true = omega (arith, was, is.order, is.read)
      past h false = omega (arith, was, is.order, is.read)

  sent-ahead : (s : Condition) → ConditionAfter p.view.condition s → ahead (length j) c s ≤ ahead (length j) c p.view.condition
  sent-ahead s (same e) = omega (arith, ap (ahead (length j) c) e)
  sent-ahead s (emptied end e n) =
      omega (arith, ap (ahead (length j) c) n, ap (ahead (length j) c) e, (queues-in inv (completed end) e).read)

  sent-work : (limit : ℕ) → Launched j c w (batch_of limit p.view) p →
      view_work (length j) c (launched (batch_of limit p.view)) < view_work (length j) c p.view
  sent-work limit out =
      let b : Batch = batch_of limit p.view in
      let is = launched-is b.indices b.rest in
      let top : last_or 0 b.indices ≤ length j = rw is at out.inv.flight.sent_in in
      let ahead = sent-ahead b.rest.condition (batch_of-condition limit p.view) in
      rw is (omega (arith, out.up, (batch_of-untouched limit p.view).acked))

  pub worked-lowers : {s : Step} {reply : Reply} (limit : ℕ) (p' : Side) → length j ≤ 65535 → Worked j limit w s reply p p' →
      side_work (length j) c p' < side_work (length j) c p
  unfolding take_front
  worked-lowers limit p' few (caught k) =
      rw k.side (omega (arith, caught-work k.index k.tells.upto k.tells.appends k.tells.was))
  worked-lowers limit p' few (sent k) =
      rw k.side (omega (arith, sent-work limit (keep-send j c w read p inv limit (length k.out) k.tells)))
  worked-lowers limit p' few (written k) = rw k.side (omega (arith, ap busy_of k.tells.was))
  worked-lowers limit p' few (took k) =
      let s : Sent = k.entry in
      let rest : List Sent = k.rest in
      let f : Front j w (last_of p) p.view.sent s rest = front (rw k.front at inv.flight) in
      rw k.side (omega (arith, take_last inv few k.acks s rest, f.above, f.within, inv.flight.sent_in))
  worked-lowers limit p' few (acked k) =
      let rises : Rising p.view.acked (back_indices (k.offer ∷ k.rest)) (last_of p) = rw k.front at inv.unacked.back_rises in
      rw k.side (omega (arith, rises.0, rises.1, inv.flight.last_sent, inv.flight.sent_in))
