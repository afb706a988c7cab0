-- Catch keeps the invariant of its window: what is fetched joins the catch-up queue, and past the end the two queues meet.
use Rattle.std.specs.Prelude.{ℕ, ◌+◌, ◌≤◌, ◌<◌, ◌≡◌, refl, List, [], ◌∷◌, ◌++◌, Bool, true, cond}
use Rattle.std.proofs.Common.{subst, ⊎_elim, arith}
use Rattle.std.proofs.Math.Path.{subst⁻¹}
use Rattle.journal.specs.declared.Entry.{Entry}
use Rattle.journal.specs.Entry.{is_for}
use Rattle.lists.specs.Cases.{le-or-lt}
use Rattle.rules.specs.declared.Term.{Term}
use Rattle.rules.specs.View.{normal, fetching, completed, WindowView}
use Rattle.rules.specs.Shape.{is_empty}
use Rattle.rules.specs.Window.{requeue, fetched}
use Rattle.rules.proofs.Offers.{one_if, fetched-more, fetched-last, Caught, catch_effect}
use Rattle.delivery.specs.World.{Side, with_view}
use Rattle.delivery.proofs.Invariant.{Inv, Holds, TickFirst, FetchingQueues}
use Rattle.delivery.proofs.Queued.{holds-to, holds-next, holds-append, plain-first, first_more, with_queues, with_queues-same, keep-requeue}

-- a window that is Fetching i u, with its queues named, for which the entry at i is appended, b, or is not
module _ (j : List Entry) (c w : ℕ) (p : Side) (n q : List ℕ) (i u : ℕ) (b : Bool) (own : b ≡ true → is_for j w i ≡ true)
    (due : p.view.acked < i → is_for j w i ≡ b) (inv : Inv j c w (with_queues n q (fetching i u) p)) where
  abbrev view : WindowView
  view = requeue n q (fetching i u) p.view

  is : FetchingQueues j c w p.view.sent n q i u
  is = inv.queues

  -- the catch-up queue after the step
  abbrev after : List ℕ
  after = q ++ one_if b i

  after-has : Holds j w p.view.sent i after
  after-has = holds-next i b (due (omega (arith, inv.unacked.acked_last, inv.flight.last_sent, is.behind))) is.behind is.catch_has

  after_first : TickFirst j w after
  after_first = first_more i b own is.tick_first

  abbrev Kept : WindowView → Type 0
  Kept v = Inv j c w (with_view v p)

  more : i < u → Kept (fetched b i u view)
  more h =
      subst⁻¹ Kept (fetched-more b i u view h)
      (keep-requeue n after (fetching (i + 1) u) inv refl
      (record {
        behind = omega (arith, is.behind);
        order = omega arith;
        read = is.read;
        catch_has = holds-to (omega arith) after-has;
        normal_has = is.normal_has;
        tick_first = after_first;
        no_tick = is.no_tick;
      }))

  last : u ≤ i → Kept (fetched b i u view)
  last h = subst⁻¹ Kept (fetched-last b i u view h) (by after (holds-to (omega (arith, is.order)) after-has) after_first)
    where
      by : (q' : List ℕ) → Holds j w p.view.sent u q' → TickFirst j w q' →
          Kept (requeue n q' (cond (is_empty q') normal (completed u)) p.view)
      by [] has first =
          keep-requeue n [] normal inv refl
          (record {
            ahead = omega (arith, is.behind, is.order, is.read);
            normal_has = holds-append (omega (arith, is.behind, is.order)) is.read has is.normal_has;
            tick_first = plain-first is.no_tick;
          })
      by (x ∷ q') has first =
          keep-requeue n (x ∷ q') (completed u) inv refl
          (record {
            behind = omega (arith, is.behind, is.order);
            read = is.read;
            some = refl;
            catch_has = has;
            normal_has = is.normal_has;
            tick_first = first;
            no_tick = is.no_tick;
          })

  keep-fetched : Kept (fetched b i u view)
  keep-fetched = ⊎_elim last more (le-or-lt u i)

pub keep-catch : {j : List Entry} {c w : ℕ} {p : Side} → Inv j c w p → (t : Term) (i : ℕ) (caught : Caught j w t i p.view) →
    Inv j c w (with_view ((catch_effect w t i).makes j p.view caught) p)
keep-catch {j} {c} {w} {p} inv t i d =
    let e = with_queues-same p (fetching i d.upto) d.was in
    subst⁻¹ (λ x. Inv j c w (with_view (fetched d.appends i d.upto x.view) x)) e
    (keep-fetched j c w p p.view.normal_queue p.view.catch_queue i d.upto d.appends d.own d.due (subst (Inv j c w) e inv))
