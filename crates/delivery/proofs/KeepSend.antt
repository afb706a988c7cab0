-- Send keeps the invariant of its window: what leaves the queues in front is on the line behind, and sent is where the cut is.
use Rattle.std.specs.Prelude.{ℕ, ◌-◌, ◌≤◌, ◌<◌, ◌≡◌, refl, List, [], ◌∷◌, ◌++◌, false, length, take, drop}
use Rattle.std.proofs.Common.{sym, ap₂, ◌∙◌, ⊎_elim, append_assoc, true≢false, arith, le_refl, take-append-drop}
use Rattle.std.proofs.Math.Path.{subst⁻¹}
use Rattle.std.proofs.lemmas.List.{map-append}
use Rattle.journal.specs.declared.Entry.{Entry}
use Rattle.lists.specs.Cases.{le-or-lt}
use Rattle.lists.specs.Elem.{last_or, last_or-append, elem-grown}
use Rattle.lists.specs.Rising.{rising-append}
use Rattle.rules.specs.declared.Term.{Term}
use Rattle.rules.specs.View.{Condition, normal, fetching, completed, suspended}
use Rattle.rules.specs.Shape.{is_empty}
use Rattle.rules.specs.Window.{is_suspended, requeue, Batch, batch_of, launched}
use Rattle.rules.specs.Rules.{sent_for}
use Rattle.rules.proofs.Offers.{is_empty-some, is_empty-drop, batch_of-normal, batch_of-fetching, batch_of-more, batch_of-all, launched-is, SentOut}
use Rattle.delivery.specs.World.{Sent, Ack, Side, with_view, with_lines, on_line}
use Rattle.delivery.proofs.Invariant.{last_of, Whole, whole, Unacknowledged, Holds, Queues, Inv, back_indices, ends_of}
use Rattle.delivery.proofs.Lines.{line_terms-append, ends_of-append, on_line-entries, on_line-terms, on_line-ends, line-here}
use Rattle.delivery.proofs.Queued.{HoldsCut, holds-append, holds-cut, plain-drop, plain-first, first-drop, with_queues}

-- the side after a batch: the window as Send leaves it, and the batch on the line
abbrev pub launched_side : List Entry → ℕ → Batch → Side → Side
launched_side j w b p = with_lines (p.line ++ on_line j w p.view.term b.indices) p.back (with_view (launched b) p)

-- Send keeps the invariant, and it sends something
pub record Launched (j : List Entry) (c w : ℕ) (b : Batch) (p : Side) : Type 0 where
  pub inv : Inv j c w (launched_side j w b p)
  pub up : p.view.sent < last_or 0 b.indices

-- ------------------------------------------------------------------------
-- The line and the unacknowledged batches, each with one batch more

line-more : {j : List Entry} {w last sent l : ℕ} (t : Term) (line : List Sent) (xs : List ℕ) → Whole j w last sent line →
    Holds j w sent l xs → last ≤ sent → sent ≤ l → Whole j w last l (line ++ on_line j w t xs)
line-more {j} {w} t line xs on has low h = record {
  order = on.order ++ xs;
  has = holds-append low h on.has has;
  line_is =
      map-append (λ s. s.placed) line (on_line j w t xs)
      ∙ ap₂ (λ a b. a ++ b) on.line_is (on_line-entries j w t xs)
      ∙ sym (map-append (sent_for j w) on.order xs);
}

unacked-more : {t : Term} {acked last sent : ℕ} {batches : List ℕ} {line : List Sent} {back : List Ack} (j : List Entry) (w : ℕ)
    (xs : List ℕ) → is_empty xs ≡ false → last ≤ sent → sent < last_or 0 xs → Unacknowledged false t acked last sent batches line back →
    Unacknowledged false t acked last (last_or 0 xs) (batches ++ (last_or 0 xs ∷ [])) (line ++ on_line j w t xs) back
unacked-more {t} {acked} {last} {sent} {batches} {line} {back} j w xs some low up un =
    let l : ℕ = last_or 0 xs in
    record {
      acked_last = un.acked_last;
      back_terms = un.back_terms;
      back_rises = un.back_rises;
      batches_rise =
          rising-append acked sent l batches (l ∷ []) (omega (arith, un.acked_last)) (omega arith) un.batches_rise (up, le_refl l, tt);
      batches_out = λ x h.
          rw (
            ends_of-append line (on_line j w t xs),
            on_line-ends j w t xs some,
            ← append_assoc (back_indices back) (ends_of line) (l ∷ []),
          ) (elem-grown x batches (back_indices back ++ ends_of line) (l ∷ []) (un.batches_out x) h);
      no_batches = λ h. absurd (true≢false (sym h));
      newest = λ h. last_or-append acked batches (l ∷ []);
    }

-- ------------------------------------------------------------------------
-- Send

module _ (j : List Entry) (c w : ℕ) (read : c ≤ length j) where
  -- a batch that is the first part of what is due up to b, with queues that have what is due after it
  launch : {p : Side} (b : ℕ) (xs ys n q : List ℕ) (s : Condition) → Inv j c w p → is_suspended p.view.condition ≡ false →
      is_suspended s ≡ false → b ≤ c → is_empty xs ≡ false → Holds j w p.view.sent b (xs ++ ys) →
      (HoldsCut j w p.view.sent b xs ys → Queues j c w p.view.acked (last_or 0 xs) n q s) →
      Launched j c w (record { indices = xs; rest = requeue n q s p.view }) p
  launch {p} b xs ys n q s inv here here' k some has queues =
      let cut : HoldsCut j w p.view.sent b xs ys = holds-cut xs some has in
      let flight = inv.flight in
      let more : Whole j w (last_of p) (last_or 0 xs) (p.line ++ on_line j w p.view.term xs)
      = line-more p.view.term p.line xs (line-here flight.line_is here) cut.before flight.last_sent
      (omega (arith, cut.up)) in
      record {
        up = cut.up;
        inv =
            subst⁻¹ (λ v. Inv j c w (with_lines (p.line ++ on_line j w p.view.term xs) p.back (with_view v p)))
            (launched-is xs (requeue n q s p.view))
            (record {
              taken = inv.taken;
              flight = record {
                last_sent = omega (arith, flight.last_sent, cut.up);
                sent_in = omega (arith, cut.within);
                line_is = whole more;
                line_terms = line_terms-append p.view.term p.line _ flight.line_terms (on_line-terms j w p.view.term xs);
              };
              unacked = rw here' (unacked-more j w xs some flight.last_sent cut.up (rw here at inv.unacked));
              queues = queues cut;
              busy_sent = λ h. omega (arith, cut.up);
            });
      }

  by-law : {p : Side} {b b' : Batch} → b ≡ b' → (is_empty b'.indices ≡ false → Launched j c w b' p) → is_empty b.indices ≡ false →
      Launched j c w b p
  by-law {p} law = subst⁻¹ (λ x. is_empty x.indices ≡ false → Launched j c w x p) law

  -- the first k of a queue, and the others
  parted : {a b : ℕ} (k : ℕ) (q : List ℕ) → Holds j w a b q → Holds j w a b (take k q ++ drop k q)
  parted k q has = rw (take-append-drop k q) has

  keep-in : (p : Side) (limit : ℕ) (n q : List ℕ) (s : Condition) → Inv j c w (with_queues n q s p) → is_suspended s ≡ false →
      is_empty (batch_of limit (requeue n q s p.view)).indices ≡ false →
      Launched j c w (batch_of limit (requeue n q s p.view)) (with_queues n q s p)
  keep-in p limit n q normal inv here =
      by-law (batch_of-normal p.view limit n q)
      (λ some.
      launch c (take limit n) (drop limit n) (drop limit n) q normal inv refl refl (le_refl c) some
      (parted limit n inv.queues.normal_has)
      (λ cut. record { ahead = omega (arith, cut.within); normal_has = cut.after; tick_first = first-drop limit inv.queues.tick_first }))
  keep-in p limit n q (fetching next end) inv here =
      let is = inv.queues in
      by-law (batch_of-fetching p.view limit next end n q)
      (λ some.
      launch (next - 1) (take limit q) (drop limit q) n (drop limit q) (fetching next end) inv refl refl
      (omega (arith, is.order, is.read)) some (parted limit q is.catch_has)
      (λ cut. record {
        behind = omega (arith, cut.within, is.behind);
        order = is.order;
        read = is.read;
        catch_has = cut.after;
        normal_has = is.normal_has;
        tick_first = first-drop limit is.tick_first;
        no_tick = is.no_tick;
      }))
  keep-in p limit n q (completed end) inv here =
      let is = inv.queues in
      ⊎_elim
      (λ (all : length q ≤ limit).
      let m : ℕ = limit - length q in
      by-law (batch_of-all p.view limit end n q (is_empty-some q is.some) all)
      (λ some.
      launch c (q ++ take m n) (drop m n) (drop m n) [] normal inv refl refl (le_refl c) some
      (rw append_assoc (holds-append is.behind is.read is.catch_has (parted m n is.normal_has)))
      (λ cut. record { ahead = omega (arith, cut.within); normal_has = cut.after; tick_first = plain-first (plain-drop m is.no_tick) })))
      (λ (more : limit < length q).
      by-law (batch_of-more p.view limit end n q more)
      (λ some.
      launch end (take limit q) (drop limit q) n (drop limit q) (completed end) inv refl refl is.read some
      (parted limit q is.catch_has)
      (λ cut. record {
        behind = cut.within;
        read = is.read;
        some = is_empty-drop limit q more;
        catch_has = cut.after;
        normal_has = is.normal_has;
        tick_first = first-drop limit is.tick_first;
        no_tick = is.no_tick;
      })))
      (le-or-lt (length q) limit)
  keep-in p limit n q suspended inv here = absurd (true≢false here)

  pub keep-send : (p : Side) → Inv j c w p → (limit size : ℕ) → SentOut limit size p.view → Launched j c w (batch_of limit p.view) p
  keep-send p inv limit size out =
      keep-in p limit p.view.normal_queue p.view.catch_queue p.view.condition inv out.here out.some
