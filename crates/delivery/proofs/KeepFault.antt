-- Drop, Join, Start and an append keep the invariant.
use Rattle.std.specs.Prelude.{ℕ, ◌≤◌, ◌<◌, ◌≡◌, refl, List, [], ◌∷◌, ◌++◌, map, Bool, true, false, cond, length}
use Rattle.std.proofs.Common.{sym, ap, ◌∙◌, ⊎_elim, true≢false, arith, le_refl, lt-ltb, le-ltb, length-append}
use Rattle.std.proofs.lemmas.Bool.{false≢true}
use Rattle.journal.specs.declared.Entry.{Entry}
use Rattle.lists.specs.Cases.{le-or-lt}
use Rattle.lists.specs.Elem.{last_or}
use Rattle.lists.specs.Keep.{map-alike}
use Rattle.rules.specs.declared.Term.{Term}
use Rattle.rules.specs.View.{Condition, normal, fetching, completed, suspended, WindowView}
use Rattle.rules.specs.Window.{is_suspended, dropped, joined, told, silence, started, started_silent, started_by}
use Rattle.rules.specs.Rules.{speaks, said_by, sent_for}
use Rattle.rules.proofs.Offers.{sent_for-append}
use Rattle.delivery.specs.World.{Sent, Side, with_view, cleared}
use Rattle.delivery.proofs.Invariant.{Holds, Taken, LineHas, whole, nothing, Unacknowledged, Queues, QueuesOf, Inv, last_of}
use Rattle.delivery.proofs.Lines.{line-away}
use Rattle.delivery.proofs.Queued.{holds-none, holds-journal, plain-none, first-none, plain-journal, first-journal}

-- ------------------------------------------------------------------------
-- Drop

pub keep-drop : {j : List Entry} {c w : ℕ} {p : Side} → Inv j c w p → Inv j c w (with_view (dropped p.view) p)
keep-drop inv = record {
  taken = inv.taken;
  flight = record {
    last_sent = inv.flight.last_sent;
    sent_in = inv.flight.sent_in;
    line_is = line-away inv.flight.line_is;
    line_terms = inv.flight.line_terms;
  };
  unacked = record {
    acked_last = inv.unacked.acked_last;
    back_terms = inv.unacked.back_terms;
    back_rises = inv.unacked.back_rises;
    batches_rise = tt;
    batches_out = λ x h. absurd (false≢true h);
    no_batches = λ h. refl;
    newest = λ h. absurd (true≢false h);
  };
  queues = record { normal_is = refl; catch_is = refl };
  busy_sent = inv.busy_sent;
}

-- ------------------------------------------------------------------------
-- Join and Start: both ways of the line are empty, and acknowledged and sent are the record's last index; a window silent at Start is away

-- nothing on the line, no ack on the way back, and no batch unacknowledged
unacked-cleared : {away : Bool} {t : Term} {acked last sent : ℕ} {batches : List ℕ} → acked ≤ last → (away ≡ false → acked ≡ sent) →
    batches ≡ [] → Unacknowledged away t acked last sent batches [] []
unacked-cleared {acked = acked} low all none = record {
  acked_last = low;
  back_terms = tt;
  back_rises = tt;
  batches_rise = rw none tt;
  batches_out = λ x h. absurd (false≢true (rw none at h));
  no_batches = λ h. none;
  newest = λ h. ap (last_or acked) none ∙ all h;
}

-- a window that begins anew from what it has taken
begun : {j : List Entry} {c w : ℕ} (p : Side) (v : WindowView) → Taken j w p.record' p.taken → v.acked ≡ last_of p →
    v.sent ≡ last_of p → v.busy ≡ false → v.batches ≡ [] → QueuesOf j c w v v.condition → Inv j c w (cleared (with_view v p))
begun {j} {c} {w} p v taken acked sent free none queues = record {
  taken = taken;
  flight = record {
    last_sent = omega arith;
    sent_in = omega (arith, taken.last_in);
    line_is = whole (record { order = []; has = holds-none (omega arith); line_is = refl });
    line_terms = tt;
  };
  unacked = unacked-cleared (omega arith) (λ h. omega arith) none;
  queues = queues;
  busy_sent = λ h. absurd (true≢false (sym h ∙ free));
}

-- a window that is silent, with nothing on its line
silenced : {j : List Entry} {c w : ℕ} (first : Term) (p : Side) → Taken j w p.record' p.taken →
    Inv j c w (cleared (with_view (started_silent first (length j)) p))
silenced {j} first p taken = record {
  taken = taken;
  flight = record { last_sent = taken.last_in; sent_in = le_refl (length j); line_is = nothing refl refl; line_terms = tt };
  unacked = unacked-cleared (omega arith) (λ h. absurd (true≢false h)) refl;
  queues = record { normal_is = refl; catch_is = refl };
  busy_sent = λ h. absurd (false≢true h);
}

-- a window as Start leaves it: `current` is not above the report of one that speaks
pub keep-start : {j : List Entry} {c w : ℕ} (first : Term) (silent : ℕ) (p : Side) → Taken j w p.record' p.taken →
    (speaks silent w ≡ true → c ≤ last_of p) →
    Inv j c w (cleared (with_view (started_by first (length j) (said_by silent w (last_of p))) p))
keep-start {j} {c} {w} first silent p taken low = by (speaks silent w) low
  where
    by : (b : Bool) → (b ≡ true → c ≤ last_of p) →
        Inv j c w (cleared (with_view (started_by first (length j) (cond b (told (last_of p)) silence)) p))
    by true h =
        begun p (started first (last_of p)) taken refl refl refl refl
        (record { ahead = omega arith; normal_has = holds-none (h refl); tick_first = first-none })
    by false h = silenced first p taken

pub keep_join : {j : List Entry} {c w : ℕ} {p : Side} → Inv j c w p → is_suspended p.view.condition ≡ true →
    Inv j c w (cleared (with_view (joined c (last_of p) p.view) p))
keep_join {j} {c} {w} {p} inv away =
    begun p (joined c (last_of p) p.view) inv.taken refl refl refl (inv.unacked.no_batches away)
    (by p.view.condition away inv.queues)
  where
    by : (s : Condition) → is_suspended s ≡ true → QueuesOf j c w p.view s →
        Queues j c w (last_of p) (last_of p) p.view.normal_queue p.view.catch_queue (joined c (last_of p) p.view).condition
    by normal away' is = absurd (false≢true away')
    by (fetching next end) away' is = absurd (false≢true away')
    by (completed end) away' is = absurd (false≢true away')
    by suspended away' is =
        ⊎_elim
        (λ (h : c ≤ last_of p). simp (le-ltb (last_of p) c h)
        (record { ahead = omega arith; normal_has = rw is.normal_is (holds-none h); tick_first = rw is.normal_is first-none }))
        (λ (h : last_of p < c).
        simp (lt-ltb (last_of p) c h)
        (record {
          behind = omega arith;
          order = omega arith;
          read = le_refl c;
          catch_has = rw is.catch_is (holds-none (omega arith));
          normal_has = rw is.normal_is (holds-none (le_refl c));
          tick_first = rw is.catch_is first-none;
          no_tick = rw is.normal_is plain-none;
        }))
        (le-or-lt c (last_of p))

-- ------------------------------------------------------------------------
-- An append

module _ (j : List Entry) (e : Entry) (w : ℕ) where
  abbrev longer : List Entry
  longer = j ++ (e ∷ [])

  -- what goes out for an index up to the journal's end is the same after an append
  order-append : {a b : ℕ} (xs : List ℕ) → b ≤ length j → Holds j w a b xs → map (sent_for j w) xs ≡ map (sent_for longer w) xs
  order-append {a} {b} xs h has =
      map-alike (sent_for j w) (sent_for longer w) a b xs has.rises (λ x k. sym (sent_for-append j e w x (omega arith)))

  line-append : {away : Bool} {last sent : ℕ} {line : List Sent} → sent ≤ length j → LineHas j w away last sent line →
      LineHas longer w away last sent line
  line-append h (whole on) =
      whole (record { order = on.order; has = holds-journal e h on.has; line_is = on.line_is ∙ order-append on.order h on.has })
  line-append h (nothing gone none) = nothing gone none

  queues-append : (c : ℕ) (v : WindowView) (s : Condition) → c ≤ length j → QueuesOf j c w v s → QueuesOf longer c w v s
  queues-append c v normal h is = record {
    ahead = is.ahead;
    normal_has = holds-journal e h is.normal_has;
    tick_first = first-journal e h is.normal_has is.tick_first;
  }
  queues-append c v (fetching next end) h is = record {
    behind = is.behind;
    order = is.order;
    read = is.read;
    catch_has = holds-journal e (omega (arith, is.order, is.read)) is.catch_has;
    normal_has = holds-journal e h is.normal_has;
    tick_first = first-journal e (omega (arith, is.order, is.read)) is.catch_has is.tick_first;
    no_tick = plain-journal e h is.normal_has is.no_tick;
  }
  queues-append c v (completed end) h is = record {
    behind = is.behind;
    read = is.read;
    some = is.some;
    catch_has = holds-journal e (omega (arith, is.read)) is.catch_has;
    normal_has = holds-journal e h is.normal_has;
    tick_first = first-journal e (omega (arith, is.read)) is.catch_has is.tick_first;
    no_tick = plain-journal e h is.normal_has is.no_tick;
  }
  queues-append c v suspended h is = is

  pub keep_append : {c : ℕ} {p : Side} → c ≤ length j → Inv j c w p → Inv longer c w p
  keep_append {c} {p} h inv = record {
    taken = record {
      last_in = simp length-append (omega (arith, inv.taken.last_in));
      order = inv.taken.order;
      has = holds-journal e inv.taken.last_in inv.taken.has;
      taken_is = inv.taken.taken_is ∙ order-append inv.taken.order inv.taken.last_in inv.taken.has;
      record_is = inv.taken.record_is;
    };
    flight = record {
      last_sent = inv.flight.last_sent;
      sent_in = simp length-append (omega (arith, inv.flight.sent_in));
      line_is = line-append inv.flight.sent_in inv.flight.line_is;
      line_terms = inv.flight.line_terms;
    };
    unacked = inv.unacked;
    queues = queues-append c p.view p.view.condition h inv.queues;
    busy_sent = inv.busy_sent;
  }
