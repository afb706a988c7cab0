-- Written, Ack and Take keep the invariant of their window.
use Rattle.std.specs.Prelude.{ℕ, ◌≤◌, ◌<◌, ◌≡◌, refl, List, [], ◌∷◌, ◌++◌, map, Bool, true, false, cond, ◌&&◌, ◌||◌, length, ltb}
use Rattle.std.proofs.Common.{sym, ap₂, ◌∙◌, append_assoc, true≢false, arith}
use Rattle.std.proofs.Math.Path.{ap, subst⁻¹}
use Rattle.std.proofs.lemmas.List.{map-append, length-map}
use Rattle.journal.specs.declared.Entry.{Entry}
use Rattle.journal.specs.Entry.{Placed, placed_at}
use Rattle.journal.specs.Due.{due}
use Rattle.journal.specs.Own.{own_of}
use Rattle.lists.specs.Cases.{and_left, and_right}
use Rattle.lists.specs.Elem.{elem, elem-later, elem-between}
use Rattle.lists.specs.Rising.{Rising, rising-append, rising-widen, rising-length}
use Rattle.record.specs.declared.Record.{Record}
use Rattle.record.specs.Record.{new_record, take_entry}
use Rattle.record.proofs.Laws.{take_numbers-placed, take_entry-answers, take_entry-last, take_all-snoc, take_all-new-count}
use Rattle.rules.specs.declared.Term.{Term}
use Rattle.rules.specs.View.{Condition, normal, fetching, completed, suspended, WindowView}
use Rattle.rules.specs.Window.{freed, acknowledged}
use Rattle.rules.specs.Rules.{sent_for}
use Rattle.rules.proofs.Offers.{sent_for-index, sent_for-kept, acknowledged-leaves, acknowledged-rises, acknowledged-newest, AckTaken}
use Rattle.delivery.specs.World.{Sent, Ack, Side, with_view, with_lines, take_front}
use Rattle.delivery.proofs.Invariant.{Holds, Taken, Whole, whole, InFlight, Unacknowledged, Queues, QueuesOf, Inv, last_of, back_indices, line_entries, ends_of, BackTerms}
use Rattle.delivery.proofs.Lines.{back_terms-append, line-some}
use Rattle.delivery.proofs.Queued.{HoldsCut, holds-append, holds-cut}

-- ------------------------------------------------------------------------
-- Written

pub keep-written : {j : List Entry} {c w : ℕ} {p : Side} → Inv j c w p → Inv j c w (with_view (freed p.view) p)
keep-written inv = record {
  taken = inv.taken;
  flight = inv.flight;
  unacked = inv.unacked;
  queues = inv.queues;
  busy_sent = λ h. absurd (true≢false (sym h));
}

-- ------------------------------------------------------------------------
-- Ack

-- the batches that are left are those whose ack comes after the front ack or whose last entry is on the line
unacked-struck : {last : ℕ} {away : Bool} {line : List Sent} (v : WindowView) (a : Ack) {rest : List Ack} → away ≡ false →
    a.index ≤ v.sent → Unacknowledged away v.term v.acked last v.sent v.batches line (a ∷ rest) →
    Unacknowledged away v.term a.index last v.sent (acknowledged a.index v).batches line rest
unacked-struck {line = line} v a {rest} here most un =
    let i : ℕ = a.index in
    record {
      acked_last = un.back_rises.1;
      back_terms = un.back_terms.1;
      back_rises = un.back_rises.2;
      batches_rise = acknowledged-rises v.acked v.sent i v un.batches_rise;
      batches_out = λ x h.
          let k : (elem x v.batches && ltb i x) ≡ true = sym (acknowledged-leaves i v x) ∙ h in
          let was = un.batches_out x (and_left (elem x v.batches) _ k) in
          elem-later i x (back_indices rest ++ ends_of line) (and_right (elem x v.batches) _ k) was;
      no_batches = λ h. absurd (true≢false (sym h ∙ here));
      newest = λ h. acknowledged-newest v.acked v.sent i v (omega (arith, un.back_rises.0)) most un.batches_rise (un.newest h);
    }

pub keep-ack : {j : List Entry} {c w : ℕ} {p : Side} → Inv j c w p → (a : Ack) (rest : List Ack) → p.back ≡ a ∷ rest →
    AckTaken a.term a.index p.view → Inv j c w (with_lines p.line rest (with_view (acknowledged a.index p.view) p))
keep-ack {j} {c} {w} {p} inv a rest e taken =
    let un = rw e at inv.unacked in
    record {
      taken = inv.taken;
      flight = inv.flight;
      unacked = unacked-struck p.view a taken.here taken.most un;
      queues = by p.view.condition (omega (arith, taken.up)) inv.queues;
      busy_sent = inv.busy_sent;
    }
  where
    by : (s : Condition) → p.view.acked ≤ a.index → QueuesOf j c w p.view s →
        Queues j c w a.index p.view.sent p.view.normal_queue p.view.catch_queue s
    by normal h is = record { ahead = omega (arith, is.ahead); normal_has = is.normal_has; tick_first = is.tick_first }
    by (fetching next end) h is = is
    by (completed end) h is = is
    by suspended h is = is

-- ------------------------------------------------------------------------
-- Take

-- the front of the line is the first after last, and what is due after it is behind it
pub record Front (j : List Entry) (w last sent : ℕ) (s : Sent) (rest : List Sent) : Type 0 where
  pub above : last < s.placed.index
  pub within : s.placed.index ≤ sent
  pub first : Holds j w last s.placed.index (s.placed.index ∷ [])
  pub placed_is : s.placed ≡ sent_for j w s.placed.index
  pub behind : Whole j w s.placed.index sent rest

pub front : {j : List Entry} {w last sent : ℕ} {away : Bool} {t : Term} {s : Sent} {rest : List Sent} →
    InFlight j w away t last sent (s ∷ rest) → Front j w last sent s rest
front {j} {w} {last} {sent} {s = s} {rest = rest} flight =
    let on = line-some flight.line_is in
    by on.order on.has on.line_is
  where
    by : (l : List ℕ) → Holds j w last sent l → s.placed ∷ line_entries rest ≡ map (sent_for j w) l → Front j w last sent s rest
    by [] has h = absurd (let z : ◌≡◌ {A = ℕ} 0 1 = cc in omega arith)
    by (x ∷ xs) has h =
        let placed : s.placed ≡ sent_for j w x = cc in
        let index : s.placed.index ≡ x = ap (λ q. q.index) placed ∙ sent_for-index j w x in
        let cut : HoldsCut j w last sent (x ∷ []) xs = holds-cut (x ∷ []) refl has in
        record {
          above = omega (arith, cut.up);
          within = omega (arith, cut.within);
          first = rw index cut.before;
          placed_is = placed ∙ ap (sent_for j w) (sym index);
          behind = rw index (record { order = xs; has = cut.after; line_is = cc });
        }

-- the acks on the way back after the front of the line is taken
abbrev acked_back : Bool → Sent → List Ack → List Ack
acked_back b s back = cond b (back ++ (record { term = s.term; index = s.placed.index } ∷ [])) back

-- read without ticks, what is taken is what is due up to last
pub taken_own : {j : List Entry} {w : ℕ} {r : Record} {taken : List Placed} → Taken j w r taken →
    own_of w taken ≡ map (placed_at j) (due j w 0 r.last.0)
taken_own {j} {w} is = ap (own_of w) is.taken_is ∙ sent_for-kept j w is.order ∙ ap (map (placed_at j)) is.has.own

-- the count is far from its end
pub taken-few : {j : List Entry} {w : ℕ} {r : Record} {taken : List Placed} → Taken j w r taken → length taken ≤ length j
taken-few {j} {w} {r} is =
    rw (is.taken_is, length-map is.order (sent_for j w))
    (omega (arith, rising-length 0 r.last.0 is.order (omega arith) is.has.rises, is.last_in))

count_small : {j : List Entry} {w : ℕ} {r : Record} {taken : List Placed} → Taken j w r taken → length j ≤ 65535 → r.count < 4294967295
count_small {r = r} {taken = taken} is few =
    let counted : r.count ≡ length taken
    = ap (λ r. r.count) is.record_is ∙ take_all-new-count taken (omega (arith, taken-few is)) in
    omega (arith, taken-few is)

module _ {j : List Entry} {w sent : ℕ} {s : Sent} {rest : List Sent} where
  taken_more : {r : Record} {taken : List Placed} → Taken j w r taken → length j ≤ 65535 → sent ≤ length j →
      Front j w r.last.0 sent s rest → Taken j w (take_entry s.placed r).record' (taken ++ (s.placed ∷ []))
  taken_more {r} {taken} is few within f =
      let x : ℕ = s.placed.index in
      let last : (take_entry s.placed r).record'.last.0 ≡ x = take_entry-last s.placed r (count_small is few) in
      record {
        last_in = omega (arith, f.within);
        order = is.order ++ (x ∷ []);
        has = rw last (holds-append (omega arith) (omega (arith, f.above)) is.has f.first);
        taken_is = ap₂ (λ l q. l ++ (q ∷ [])) is.taken_is f.placed_is ∙ sym (map-append (sent_for j w) is.order (x ∷ []));
        record_is = ap (λ r. (take_entry s.placed r).record') is.record_is ∙ sym (take_all-snoc taken s.placed new_record);
      }

  flight-less : {last : ℕ} {away : Bool} {t : Term} → InFlight j w away t last sent (s ∷ rest) → Front j w last sent s rest →
      InFlight j w away t s.placed.index sent rest
  flight-less is f = record {
    last_sent = f.within;
    sent_in = is.sent_in;
    line_is = whole f.behind;
    line_terms = is.line_terms.1;
  }

-- an entry leaves the line, and where it is acked its ack is on the way back
module _ {away : Bool} {t : Term} {acked last sent : ℕ} {batches : List ℕ} {s : Sent} {rest : List Sent} {back : List Ack}
    (un : Unacknowledged away t acked last sent batches (s ∷ rest) back) (up : last < s.placed.index) where
  rises-after : (b : Bool) → Rising acked (back_indices (acked_back b s back)) s.placed.index
  rises-after true =
      rw (map-append (λ a. a.index) back)
      (rising-append acked last s.placed.index (back_indices back) (s.placed.index ∷ []) un.acked_last (omega arith) un.back_rises
      (up, omega arith, tt))
  rises-after false = rising-widen acked last s.placed.index (back_indices back) (omega arith) un.back_rises

  terms-after : s.term ≡ t → (b : Bool) → BackTerms t (acked_back b s back)
  terms-after term true = back_terms-append t back _ un.back_terms (term, tt)
  terms-after term false = un.back_terms

  -- the last of a batch has its ack on the way back once it is off the line, and an ack more takes none away
  out-after : (x : ℕ) (acks ends : Bool) → elem x (back_indices back ++ cond ends (s.placed.index ∷ ends_of rest) (ends_of rest)) ≡ true →
      elem x (back_indices (acked_back (acks || ends) s back) ++ ends_of rest) ≡ true
  out-after x true true h = rw (map-append (λ a. a.index) back, append_assoc) h
  out-after x true false h =
      rw (map-append (λ a. a.index) back, append_assoc) (elem-between x (back_indices back) (s.placed.index ∷ []) (ends_of rest) h)
  out-after x false true h = rw (map-append (λ a. a.index) back, append_assoc) h
  out-after x false false h = h

  unacked-taken : (acks : Bool) → s.term ≡ t →
      Unacknowledged away t acked s.placed.index sent batches rest (acked_back (acks || s.ends) s back)
  unfolding ends_of
  unacked-taken acks term = record {
    acked_last = omega (arith, un.acked_last);
    back_terms = terms-after term (acks || s.ends);
    back_rises = rises-after (acks || s.ends);
    batches_rise = un.batches_rise;
    batches_out = λ x h. out-after x acks s.ends (un.batches_out x h);
    no_batches = un.no_batches;
    newest = un.newest;
  }

module _ {j : List Entry} {c w : ℕ} {p : Side} (inv : Inv j c w p) (few : length j ≤ 65535) (acks : Bool) (s : Sent)
    (rest : List Sent) where
  -- the side after the Take
  take-side : take_front acks s rest p ≡ record {
    view = p.view;
    record' = (take_entry s.placed p.record').record';
    line = rest;
    back = acked_back (acks || s.ends) s p.back;
    taken = p.taken ++ (s.placed ∷ []);
  }
  unfolding take_front
  take-side =
      simp (take_numbers-placed, ap (λ o. o.number) (take_entry-answers s.placed p.record' (count_small inv.taken few)))

  last-is : (take_entry s.placed p.record').record'.last.0 ≡ s.placed.index
  last-is = take_entry-last s.placed p.record' (count_small inv.taken few)

  -- last is then the index that was at the front
  pub take_last : last_of (take_front acks s rest p) ≡ s.placed.index
  take_last = ap last_of take-side ∙ last-is

  pub keep-take : p.line ≡ s ∷ rest → Inv j c w (take_front acks s rest p)
  keep-take e =
      let flight = rw e at inv.flight in
      let un = rw e at inv.unacked in
      let f : Front j w (last_of p) p.view.sent s rest = front flight in
      subst⁻¹ (Inv j c w) take-side
      (record {
        taken = taken_more inv.taken few flight.sent_in f;
        flight = rw last-is (flight-less flight f);
        unacked = rw last-is (unacked-taken un f.above acks flight.line_terms.0);
        queues = inv.queues;
        busy_sent = inv.busy_sent;
      })
