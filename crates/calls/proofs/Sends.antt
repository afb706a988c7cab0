-- The law that ties Send's output to the line: the numbers that Send wrote are those of the entries that the world puts on its line.
use Rattle.std.specs.Prelude.{ℕ, ◌-◌, ◌≤◌, ◌<◌, ◌≡◌, refl, List, [], ◌∷◌, ◌++◌, map, true, false, length, take, drop}
use Rattle.std.proofs.Common.{ap, ap₂, ◌∙◌, true≢false, arith, eq-eqb, ne_eqb, take-append-drop}
use Rattle.journal.specs.declared.Entry.{Entry}
use Rattle.journal.specs.Entry.{entries_of}
use Rattle.lists.specs.Elem.{last_or}
use Rattle.lists.specs.Rising.{Rising, rising-widen, rising-append, rising-cut}
use Rattle.rules.specs.declared.Term.{Term}
use Rattle.rules.specs.Shape.{is_empty, catch_up_fits}
use Rattle.rules.specs.Window.{requeue, batch_of, launched}
use Rattle.rules.specs.View.{Condition, normal, fetching, completed, suspended, WindowView, PlayerView}
use Rattle.rules.specs.Rules.{Outcome, window_at, send_rule, sent_for, batch_numbers, batch_at, send_output}
use Rattle.rules.proofs.Offers.{shaped, operated-at, ready_of, batch_of-ready, batch_of-untouched, launched-is, sent_for-index, send_rule-done}
use Rattle.delivery.specs.World.{Side, World, side_at, numbers_in, player_in, on_line}
use Rattle.delivery.proofs.Offers.{QueuesOf, Inv, Reached, read-in, entries-in, window-in, windows-in}
use Rattle.calls.specs.Host.{batch_in}
use Rattle.calls.proofs.Shows.{in_numbers}

-- ------------------------------------------------------------------------
-- batch_in

-- an output that starts with the numbers of a rising batch has that batch, up to its last index
batch_in-on_line : (j : List Entry) (w : ℕ) (t : Term) (a : ℕ) (xs more : List ℕ) → is_empty xs ≡ false → Rising a xs (last_or a xs) →
    batch_in (last_or 0 xs) t (batch_numbers j w xs ++ more) ≡ map in_numbers (on_line j w t xs)
unfolding batch_in batch_numbers on_line
batch_in-on_line j w t a [] more some r = absurd (true≢false some)
batch_in-on_line j w t a (x ∷ []) more some r = rw (eq-eqb (sent_for j w x).index x (sent_for-index j w x))
batch_in-on_line j w t a (x ∷ y ∷ xs) more some r =
    let other : ((sent_for j w x).index ≡ last_or y xs → ⊥) = λ e. omega (arith, sent_for-index j w x, r.2.0, r.2.1) in
    rw (ne_eqb (sent_for j w x).index (last_or y xs) other)
    (ap (λ l. in_numbers (record { placed = sent_for j w x; term = t; ends = false }) ∷ l)
    (batch_in-on_line j w t x (y ∷ xs) more refl r.2))

-- ------------------------------------------------------------------------
-- The batch of a reached world rises

module _ (j : List Entry) (c w : ℕ) (read : c ≤ length j) where
  -- what is ready rises from the sent index on, within the journal
  ready-rises : (v : WindowView) (s : Condition) → QueuesOf j c w v s →
      Rising v.sent (ready_of (requeue v.normal_queue v.catch_queue s v)) (length j)
  ready-rises v normal is = rising-widen v.sent c (length j) v.normal_queue read is.normal_has.rises
  ready-rises v (fetching next end) is =
      rising-widen v.sent (next - 1) (length j) v.catch_queue (omega (arith, is.order, is.read)) is.catch_has.rises
  ready-rises v (completed end) is =
      rising-append v.sent end (length j) v.catch_queue v.normal_queue is.behind (omega (arith, is.read)) is.catch_has.rises
      (rising-widen end c (length j) v.normal_queue read is.normal_has.rises)
  ready-rises v suspended is = tt

  -- and a batch is the first of it
  batch-rises : (p : Side) → Inv j c w p → (limit : ℕ) → catch_up_fits p.view.condition p.view.catch_queue ≡ true →
      let xs : List ℕ = (batch_of limit p.view).indices in
      Rising p.view.sent xs (last_or p.view.sent xs)
  batch-rises p inv limit fits =
      let v : WindowView = p.view in
      let ready : List ℕ = ready_of v in
      rw (batch_of-ready limit v fits).first
      (rising-cut v.sent (length j) (take limit ready) (drop limit ready) inv.flight.sent_in
      (rw (take-append-drop limit ready) (ready-rises v v.condition inv.queues))).before

-- ------------------------------------------------------------------------
-- Send

-- the window after a Send answered 0: its sent index is the batch's last, its term is as it was
record Sending (limit : ℕ) (v v' : WindowView) : Type 0 where
  sent : v'.sent ≡ last_or 0 (batch_of limit v).indices
  term : v'.term ≡ v.term

launched-sending : (limit : ℕ) (v : WindowView) → Sending limit v (launched (batch_of limit v))
launched-sending limit v =
    let is = launched-is (batch_of limit v).indices (batch_of limit v).rest in
    record { sent = ap (λ x. x.sent) is; term = ap (λ x. x.term) is ∙ (batch_of-untouched limit v).term }

-- The law: of a reached world, what Send wrote, read up to the sent index that the player then holds, is the batch that the world puts on
-- the line, five numbers an entry.
pub send_output-on_line : (wd : World) → Reached wd → (w : ℕ) (lent : List ℕ) →
    let o : Outcome = send_rule (numbers_in wd) w (length lent) (player_in wd) in
    o.answer ≡ 0 →
    batch_in (window_at w o.next).sent (window_at w o.next).term (send_output (numbers_in wd) w lent (player_in wd))
    ≡ map in_numbers (on_line wd.journal w (side_at w wd).view.term (batch_at w (player_in wd)))
unfolding send_output
send_output-on_line wd r w lent z =
    let ns : List ℕ = numbers_in wd in
    let p : PlayerView = player_in wd in
    let v : WindowView = window_at w p in
    let d = send_rule-done ns w (length lent) p z in
    let here : w < length wd.sides = omega (arith, d.within, windows-in wd) in
    let xs : List ℕ = (batch_of p.limit v).indices in
    let more : List ℕ = drop (length (batch_numbers (entries_of ns) w xs)) lent in
    let is : window_at w (send_rule ns w (length lent) p).next ≡ launched (batch_of p.limit v) = operated-at d in
    let fits : catch_up_fits v.condition v.catch_queue ≡ true = ((shaped ns p d.shaped).windows w d.within).catch_up in
    let rises : Rising v.sent xs (last_or v.sent xs) = rw (window-in w wd)
    (batch-rises wd.journal wd.current w (read-in wd r) (side_at w wd) (r.each w here) p.limit (rw (window-in w wd) at fits)) in
    rw (eq-eqb _ 0 z)
    (ap₂ (λ s t. batch_in s t (batch_numbers (entries_of ns) w xs ++ more))
    (ap (λ v. v.sent) is ∙ (launched-sending p.limit v).sent)
    (ap (λ v. v.term) is ∙ (launched-sending p.limit v).term ∙ ap (λ v. v.term) (window-in w wd))
    ∙ batch_in-on_line (entries_of ns) w (side_at w wd).view.term v.sent xs more d.turn.some rises
    ∙ ap (λ j. map in_numbers (on_line j w (side_at w wd).view.term xs)) (entries-in wd))
