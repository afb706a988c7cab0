-- Room on the lines: in every world that a script reaches from an opening with the batch limit 2, a line has at most two entries for each
-- of its batches, and the batches on it and the acks on the way back are at most 8 together: a script's windows ack the last of a batch
-- alone, so the unacknowledged batches are those acks and those batches.
use Rattle.std.specs.Prelude.{ℕ, suc, ◌+◌, ◌*◌, ◌≤◌, ◌<◌, ◌≡◌, refl, List, [], ◌∷◌, ◌++◌, Bool, true, false, not, cond, length}
use Rattle.std.proofs.Common.{sym, subst, ◌∙◌, append_assoc, true≢false, arith, length-append}
use Rattle.std.proofs.Math.Path.{ap, subst⁻¹}
use Rattle.std.proofs.lemmas.List.{map-append, length-map}
use Rattle.std.proofs.lemmas.Bool.{not-true}
use Rattle.std.proofs.Math.ListN.{get_or-map}
use Rattle.journal.specs.declared.Entry.{Entry}
use Rattle.lists.specs.Elem.{last_or}
use Rattle.journal.specs.Entry.{numbers_of}
use Rattle.rules.specs.declared.Settings.{Settings}
use Rattle.rules.specs.declared.Term.{Term}
use Rattle.rules.specs.View.{WindowView, PlayerView, no_window}
use Rattle.rules.specs.Window.{is_suspended, main_at, batch_of, acknowledged}
use Rattle.rules.proofs.Offers.{main_at-either, start_rule-done, fetched-untouched, batch_of-most, batch_of-untouched}
use Rattle.rules.proofs.Offers.{SentOut, launched-is, acknowledged-oldest}
use Rattle.delivery.specs.World.{Sent, Ack, Side, World, side_at, with_view, with_lines, on_line, take_front, new_side, opened}
use Rattle.delivery.specs.World as W
use Rattle.delivery.specs.Statement.{new_reports, first_start, first_world}
use Rattle.delivery.proofs.Offers.{ends_of-append, on_line-ends, unacked-none, launched_side, Worked, caught, sent, written, took, acked, Moved, still, appended, mained, worked, dropped-here, joined-here, started-here, Keeps, step_count, step_keeps, side-moves, back_indices, ends_of, Inv, Reached, reached-step, opened-reached}
use Rattle.script_line.specs.declared.Step.{Step}
use Rattle.script_line.specs.declared.Step.TheVariants.{Main, At}
use Rattle.script_line.specs.declared.Verb.TheVariants.{Catch, Send, Written, Ack as AckVerb, Drop, Join, Take}
use Rattle.script.specs.Stage.{step_in, steps_in}

-- ------------------------------------------------------------------------
-- Pairs

-- a line of batches of one or two entries, the first of which may have lost its first entry
pub data Pairs : List Sent → Type 0 where
  none : Pairs []
  one : {s : Sent} {l : List Sent} → s.ends ≡ true → Pairs l → Pairs (s ∷ l)
  two : {s t : Sent} {l : List Sent} → s.ends ≡ false → t.ends ≡ true → Pairs l → Pairs (s ∷ t ∷ l)

pub pairs-rest : (s : Sent) (l : List Sent) → Pairs (s ∷ l) → Pairs l
pairs-rest s l (one e p) = p
pairs-rest s _ (two e f p) = one f p

pub pairs-append : (l m : List Sent) → Pairs l → Pairs m → Pairs (l ++ m)
pairs-append _ m none q = q
pairs-append _ m (one {l = l} e p) q = one e (pairs-append l m p q)
pairs-append _ m (two {l = l} e f p) q = two e f (pairs-append l m p q)

pub pairs-batch : (j : List Entry) (w : ℕ) (t : Term) (is : List ℕ) → length is ≤ 2 → Pairs (on_line j w t is)
unfolding on_line
pairs-batch j w t [] h = none
pairs-batch j w t (i ∷ []) h = one refl none
pairs-batch j w t (i ∷ k ∷ []) h = two refl refl none
pairs-batch j w t (i ∷ k ∷ n ∷ is) h = absurd (omega arith)

pub pairs-length : (l : List Sent) → Pairs l → length l ≤ 2 * length (ends_of l)
unfolding ends_of
pairs-length _ none = omega arith
pairs-length _ (one {l = l} e p) = rw e (omega (arith, pairs-length l p))
pairs-length _ (two {l = l} e f p) = rw (e, f) (omega (arith, pairs-length l p))

-- ------------------------------------------------------------------------
-- Roomy

-- a window's lines: the acks on the way back and the batches on the line are the unacknowledged batches, unless it is Suspended
pub record RoomySide (p : Side) : Type 0 where
  pub pairs : Pairs p.line
  pub unacked : is_suspended p.view.condition ≡ false → p.view.batches ≡ back_indices p.back ++ ends_of p.line
  pub batches : length (ends_of p.line) + length p.back ≤ 8

pub record Roomy (wd : World) : Type 0 where
  pub reached : Reached wd
  pub limit : wd.limit ≤ 2
  pub each : (w : ℕ) → w < length wd.sides → RoomySide (side_at w wd)

-- so a line has at most 16 entries, and the line back at most 8 acks
pub roomy-line : (p : Side) → RoomySide p → (length p.line ≤ 16) × (length p.back ≤ 8)
roomy-line p r =
    let n = pairs-length p.line r.pairs in
    let b = r.batches in
    (omega arith, omega arith)

-- ------------------------------------------------------------------------
-- the work of one window

-- one entry off the line, and an ack more where it was the last of its batch
took-roomy : (s : Sent) (rest : List Sent) (p : Side) → p.line ≡ s ∷ rest → RoomySide p → RoomySide (take_front false s rest p)
unfolding take_front ends_of
took-roomy s rest p e r = record {
  pairs = pairs-rest s rest (subst Pairs e r.pairs);
  unacked = λ here. out s.ends (subst (λ l. p.view.batches ≡ back_indices p.back ++ ends_of l) e (r.unacked here));
  batches = by s.ends (subst (λ l. length (ends_of l) + length p.back ≤ 8) e r.batches);
}
  where
    out : (b : Bool) → p.view.batches ≡ back_indices p.back ++ cond b (s.placed.index ∷ ends_of rest) (ends_of rest) →
        p.view.batches
        ≡ back_indices (cond b (p.back ++ (record { term = s.term; index = s.placed.index } ∷ [])) p.back) ++ ends_of rest
    out true h = h ∙ rw (map-append (λ a. a.index) p.back, append_assoc)
    out false h = h

    by : (b : Bool) → length (cond b (s.placed.index ∷ ends_of rest) (ends_of rest)) + length p.back ≤ 8 →
        length (ends_of rest) + length (cond b (p.back ++ (record { term = s.term; index = s.placed.index } ∷ [])) p.back) ≤ 8
    by true h = simp length-append (omega arith)
    by false h = h

-- the front ack is the oldest batch
acked-roomy : {j : List Entry} {c w : ℕ} (a : Ack) (rest : List Ack) (p : Side) → p.back ≡ a ∷ rest → Inv j c w p →
    is_suspended p.view.condition ≡ false → RoomySide p →
    RoomySide (with_lines p.line rest (with_view (acknowledged a.index p.view) p))
acked-roomy a rest p front inv here r =
    let left : List ℕ = back_indices rest ++ ends_of p.line in
    let is : p.view.batches ≡ a.index ∷ left = rw front at (r.unacked here) in
    let few = subst (λ x. length (ends_of p.line) + length x ≤ 8) front r.batches in
    record {
      pairs = r.pairs;
      unacked = λ h. acknowledged-oldest p.view.acked p.view.sent a.index p.view left is inv.unacked.batches_rise;
      batches = omega arith;
    }

-- one batch more, of at most two entries
sent-roomy : (j : List Entry) (w limit size : ℕ) (p : Side) → limit ≤ 2 → SentOut limit size p.view → RoomySide p →
    RoomySide (launched_side j w (batch_of limit p.view) p)
sent-roomy j w limit size p few out r =
    let is : List ℕ = (batch_of limit p.view).indices in
    let new : List Sent = on_line j w p.view.term is in
    let was : p.view.batches ≡ back_indices p.back ++ ends_of p.line = r.unacked out.here in
    let held : length p.view.batches ≡ length p.back + length (ends_of p.line)
    = ap length was
    ∙ length-append (back_indices p.back) (ends_of p.line)
    ∙ ap (λ n. n + length (ends_of p.line)) (length-map p.back (λ a. a.index)) in
    let more : ends_of (p.line ++ new) ≡ ends_of p.line ++ (last_or 0 is ∷ [])
    = ends_of-append p.line new ∙ ap (λ l. ends_of p.line ++ l) (on_line-ends j w p.view.term is out.some) in
    let ends : length (ends_of (p.line ++ new)) ≡ length (ends_of p.line) + 1
    = ap length more ∙ length-append (ends_of p.line) (last_or 0 is ∷ []) in
    record {
      pairs = pairs-append p.line new r.pairs (pairs-batch j w p.view.term is (omega (arith, batch_of-most limit p.view)));
      unacked = λ h.
          ap (λ x. x.batches) (launched-is is (batch_of limit p.view).rest)
          ∙ ap (λ l. l ++ (last_or 0 is ∷ [])) ((batch_of-untouched limit p.view).batches ∙ was)
          ∙ append_assoc (back_indices p.back) (ends_of p.line) (last_or 0 is ∷ [])
          ∙ ap (λ l. back_indices p.back ++ l) (sym more);
      batches = omega (arith, held, ends, out.few);
    }

-- Main changes no line and no batch
main-roomy : (j : List Entry) (w e i : ℕ) (p : Side) → RoomySide p → RoomySide (with_view (main_at j w e i p.view) p)
main-roomy j w e i p r = record {
  pairs = r.pairs;
  unacked =
      main_at-either j w e i p.view (λ v. is_suspended v.condition ≡ false → v.batches ≡ back_indices p.back ++ ends_of p.line)
      r.unacked (λ here h. r.unacked here) (λ e h. r.unacked (ap is_suspended e)) (λ n end e h. r.unacked (ap is_suspended e))
      (λ end e h. r.unacked (ap is_suspended e)) (λ t h. r.unacked (ap is_suspended t.condition));
  batches = r.batches;
}

-- ------------------------------------------------------------------------
-- a step of a script

-- the steps that a script can make: no ack but of the last of a batch, no late ack, no Start, no append
abbrev pub scripted : W.Step → Bool
scripted (W.main i) = true
scripted (W.catch w t i) = true
scripted (W.written w t) = true
scripted (W.send w out) = true
scripted (W.take w acks) = not acks
scripted (W.ack w) = true
scripted (W.late-ack w t i) = false
scripted (W.drop w) = true
scripted (W.join w) = true
scripted (W.start settings) = false
scripted (W.append e) = false

pub step_in-scripted : (wd : World) (s : Step) → scripted (step_in wd s) ≡ true
step_in-scripted wd Main = refl
step_in-scripted wd (At Catch w) = refl
step_in-scripted wd (At Send w) = refl
step_in-scripted wd (At Written w) = refl
step_in-scripted wd (At AckVerb w) = refl
step_in-scripted wd (At Drop w) = refl
step_in-scripted wd (At Join w) = refl
step_in-scripted wd (At Take w) = refl

-- a script's Take acks the last of a batch alone
worked-roomy : {j : List Entry} {c limit w : ℕ} {s : W.Step} {reply : W.Reply} {p p' : Side} → scripted s ≡ true → limit ≤ 2 → Inv j c w p →
    RoomySide p → Worked j limit w s reply p p' → RoomySide p'
worked-roomy {p = p} script few inv r (caught k) =
    rw k.side
    (record {
      pairs = r.pairs;
      unacked = λ h.
          (fetched-untouched k.tells.appends k.index k.tells.upto p.view).batches ∙ r.unacked (ap is_suspended k.tells.was);
      batches = r.batches;
    })
worked-roomy script few inv r (written k) = rw k.side (record { pairs = r.pairs; unacked = r.unacked; batches = r.batches })
worked-roomy {p = p} script few inv r (took k) =
    let last : k.acks ≡ false = not-true k.acks (sym (ap scripted k.is) ∙ script) in
    rw (k.side, last) (took-roomy k.entry k.rest p k.front r)
worked-roomy {p = p} script few inv r (acked k) = rw k.side (acked-roomy k.offer k.rest p k.front inv k.tells.here r)
worked-roomy {j} {c} {limit} {w} {p = p} script few inv r (sent k) =
    rw k.side (sent-roomy j w limit (length k.out) p few k.tells r)

-- a step of a script, at a window
moved-roomy : (wd : World) (s : W.Step) (w : ℕ) {p p' : Side} → scripted s ≡ true → wd.limit ≤ 2 → Inv wd.journal wd.current w p →
    RoomySide p → Moved s wd w p p' → RoomySide p'
unfolding ends_of
moved-roomy wd s w script few inv r (still k) = rw k.side r
moved-roomy wd s w script few inv r (appended k) = rw k.side r
moved-roomy wd s w {p} script few inv r (mained k) = rw k.side (main-roomy wd.journal w wd.spacing (suc wd.current) p r)
moved-roomy wd s w script few inv r (worked k) = worked-roomy script few inv r k.work
moved-roomy wd s w script few inv r (dropped-here k) =
    rw k.side (record { pairs = r.pairs; unacked = λ h. absurd (true≢false h); batches = r.batches })
moved-roomy wd s w script few inv r (joined-here k) =
    rw k.side (record { pairs = none; unacked = λ h. inv.unacked.no_batches k.away; batches = omega arith })
moved-roomy wd s w script few inv r (started-here k) = absurd (true≢false (sym script ∙ ap scripted k.by.is))

-- it leaves the journal, the batch limit and the spacing
pub scripted-keeps : (wd : World) (s : W.Step) → scripted s ≡ true → Reached wd → Keeps wd (W.step s wd).world
scripted-keeps wd s script r =
    step_keeps wd s r.in_shape (λ settings is. true≢false (sym script ∙ ap scripted is))
    (λ e is. true≢false (sym script ∙ ap scripted is))

-- ------------------------------------------------------------------------
-- a script

pub roomy-step : (wd : World) (s : Step) → Roomy wd → Roomy (W.step (step_in wd s) wd).world
roomy-step wd s r =
    let made : W.Step = step_in wd s in
    let script : scripted made ≡ true = step_in-scripted wd s in
    let shaped = r.reached.in_shape in
    record {
      reached = reached-step wd made r.reached;
      limit = rw (scripted-keeps wd made script r.reached).limit r.limit;
      each = λ w h.
          let within : w < length wd.sides = omega (arith, step_count wd made shaped) in
          moved-roomy wd made w script r.limit (r.reached.each w within) (r.each w within) (side-moves wd made shaped w within);
    }

pub roomy-run : (wd : World) (ss : List Step) → Roomy wd → Roomy (W.run wd (steps_in wd ss))
unfolding steps_in W.run_by
roomy-run wd [] r = r
roomy-run wd (s ∷ ss) r = roomy-run (W.step (step_in wd s) wd).world ss (roomy-step wd s r)

roomy-new : {j : List Entry} {c w : ℕ} (v : WindowView) → Inv j c w (new_side v) → RoomySide (new_side v)
unfolding ends_of
roomy-new v inv = record { pairs = none; unacked = λ h. unacked-none inv.unacked; batches = omega arith }

-- the opening: a reachable world with the batch limit 2 and empty lines
module _ (before : PlayerView) (j : List Entry) (count : ℕ) (settings : Settings) (two : settings.limit ≡ 2)
    (done : (first_start before j count settings).answer ≡ 0) where
  pub roomy-opened : Roomy (first_world before j count settings)
  unfolding opened
  roomy-opened = record {
    reached = opened-reached before j count settings done;
    limit =
        let limit : (first_start before j count settings).next.limit ≡ settings.limit
        = ap (λ q. q.limit) (start_rule-done (numbers_of j) count settings (new_reports count) before done).next in
        omega arith;
    each = λ w h.
        let is = get_or-map new_side (first_start before j count settings).next.windows w no_window in
        subst⁻¹ RoomySide is (roomy-new _ (subst (Inv j _ w) is ((opened-reached before j count settings done).each w h)));
  }

  -- in every world that a script reaches from there, each line has room
  pub room : (ss : List Step) → let wd : World = first_world before j count settings in Roomy (W.run wd (steps_in wd ss))
  room ss = roomy-run (first_world before j count settings) ss roomy-opened
