-- Each call is a step of the world that its host shows: Send, Take, Ack, Join and Start, which change the lines.
use Prim.Native.Nat.{ℕ, ◌≤◌, ◌<◌}
use Rattle.std.specs.Prelude.{◌≡◌, Bool, true, false, cond, ◌||◌, eqb, Result, Ok, Err}
use Rattle.std.proofs.Math.Path.{refl, sym, ap, ap₂, subst}
use Rattle.std.proofs.Common.{subst₂, ◌∙◌, arith, lt-ltb, le-ltb}
use Rattle.std.proofs.Math.Logic.{⊎_elim}
use mathlib.Core.List.{List, [], ◌∷◌, ◌++◌, map, map-append, map-map}
use Rattle.std.proofs.Math.ListN.{length, get_or-eq_default}
use Rattle.std.proofs.lemmas.List.{set-get_or}
use Rattle.lists.specs.Cases.{eq-or-ne, le-or-lt}
use Rattle.journal.specs.Entry.{Placed, five_of}
use Rattle.record.specs.declared.Record.{Record}
use Rattle.record.specs.declared.Refusal.{Refusal}
use Rattle.record.specs.Record.{take_numbers}
use Rattle.record.specs.Record as Take
use Rattle.rules.specs.declared.Settings.{Settings}
use Rattle.rules.specs.declared.Term.{Term}
use Rattle.rules.specs.Rules.{Outcome, window_at, ack_rule, join_rule, send_rule, send_output, batch_at, start_rule}
use Rattle.rules.proofs.Offers.{send_rule-lawful, ack_rule-lawful, join_rule-lawful, start_rule-done, start_rule-refuses}
use Rattle.player.specs.declared.Played.{Played}
use Rattle.player.specs.View.{player_of}
use Rattle.player.specs.Promise.{Meets}
use Rattle.delivery.specs.World.{Ack, Side, World, no_side, side_at, numbers_in, player_in, on_line, take_at_line, ack_at_line, reports_in, step}
use Rattle.delivery.specs.World as W
use Rattle.delivery.specs.Sorts as Delivery
use Rattle.delivery.proofs.Offers.{Reached, last_of, windows-in}
use Rattle.calls.specs.Host.{Host, new_end, end_at, with_end, with_lines, cleared, cleared_all, rejoined, restarted, put_on, send, take, ack, join, start, report_of, MadeTake, MadeAck, Made, is_done, is_taken, done_at_line, batch_in, batch_to, take_front, ack_front, after}
use Rattle.calls.proofs.Shows.{in_numbers, end_of, Shows, Gives, shows-count, shows-end, shows-held, shows-rule, shows-meets, shows-side, shows-raised, shows-called, shows-lines, shows-changed}
use Rattle.calls.proofs.Sends.{send_output-on_line}
use Rattle.calls.proofs.Steps.{Follows, count-sides, answer-same}

-- ------------------------------------------------------------------------
-- Take

-- what it has taken, as numbers
taken_more : (l : List Placed) (p : Placed) (b : Bool) →
    cond b (map five_of l ++ (five_of p ∷ [])) (map five_of l) ≡ map five_of (cond b (l ++ (p ∷ [])) l)
taken_more l p true = sym (map-append five_of l (p ∷ []))
taken_more l p false = refl

-- the number of what a Take answers is its outcome's
outcome-number : (own : Record) (t : Result Record Refusal) → Take.number_of t ≡ (Take.outcome_of own t).number
outcome-number own (Ok next) = refl
outcome-number own (Err refusal) = refl

-- a window's end once its front entry is taken
take_front-end : (p : Side) (acks : Bool) (s : W.Sent) (rest : List W.Sent) (t : Result Record Refusal) →
    Take.outcome_of p.record' t ≡ take_numbers (five_of s.placed) p.record' →
    take_front acks t (map in_numbers (s ∷ rest)) (end_of p) ≡ end_of (W.take_front acks s rest p)
unfolding W.take_front
take_front-end p acks s rest t made =
    let back : List Ack = cond (acks || s.ends) (p.back ++ (record { term = s.term; index = s.placed.index } ∷ [])) p.back in
    ap (λ l. record { record' = (Take.outcome_of p.record' t).record'; line = map in_numbers rest; back = back; taken = l })
    (taken_more p.taken s.placed (is_taken t)
    ∙ ap (λ n. map five_of (cond (eqb n 0) (p.taken ++ (s.placed ∷ [])) p.taken)) (outcome-number p.record' t))
    ∙ ap (λ o. record {
      record' = o.record';
      line = map in_numbers rest;
      back = back;
      taken = map five_of (cond (eqb o.number 0) (p.taken ++ (s.placed ∷ [])) p.taken);
    }) made

-- where there is no window, there is no side
pub side_at-none : (wd : World) (w : ℕ) → length wd.sides ≤ w → side_at w wd ≡ no_side
side_at-none wd w h = get_or-eq_default wd.sides no_side {n = w} h

module _ {h : Host} {wd : World} (is : Shows h wd) where
  -- the end that is there changes nothing
  end_same : (w : ℕ) → Shows (with_end w (end_of (side_at w wd)) h) wd
  end_same w =
      subst (λ x. Shows x wd)
      (sym
      (ap (λ ds. record { player = h.player; journal = h.journal; windows = ds; greatest = h.greatest })
      (set-get_or h.windows w new_end))
      ∙ ap (λ d. with_end w d h) (shows-end is w))
      is

  take-line : (w : ℕ) (acks : Bool) (t : Result Record Refusal) (l : List W.Sent) → MadeTake t (map in_numbers l) (side_at w wd).record' →
      Shows (with_end w (take_front acks t (map in_numbers l) (end_of (side_at w wd))) h) (take_at_line w acks l wd).world
  unfolding W.take_front
  take-line w acks t [] made = end_same w
  take-line w acks t (s ∷ rest) made =
      shows-side is w _ (W.take_front acks s rest (side_at w wd)) (take_front-end (side_at w wd) acks s rest t made) refl

  -- answered 0 in both, or in neither
  take_done : (w : ℕ) (acks : Bool) (t : Result Record Refusal) (l : List W.Sent) → MadeTake t (map in_numbers l) (side_at w wd).record' →
      Delivery.is_done (take_at_line w acks l wd).reply ≡ done_at_line (map in_numbers l) (is_taken t)
  take_done w acks t [] made = refl
  take_done w acks t (s ∷ rest) made =
      ap (λ o. eqb o.number 0) (sym made) ∙ ap (λ n. eqb n 0) (sym (outcome-number (side_at w wd).record' t))

  pub follows-take : (w : ℕ) (acks : Bool) (t : Result Record Refusal) → Made h (take w acks t) → Follows (take w acks t) h wd
  unfolding W.step_by after
  follows-take w acks t made =
      let p : Side = side_at w wd in
      let made' : MadeTake t (map in_numbers p.line) p.record' =
      subst (λ d. MadeTake t d.line d.record') (shows-end is w) made in
      let at : Shows (with_end w (take_front acks t (map in_numbers p.line) (end_of p)) h) (step (W.take w acks) wd).world
      = ⊎_elim
      (λ (n : length wd.sides ≤ w).
      rw (le-ltb w (length wd.sides) n, side_at-none wd w n)
      (subst (λ p. Shows (with_end w (end_of p) h) wd) (side_at-none wd w n) (end_same w)))
      (λ (n : w < length wd.sides). rw (lt-ltb w (length wd.sides) n) (take-line w acks t p.line made'))
      (le-or-lt (length wd.sides) w) in
      let done : Delivery.is_done (step (W.take w acks) wd).reply ≡ done_at_line (map in_numbers p.line) (is_taken t)
      = ⊎_elim
      (λ (n : length wd.sides ≤ w). rw (le-ltb w (length wd.sides) n, side_at-none wd w n))
      (λ (n : w < length wd.sides). rw (lt-ltb w (length wd.sides) n) (take_done w acks t p.line made'))
      (le-or-lt (length wd.sides) w) in
      record {
        shows = subst (λ d. Shows (with_end w (take_front acks t d.line d) h) (step (W.take w acks) wd).world) (sym (shows-end is w)) at;
        done = done ∙ ap (λ d. done_at_line d.line (is_taken t)) (sym (shows-end is w));
      }

  -- ------------------------------------------------------------------------
  -- Ack

  ack-line : (w : ℕ) (r : Played) (b : List Ack) → MadeAck w r b h → Shows (ack_front w r b h) (ack_at_line w b wd).world
  ack-line w r [] made = is
  ack-line w r (a ∷ rest) made =
      shows-changed is w r (ack_rule (numbers_in wd) w a.term a.index (player_in wd)) (λ d. with_lines d.line rest d)
      (λ p. W.with_lines p.line rest p) (shows-meets is (λ ns p. ack_rule ns w a.term a.index p) made)
      (count-sides is (ack_rule-lawful (numbers_in wd) w a.term a.index (player_in wd))) (λ z p. refl) (λ p. refl)

  ack-done : (w : ℕ) (r : Played) (b : List Ack) → MadeAck w r b h →
      Delivery.is_done (ack_at_line w b wd).reply ≡ done_at_line b (is_done r)
  ack-done w r [] made = refl
  ack-done w r (a ∷ rest) made = answer-same is _ (shows-meets is (λ ns p. ack_rule ns w a.term a.index p) made)

  pub follows-ack : (w : ℕ) (r : Played) → Made h (ack w r) → Follows (ack w r) h wd
  unfolding W.step_by after
  follows-ack w r made =
      let b : List Ack = (side_at w wd).back in
      let back : (end_at w h).back ≡ b = ap (λ d. d.back) (shows-end is w) in
      let made' : MadeAck w r b h = subst (λ b. MadeAck w r b h) back made in
      let at : Shows (ack_front w r b h) (step (W.ack w) wd).world
      = ⊎_elim
      (λ (n : length wd.sides ≤ w). rw (le-ltb w (length wd.sides) n, side_at-none wd w n) is)
      (λ (n : w < length wd.sides). rw (lt-ltb w (length wd.sides) n) (ack-line w r b made'))
      (le-or-lt (length wd.sides) w) in
      let done : Delivery.is_done (step (W.ack w) wd).reply ≡ done_at_line b (is_done r)
      = ⊎_elim
      (λ (n : length wd.sides ≤ w). rw (le-ltb w (length wd.sides) n, side_at-none wd w n))
      (λ (n : w < length wd.sides). rw (lt-ltb w (length wd.sides) n) (ack-done w r b made'))
      (le-or-lt (length wd.sides) w) in
      record {
        shows = subst (λ b. Shows (ack_front w r b h) (step (W.ack w) wd).world) (sym back) at;
        done = done ∙ ap (λ b. done_at_line b (is_done r)) (sym back);
      }

  -- ------------------------------------------------------------------------
  -- Join

  pub follows-join : (w : ℕ) (r : Played) → Made h (join w r) → Follows (join w r) h wd
  unfolding W.step_by after
  follows-join w r made =
      let report : ℕ = last_of (side_at w wd) in
      let k = shows-meets is (λ ns p. join_rule ns w report p)
      (subst (λ n. Meets h.player r (join_rule h.journal w n (player_of h.player))) (ap report_of (shows-end is w)) made) in
      record {
        shows =
            shows-called is r (join_rule (numbers_in wd) w report (player_in wd)) (rejoined w) (W.rejoined w) k
            (count-sides is (join_rule-lawful (numbers_in wd) w report (player_in wd)))
            (λ z is'.
            shows-raised (shows-lines is' w cleared W.cleared (λ p. refl) (λ p. refl)) _ _ (ap (λ v. v.term) (shows-held is' w)));
        done = answer-same is _ k;
      }

  -- ------------------------------------------------------------------------
  -- Send

  pub follows-send : Reached wd → (w : ℕ) (lent : List ℕ) (r : Played) (out : List ℕ) → Made h (send w lent r out) →
      Follows (send w lent r out) h wd
  unfolding W.step_by after
  follows-send reached w lent r out (made, wrote) =
      let o : Outcome = send_rule (numbers_in wd) w (length lent) (player_in wd) in
      let k : Gives r o = shows-meets is (λ ns p. send_rule ns w (length lent) p) made in
      let batch : List W.Sent = on_line wd.journal w (side_at w wd).view.term (batch_at w (player_in wd)) in
      let read : o.answer ≡ 0 → batch_to w r.player out ≡ map in_numbers batch
      = λ z.
      ap₂ (λ q out. batch_in (window_at w q).sent (window_at w q).term out) k.next
      (wrote ∙ ap₂ (λ ns p. send_output ns w lent p) is.journal is.player)
      ∙ send_output-on_line wd reached w lent z in
      record {
        shows =
            shows-changed is w r o (put_on (batch_to w r.player out)) (λ p. W.with_lines (p.line ++ batch) p.back p) k
            (count-sides is (send_rule-lawful (numbers_in wd) w (length lent) (player_in wd)))
            (λ z p.
            ap (λ l. with_lines l p.back (end_of p))
            (ap (λ b. map in_numbers p.line ++ b) (read z) ∙ sym (map-append in_numbers p.line batch)))
            (λ p. refl);
        done = answer-same is _ k;
      }

-- ------------------------------------------------------------------------
-- Start

shows-cleared : {h : Host} {wd : World} → Shows h wd → Shows (cleared_all h) (W.cleared_all wd)
shows-cleared {h} {wd} is = record {
  player =
      is.player
      ∙ ap (λ vs. record { limit = wd.limit; spacing = wd.spacing; current = wd.current; windows = vs })
      (sym (map-map (λ p. p.view) W.cleared wd.sides));
  journal = is.journal;
  windows = ap (map cleared) is.windows ∙ map-map cleared end_of wd.sides ∙ sym (map-map end_of W.cleared wd.sides);
  greatest = is.greatest;
}

module _ {h : Host} {wd : World} (is : Shows h wd) where
  abbrev starts_in : Settings → Outcome
  starts_in settings = start_rule (numbers_in wd) (length wd.sides) settings (reports_in wd) (player_in wd)

  start-count : (settings : Settings) → length (starts_in settings).next.windows ≡ length wd.sides
  start-count settings =
      ⊎_elim
      (λ (e : (starts_in settings).answer ≡ 0).
      (start_rule-done (numbers_in wd) (length wd.sides) settings (reports_in wd) (player_in wd) e).windows)
      (λ (n : (starts_in settings).answer ≡ 0 → ⊥).
      ap (λ q. length q.windows) (start_rule-refuses (numbers_in wd) (length wd.sides) settings (reports_in wd) (player_in wd) n)
      ∙ windows-in wd)
      (eq-or-ne (starts_in settings).answer 0)

  pub follows-start : (settings : Settings) (r : Played) → Made h (start settings r) → Follows (start settings r) h wd
  unfolding W.step_by after
  follows-start settings r (high, made) =
      let first : Term = settings.first in
      let above : wd.greatest < first.0 = omega (arith, high, is.greatest) in
      let n : ℕ = length wd.sides in
      let reports : map report_of h.windows ≡ reports_in wd = ap (map report_of) is.windows ∙ map-map report_of end_of wd.sides in
      let k = shows-rule is (λ ns p. start_rule ns n settings (reports_in wd) p)
      (subst₂ (λ n rs. Gives r (start_rule h.journal n settings rs (player_of h.player)))
      (shows-count is) reports
      (record { answer = made.answer; next = made.next })) in
      record {
        shows =
            rw (lt-ltb wd.greatest first.0 above)
            (shows-called is r (starts_in settings) (restarted first) (W.restarted first) k
            (start-count settings) (λ z is'. shows-raised (shows-cleared is') first first refl));
        done = rw (lt-ltb wd.greatest first.0 above) (answer-same is _ k);
      }
