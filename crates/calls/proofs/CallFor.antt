-- Whatever a host holds, there is a call for each step: it is handed what the step says, and what it gives meets its promise.
use Rattle.std.specs.Prelude.{ℕ, ◌<◌, ◌≡◌, refl, List, [], ◌∷◌, Bool, true, length, Result}
use Rattle.journal.specs.declared.Entry.{Entry}
use Rattle.journal.specs.Entry.{count_of}
use Rattle.record.specs.declared.Record.{Record}
use Rattle.record.specs.declared.Refusal.{Refusal}
use Rattle.rules.specs.declared.Term.{Term}
use Rattle.rules.specs.View.{PlayerView}
use Rattle.rules.specs.Rules.{Outcome, main_rule, ack_rule, send_output}
use Rattle.rules.proofs.Offers.{Effect, LawfulRule, main_rule-refuses, main_rule-count, catch_rule-lawful, written_rule-lawful, ack_rule-lawful, send_rule-lawful, drop_rule-lawful, join_rule-lawful}
use Rattle.player.specs.View.{player_of}
use Rattle.delivery.specs.World.{Ack, Step}
use Rattle.delivery.specs.World as W
use Rattle.calls.specs.Host.{Sent, Host, end_at, Call, main, catch, written, send, take, ack, late-ack, drop, join, append, call_step, report_of, is_late, MadeTake, Made}
use Rattle.calls.proofs.Steps.{lawful-count}
use Rattle.calls.specs.Answers.{Numbered, main-numbered, catch-numbered, send-numbered, written-numbered, ack-numbered, drop-numbered, join-numbered}
use Rattle.calls.specs.Held.{Given, given, take_given}

pub record CallFor (h : Host) (s : Step) : Type 0 where
  pub call : Call
  pub same : call_step call ≡ s
  pub made : Made h call

-- what Take gives for the front entry of a line; from an empty line it does not matter
record FrontTaken (l : List Sent) (own : Record) : Type 0 where
  gave : Result Record Refusal
  made : MadeTake gave l own

front_taken : (l : List Sent) (own : Record) → FrontTaken l own
front_taken [] own = record { gave = (take_given [] own).gave; made = tt }
front_taken (s ∷ rest) own = let g = take_given s.numbers own in record { gave = g.gave; made = g.meets }

module _ (h : Host) where
  abbrev held : PlayerView
  held = player_of h.player

  -- a call of the player on a window
  lawful-given : {w : ℕ} {o : Outcome} {x : Effect} → LawfulRule h.journal w held o x → Numbered o.answer → Given h.player o
  lawful-given {o = o} law a = given h.player o (lawful-count law) law.refuses a

  pub call-main : (i : ℕ) → CallFor h (W.main i)
  call-main i =
      let g = given h.player (main_rule h.journal i held) (main_rule-count h.journal i held) (main_rule-refuses h.journal i held)
      (main-numbered h.journal i held) in
      record { call = main (record { 0 = i }) g.gave; same = refl; made = g.meets }

  pub call-catch : (w : ℕ) (t : Term) (i : ℕ) → CallFor h (W.catch w t i)
  call-catch w t i =
      let g = lawful-given (catch_rule-lawful h.journal w t i held) (catch-numbered h.journal w t i held) in
      record { call = catch w t (record { 0 = i }) g.gave; same = refl; made = g.meets }

  pub call-written : (w : ℕ) (t : Term) → CallFor h (W.written w t)
  call-written w t =
      let g = lawful-given (written_rule-lawful h.journal w t held) (written-numbered h.journal w t held) in
      record { call = written w t g.gave; same = refl; made = g.meets }

  pub call-send : (w : ℕ) (lent : List ℕ) → CallFor h (W.send w lent)
  call-send w lent =
      let g = lawful-given (send_rule-lawful h.journal w (length lent) held) (send-numbered h.journal w (length lent) held) in
      record { call = send w lent g.gave (send_output h.journal w lent held); same = refl; made = (g.meets, refl) }

  pub call-take : (w : ℕ) (acks : Bool) → CallFor h (W.take w acks)
  call-take w acks =
      let g = front_taken (end_at w h).line (end_at w h).record' in
      record { call = take w acks g.gave; same = refl; made = g.made }

  -- an Ack with this term and index
  ack-given : (w : ℕ) (t : Term) (i : ℕ) → Given h.player (ack_rule h.journal w t i held)
  ack-given w t i = lawful-given (ack_rule-lawful h.journal w t i held) (ack-numbered h.journal w t i held)

  ack-front : (w : ℕ) (b : List Ack) → (end_at w h).back ≡ b → CallFor h (W.ack w)
  ack-front w [] e = record { call = ack w (ack-given w (record { 0 = 0 }) 0).gave; same = refl; made = rw e tt }
  ack-front w (a ∷ rest) e =
      let g = ack-given w a.term a.index in
      record { call = ack w g.gave; same = refl; made = rw e g.meets }

  pub call-ack : (w : ℕ) → CallFor h (W.ack w)
  call-ack w = ack-front w (end_at w h).back refl

  pub call-late : (w : ℕ) (t : Term) (i : ℕ) → is_late w t h ≡ true → CallFor h (W.late-ack w t i)
  call-late w t i late =
      let g = ack-given w t i in record { call = late-ack w t (record { 0 = i }) g.gave; same = refl; made = (late, g.meets) }

  pub call-drop : (w : ℕ) → CallFor h (W.drop w)
  call-drop w =
      let g = lawful-given (drop_rule-lawful h.journal w held) (drop-numbered h.journal w held) in
      record { call = drop w g.gave; same = refl; made = g.meets }

  pub call-join : (w : ℕ) → CallFor h (W.join w)
  call-join w =
      let report : ℕ = report_of (end_at w h) in
      let g = lawful-given (join_rule-lawful h.journal w report held) (join-numbered h.journal w report held) in
      record { call = join w g.gave; same = refl; made = g.meets }

  pub call-append : (e : Entry) → count_of h.journal < 65535 → CallFor h (W.append e)
  call-append e room = record { call = append e; same = refl; made = room }
