-- A step that asks something of the player is what its call, and what that leaves at its window, make of the stage.
use Rattle.std.specs.Prelude.{ℕ, ◌<◌, ◌≡◌, refl, List, Bool, true, cond, not, ◌||◌, eqb, Err}
use Rattle.std.proofs.Common.{sym, ap, ◌∙◌, true≢false, pos_of_ne-zero, arith, length-set, drop-set-lt}
use Rattle.std.proofs.Math.Bool.{false}
use Rattle.std.proofs.lemmas.Bool.{eqb-false}
use Rattle.journal.specs.Entry.{Placed, in_shape, entries_of, five_of}
use Rattle.record.specs.declared.Record.{Record}
use Rattle.record.specs.Record.{Outcome, record_after, take_entry, take_numbers}
use Rattle.rules.specs.View.{PlayerView}
use Rattle.rules.specs.Rules.{catch_rule, written_rule, drop_rule}
use Rattle.rules.proofs.Offers.{shaped, main_rule-done, main_rule-count, catch_rule-lawful, send_rule-done, written_rule-lawful}
use Rattle.rules.proofs.Offers.{ack_rule-done, drop_rule-lawful, join_rule-done}
use Rattle.player.specs.declared.Player.{Player}
use Rattle.player.specs.declared.Played.{Played}
use Rattle.player.specs.View.{player_of}
use Rattle.player.specs.Promise.{Meets}
use Rattle.window.specs.declared.Refusal.{Refusal}
use Rattle.window.specs.Promise.{refusal_number, number_of}
use Rattle.window.proofs.Refused.{refused-not-0}
use Rattle.delivery.specs.World.{World, rejoined}
use Rattle.delivery.proofs.Offers.{called-then}
use Rattle.script_line.specs.declared.Step.{Step}
use Rattle.script_line.specs.declared.Verb.{Verb}
use Rattle.script_line.specs.declared.Step.TheVariants.{Main, At}
use Rattle.script_line.specs.declared.Verb.TheVariants.{Catch, Send, Written, Ack, Drop, Join, Take}
use Rattle.script.specs.declared.slot.Slot.{Slot}
use Rattle.script.specs.declared.settle.Settled.{Settled}
use Rattle.script.specs.declared.Stage.{Stage}
use Rattle.script.specs.declared.Reply.TheVariants.{Answered}
use Rattle.script.specs.Stage.{world_of, window_of, line_in}
use Rattle.script.specs.Promise.{is_refusal, Steps, Plays}
use Rattle.script.specs.Stored.{slot_in, lacks, outcome_at, output_at, Made, Settles, stored_by}
use Rattle.script.proofs.Worlds.{player_of-count, changed, Staged}
use Rattle.script.proofs.Calls.{playable-facts, operate-count, refused-steps, called-steps, main-calls, catch-calls, written-calls}
use Rattle.script.proofs.Calls.{drop-calls}
use Rattle.script.proofs.Settled.{line_in-within, join-calls, join-steps, without_ack, ack-calls, ack-steps}
use Rattle.script.proofs.Takes.{take_steps}
use Rattle.script.proofs.Sends.{with_batch, send-calls, send-steps}
use Rattle.script.proofs.EarlyLaws.{plays-still, GoesOn}

-- ------------------------------------------------------------------------
-- Made

-- of Main, and of a verb
pub made-main : (ns : List ℕ) (p : Player) (x : Slot) {st : Step} {r r' : Played} {out : List ℕ} → st ≡ Main → r ≡ r' →
    out ≡ output_at ns p Main → Meets p r' (outcome_at ns p x Main) → Made ns p x st r out
made-main ns p x from is wrote meets = record { meets = rw (from, is) meets; wrote = rw from wrote }

pub made_at : (ns : List ℕ) (p : Player) (x : Slot) {st : Step} {verb v : Verb} {w : ℕ} {r r' : Played} {out out' : List ℕ} →
    st ≡ At verb w → verb ≡ v → r ≡ r' → out ≡ out' → Meets p r' (outcome_at ns p x (At v w)) → out' ≡ output_at ns p (At v w) →
    Made ns p x st r out
made_at ns p x from told is output meets wrote = record { meets = rw (from, told, is) meets; wrote = rw (from, told, output) wrote }

-- Take asks nothing
pub unasked : (p : Player) (r : Played) → r.player ≡ p → number_of r.answer ≡ 0 → Meets p r (record { answer = 0; next = player_of p })
unasked p r same zero = record {
  answer = zero;
  next = ap player_of same;
  unchanged = λ n. absurd (n refl);
  above = rw same;
}

-- ------------------------------------------------------------------------
-- Settles

-- a Take of an entry is answered 0 or 15
take_numbers-answer : (p : Placed) (own : Record) →
    not (eqb (take_numbers (five_of p) own).number 0 || eqb (take_numbers (five_of p) own).number 15) ≡ false
unfolding take_numbers take_entry
take_numbers-answer p own = by (eqb own.count 4294967295)
  where
    by : (b : Bool) →
        let o : Outcome = cond b (record { number = 15; record' = own }) (record { number = 0; record' = record_after p own }) in
        not (eqb o.number 0 || eqb o.number 15) ≡ false
    by true = refl
    by false = refl

settles-reply : (x : Slot) (st : Step) (out : List ℕ) (y : Settled) → Settles x st out y → is_refusal y.reply ≡ false
settles-reply x Main out y f = rw f
settles-reply x (At Catch w) out y f = rw f
settles-reply x (At Send w) out y f = ap (λ y. is_refusal y.reply) f.is
settles-reply x (At Written w) out y f = rw f
settles-reply x (At Ack w) out y f = ap (λ y. is_refusal y.reply) f.is
settles-reply x (At Drop w) out y f = rw f
settles-reply x (At Join w) out y f = rw f
settles-reply x (At Take w) out y f = ap is_refusal f.reply ∙ take_numbers-answer _ x.record

-- ------------------------------------------------------------------------
-- Steps

module _ (ns : List ℕ) (s : Stage) (h : Staged s) (e : in_shape ns ≡ true) where
  abbrev wd : World
  wd = world_of (entries_of ns) s

  abbrev player : PlayerView
  player = player_of s.player

  abbrev slot : Step → Slot
  slot st = slot_in (window_of st) s

  -- a step that is answered 0 is at a window that is there
  pub step-within : (st : Step) → lacks (slot st) st ≡ false → (outcome_at ns s.player (slot st) st).answer ≡ 0 →
      window_of st < s.player.count
  step-within Main has z = omega (arith, (shaped ns player (main_rule-done ns _ player z).shaped).some, player_of-count s.player)
  step-within (At Catch w) has z = omega (arith, ((catch_rule-lawful ns w _ _ player).does z).within, player_of-count s.player)
  step-within (At Send w) has z = omega (arith, (send_rule-done ns w 10 player z).within, player_of-count s.player)
  step-within (At Written w) has z = omega (arith, ((written_rule-lawful ns w _ player).does z).within, player_of-count s.player)
  step-within (At Ack w) has z = omega (arith, (ack_rule-done ns w _ _ player z).within, player_of-count s.player)
  step-within (At Drop w) has z = omega (arith, ((drop_rule-lawful ns w player).does z).within, player_of-count s.player)
  step-within (At Join w) has z = omega (arith, (join_rule-done ns w _ player z).within, player_of-count s.player)
  step-within (At Take w) has z = line_in-within s w (λ l. l.entries.len) refl (pos_of_ne-zero (eqb-false _ _ has))

  step-refuses : (st : Step) (r : Played) → lacks (slot st) st ≡ false → Meets s.player r (outcome_at ns s.player (slot st) st) →
      (number_of r.answer ≡ 0 → ⊥) → Steps (entries_of ns) s st (record { reply = Answered (number_of r.answer); stage = s })
  step-refuses Main r has k n = refused-steps ns s h e Main r _ (λ x. x) (main-calls ns s h e ∙ called-then _ wd) k n
  step-refuses (At Catch w) r has k n = refused-steps ns s h e _ r _ (λ x. x) (catch-calls ns s h e w ∙ called-then _ wd) k n
  step-refuses (At Send w) r has k n = refused-steps ns s h e _ r _ (changed w (with_batch ns s h e w)) (send-calls ns s h e w) k n
  step-refuses (At Written w) r has k n = refused-steps ns s h e _ r _ (λ x. x) (written-calls ns s h e w ∙ called-then _ wd) k n
  step-refuses (At Ack w) r has k n =
      let some : 0 < (line_in w s).acks.len = pos_of_ne-zero (eqb-false _ _ has) in
      refused-steps ns s h e _ r _ (changed w (without_ack ns s h e w some)) (ack-calls ns s h e w some) k n
  step-refuses (At Drop w) r has k n = refused-steps ns s h e _ r _ (λ x. x) (drop-calls ns s h e w ∙ called-then _ wd) k n
  step-refuses (At Join w) r has k n = refused-steps ns s h e _ r _ (rejoined w) (join-calls ns s h e w) k n
  step-refuses (At Take w) r has k n = absurd (n k.answer)

  step-does : (st : Step) (r : Played) (out : List ℕ) (y : Settled) → lacks (slot st) st ≡ false →
      Made ns s.player (slot st) st r out → number_of r.answer ≡ 0 → Settles (slot st) st out y →
      Steps (entries_of ns) s st (stored_by s (window_of st) r.player y)
  unfolding catch_rule written_rule drop_rule
  step-does st r out y has k z f = by st has k f (step-within st has (sym k.meets.answer ∙ z))
    where
      by : (st : Step) → lacks (slot st) st ≡ false → Made ns s.player (slot st) st r out → Settles (slot st) st out y →
          window_of st < s.player.count → Steps (entries_of ns) s st (stored_by s (window_of st) r.player y)
      by Main has k f l = rw f (called-steps ns s h e Main _ r _ (main-calls ns s h e) k.meets (main_rule-count ns _ player) z l)
      by (At Catch w) has k f l = rw f (called-steps ns s h e _ w r _ (catch-calls ns s h e w) k.meets (operate-count ns w _ player) z l)
      by (At Send w) has k f l = send-steps ns s h e w r y out k.meets z k.wrote f
      by (At Written w) has k f l =
          rw f (called-steps ns s h e _ w r _ (written-calls ns s h e w) k.meets (operate-count ns w _ player) z l)
      by (At Ack w) has k f l = ack-steps ns s h e w (pos_of_ne-zero (eqb-false _ _ has)) r y k.meets z f
      by (At Drop w) has k f l = rw f (called-steps ns s h e _ w r _ (drop-calls ns s h e w) k.meets (operate-count ns w _ player) z l)
      by (At Join w) has k f l = join-steps ns s h e w r y k.meets z f
      by (At Take w) has k f l =
          take_steps (entries_of ns) s h w r.player y k.meets.next (pos_of_ne-zero (eqb-false _ _ has)) f

-- ------------------------------------------------------------------------
-- Plays

module _ (ns : List ℕ) (s : Stage) (st : Step) (x : Slot) (on : GoesOn ns s st x) (r : Played) (out : List ℕ)
    (k : Made ns s.player x st r out) where
  journal : in_shape ns ≡ true
  journal = (playable-facts ns s st on.can).journal

  lacks-here : lacks (slot_in (window_of st) s) st ≡ false
  lacks-here = ap (λ x. lacks x st) (sym on.here) ∙ on.has

  made-here : Made ns s.player (slot_in (window_of st) s) st r out
  made-here = rw on.here at k

  pub plays-within : number_of r.answer ≡ 0 → window_of st < s.player.count
  plays-within z = step-within ns s on.held journal st lacks-here (sym made-here.meets.answer ∙ z)

  pub plays-refused : {x : Refusal} {n : ℕ} → r.answer ≡ Err x → n ≡ refusal_number x →
      Plays ns s st (record { reply = Answered n; stage = s })
  plays-refused {x} {n} refuses is =
      let of : n ≡ number_of r.answer = is ∙ ap number_of (sym refuses) in
      plays-still ns s st _ on.held.records on.held.lines
      (λ c. rw of (step-refuses ns s on.held journal st r lacks-here made-here.meets (λ z. refused-not-0 x (sym is ∙ of ∙ z))))
      (λ c. absurd (true≢false (sym on.can ∙ c)))

  pub plays-done : {w : ℕ} (y : Settled) → w ≡ window_of st → number_of r.answer ≡ 0 → Settles x st out y →
      Plays ns s st (stored_by s w r.player y)
  plays-done y is z f =
      let l = plays-within z in
      rw is
      (record {
        played = λ c. step-does ns s on.held journal st r out y lacks-here made-here z (rw on.here at f);
        stuck = λ c. absurd (true≢false (sym on.can ∙ c));
        refused = λ c. absurd (true≢false (sym c ∙ settles-reply x st out y f));
        above = record {
          windows = k.meets.above;
          records = drop-set-lt s.player.count s.records (window_of st) y.record l;
          lines = drop-set-lt s.player.count s.lines (window_of st) y.line l;
        };
        records = length-set s.records (window_of st) y.record ∙ on.held.records;
        lines = length-set s.lines (window_of st) y.line ∙ on.held.lines;
      })
