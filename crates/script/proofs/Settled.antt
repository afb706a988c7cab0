-- The steps that call the player and also change a line: by one law, Join and Ack. And a Take or an Ack at an empty line.
use Rattle.std.specs.Prelude.{ℕ, ◌<◌, ◌≡◌, Bool, true, length, get_or, drop, ltb}
use Rattle.std.proofs.Math.Path.{refl, ap}
use Rattle.std.proofs.Common.{sym, ap₂, ◌∙◌, arith, lt-ltb, ltb-true}
use mathlib.Core.List.{List, [], ◌∷◌, map}
use Rattle.std.proofs.Math.Bool.{false, cond}
use Rattle.lists.specs.Cells.{front}
use Rattle.journal.specs.declared.Entry.{Entry}
use Rattle.journal.specs.Entry.{in_shape, entries_of}
use Rattle.rules.specs.View.{WindowView, PlayerView}
use Rattle.rules.specs.Rules.{Outcome, with_window, ack_rule, join_rule}
use Rattle.rules.proofs.Offers.{ack_rule-done, join_rule-done}
use Rattle.player.specs.declared.Played.{Played}
use Rattle.player.specs.View.{player_of}
use Rattle.player.specs.Promise.{Meets}
use Rattle.window.specs.Promise.{number_of}
use Rattle.delivery.specs.World.{Side, World, side_at, numbers_in, player_in, with_view, with_lines, answered, called_then}
use Rattle.delivery.specs.World.{take_at_line, ack_at_line, cleared, rejoined}
use Rattle.delivery.specs.World as W
use Rattle.delivery.proofs.Offers.{called_then-done}
use Rattle.script_line.specs.declared.Step.{Step}
use Rattle.script_line.specs.declared.Step.TheVariants.{At}
use Rattle.script_line.specs.declared.Verb.TheVariants.{Ack, Join, Take}
use Rattle.script.specs.declared.line.Ack as declared
use Rattle.script.specs.declared.line.Line.{Line}
use Rattle.script.specs.declared.settle.Settled.{Settled}
use Rattle.script.specs.declared.Stage.{Stage}
use Rattle.script.specs.declared.Reply.TheVariants.{Answered, Empty}
use Rattle.queue.specs.Items.{items_in}
use Rattle.script.specs.Line.{no_ack, world_sent, world_ack, sent_in, acks_in, fresh_line, AckedOff, sent_in-none, acks_in-none, acks_in-first}
use Rattle.script.specs.Stage.{side_of, world_of, forget, forgotten, step_in, record_in, line_in}
use Rattle.script.specs.Promise.{Steps}
use Rattle.script.specs.Stored.{slot_in, outcome_at, settled_as, Relined, stored_by}
use Rattle.script.proofs.Worlds.{player_of-count, changed, world_of-forgotten, world_of-count, Staged, world_of-side, world_of-turned}
use Rattle.script.proofs.Calls.{steps-as, rule-here}

-- a line that is not empty is a window's
pub line_in-within : (s : Stage) (w : ℕ) (size : Line → ℕ) → size fresh_line ≡ 0 → 0 < size (line_in w s) → w < s.player.count
line_in-within s w size none some = by (ltb w s.player.count) refl
  where
    by : (b : Bool) → ltb w s.player.count ≡ b → w < s.player.count
    by true e = ltb-true _ _ e
    by false e = let n : 0 < size fresh_line = rw e at some in absurd (omega arith)

-- where a call of the player is answered 0: a turn of window w, and the line with which the stage shows what g makes of its side
pub record Turned (j : List Entry) (s : Stage) (w : ℕ) (o : Outcome) (g : Side → Side) (l : Line) : Type 0 where
  pub within : w < s.player.count
  pub view : WindowView
  pub next : o.next ≡ with_window w view (player_of s.player)
  pub side : side_of view (record_in w s) l ≡ forget (g (with_view view (side_at w (world_of j s))))

module _ (j : List Entry) (s : Stage) (h : Staged s) where
  abbrev wd : World
  wd = world_of j s

  -- ------------------------------------------------------------------------
  -- a window's side

  record-here : (w : ℕ) → (side_at w wd).record' ≡ record_in w s
  record-here w = ap (λ p. p.record') (world_of-side j s h w)

  pub line-here : (w : ℕ) → (side_at w wd).line ≡ map world_sent (sent_in (line_in w s).entries)
  line-here w = ap (λ p. p.line) (world_of-side j s h w)

  pub back-here : (w : ℕ) → (side_at w wd).back ≡ map world_ack (acks_in (line_in w s).acks)
  back-here w = ap (λ p. p.back) (world_of-side j s h w)

  -- other lines, as the stage shows them
  pub lines-side : (w : ℕ) (v : WindowView) (l : Line) (a : List W.Sent) (b : List W.Ack) →
      map world_sent (sent_in l.entries) ≡ a → map world_ack (acks_in l.acks) ≡ b →
      side_of v (record_in w s) l ≡ forget (with_lines a b (with_view v (side_at w wd)))
  lines-side w v l a b is are =
      ap₂ (λ a b. record { view = v; record' = record_in w s; line = a; back = b; taken = [] }) is are
      ∙ ap (λ r. record { view = v; record' = r; line = a; back = b; taken = [] }) (sym (record-here w))

  -- ------------------------------------------------------------------------
  -- an empty line

  nothing-steps : (st : Step) (w : ℕ) →
      W.step (step_in wd st) wd ≡ cond (ltb w (length wd.sides)) (W.stays W.empty wd) (W.stays (answered 2) wd) →
      Steps j s st (record { reply = cond (ltb w s.player.count) Empty (Answered 2); stage = s })
  nothing-steps st w is =
      by (ltb w s.player.count) (is ∙ ap (λ n. cond (ltb w n) (W.stays W.empty wd) (W.stays (answered 2) wd)) (world_of-count j s))
    where
      by : (b : Bool) → W.step (step_in wd st) wd ≡ cond b (W.stays W.empty wd) (W.stays (answered 2) wd) →
          Steps j s st (record { reply = cond b Empty (Answered 2); stage = s })
      by true e = steps-as j s st (W.stays W.empty wd) _ e refl (sym (world_of-forgotten j s))
      by false e = steps-as j s st (W.stays (answered 2) wd) _ e refl (sym (world_of-forgotten j s))

  pub take-nothing : (w : ℕ) → (line_in w s).entries.len ≡ 0 →
      Steps j s (At Take w) (record { reply = cond (ltb w s.player.count) Empty (Answered 2); stage = s })
  unfolding W.step_by
  take-nothing w none =
      nothing-steps (At Take w) w
      (ap (λ l. cond (ltb w (length wd.sides)) (take_at_line w false l wd) (W.stays (answered 2) wd))
      (line-here w ∙ ap (map world_sent) (sent_in-none (line_in w s).entries none)))

  pub ack-nothing : (w : ℕ) → (line_in w s).acks.len ≡ 0 →
      Steps j s (At Ack w) (record { reply = cond (ltb w s.player.count) Empty (Answered 2); stage = s })
  unfolding W.step_by
  ack-nothing w none =
      nothing-steps (At Ack w) w
      (ap (λ l. cond (ltb w (length wd.sides)) (ack_at_line w l wd) (W.stays (answered 2) wd))
      (back-here w ∙ ap (map world_ack) (acks_in-none (line_in w s).acks none)))

  -- ------------------------------------------------------------------------
  -- a call answered 0 that changes a line

  -- the stage shows what the world's change gives: f makes g of window w's side, and changes nothing else but history
  pub turned-steps : (st : Step) (w : ℕ) (r : Played) (o : Outcome) (x : Settled) (g : Side → Side) (f : World → World) →
      ((y : World) → forgotten (f y) ≡ forgotten (changed w g y)) → W.step (step_in wd st) wd ≡ called_then o f wd →
      Meets s.player r o → number_of r.answer ≡ 0 →
      x ≡ settled_as (slot_in w s) x.line → Turned j s w o g x.line → Steps j s st (stored_by s w r.player x)
  turned-steps st w r o x g f same is k zero own d =
      rw own
      (steps-as j s st _ _ is (ap answered (sym zero ∙ k.answer))
      (world_of-turned j s h w r.player o.next d.view x.line g d.within k.next d.next d.side
      ∙ sym (ap forgotten (called_then-done o f wd (sym k.answer ∙ zero)) ∙ same (W.with_player o.next wd))))

-- ------------------------------------------------------------------------
-- Join, Ack

module _ (ns : List ℕ) (s : Stage) (h : Staged s) (e : in_shape ns ≡ true) (w : ℕ) where
  abbrev here : World
  here = world_of (entries_of ns) s

  abbrev player : PlayerView
  player = player_of s.player

  pub join-calls : W.step (step_in here (At Join w)) here ≡ called_then (outcome_at ns s.player (slot_in w s) (At Join w)) (rejoined w) here
  unfolding W.step_by
  join-calls =
      ap (λ own. called_then (join_rule (numbers_in here) w own.last.0 (player_in here)) (rejoined w) here)
      (record-here (entries_of ns) s h w)
      ∙ ap (λ o. called_then o (rejoined w) here) (rule-here ns s h e (λ n p. join_rule n w (record_in w s).last.0 p))

  pub join-steps : (r : Played) (x : Settled) → Meets s.player r (outcome_at ns s.player (slot_in w s) (At Join w)) →
      number_of r.answer ≡ 0 → x ≡ settled_as (slot_in w s) fresh_line → Steps (entries_of ns) s (At Join w) (stored_by s w r.player x)
  unfolding items_in front forgotten
  join-steps r x k zero own =
      let d = join_rule-done ns w (record_in w s).last.0 player (sym k.answer ∙ zero) in
      rw own
      (turned-steps (entries_of ns) s h (At Join w) w r _ (settled_as (slot_in w s) fresh_line) cleared (rejoined w) (λ y. refl) join-calls k
      zero refl
      (record {
        within = omega (arith, d.within, player_of-count s.player);
        view = _;
        next = d.next;
        side = lines-side (entries_of ns) s h w _ fresh_line [] [] refl refl;
      }))

  -- Ack with the front ack, and the line without it
  module _ (some : 0 < (line_in w s).acks.len) where
    abbrev rest : List W.Ack
    rest = map world_ack (drop 1 (acks_in (line_in w s).acks))

    abbrev pub without_ack : Side → Side
    without_ack p = with_lines p.line rest p

    within : w < s.player.count
    within = line_in-within s w (λ l. l.acks.len) refl some

    first : acks_in (line_in w s).acks ≡ get_or (line_in w s).acks.cells 0 no_ack ∷ drop 1 (acks_in (line_in w s).acks)
    first = acks_in-first (line_in w s).acks _ some refl

    pub ack-calls : W.step (step_in here (At Ack w)) here
        ≡ called_then (outcome_at ns s.player (slot_in w s) (At Ack w)) (changed w without_ack) here
    unfolding W.step_by
    ack-calls =
        let ack : declared.Ack = (slot_in w s).ack in
        simp (lt-ltb w (length here.sides) (omega (arith, within, world_of-count (entries_of ns) s)))
        (ap (λ b. ack_at_line w b here) (back-here (entries_of ns) s h w ∙ ap (map world_ack) first))
        ∙ ap (λ o. called_then o (changed w without_ack) here) (rule-here ns s h e (λ n p. ack_rule n w ack.term ack.index.0 p))

    pub ack-steps : (r : Played) (x : Settled) → Meets s.player r (outcome_at ns s.player (slot_in w s) (At Ack w)) →
        number_of r.answer ≡ 0 → Relined (slot_in w s) (AckedOff (line_in w s)) x →
        Steps (entries_of ns) s (At Ack w) (stored_by s w r.player x)
    ack-steps r x k zero own =
        let j : List Entry = entries_of ns in
        turned-steps j s h (At Ack w) w r _ x without_ack (changed w without_ack) (λ y. refl) ack-calls k zero own.is
        (record {
          within = within;
          view = _;
          next = (ack_rule-done ns w _ _ player (sym k.answer ∙ zero)).next;
          side = lines-side j s h w _ x.line (side_at w here).line rest
              (ap (λ e. map world_sent (sent_in e)) own.line.entries ∙ sym (line-here j s h w)) (ap (map world_ack) own.line.acks);
        })
