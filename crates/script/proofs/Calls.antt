-- What the world makes of a step that calls the player: refused, nothing; and answered 0 where no line changes, the player's call alone.
use Rattle.std.specs.Prelude.{ℕ, ◌+◌, ◌<◌, ◌≡◌, List, Bool, length, leb}
use Rattle.std.proofs.Math.Path.{refl, sym, ap}
use Rattle.std.proofs.Common.{ap₂, ◌∙◌, arith, leb-true, ne_eqb, length-set}
use Rattle.std.proofs.Math.Bool.{true, false}
use Rattle.lists.specs.Cases.{and_left, and_right}
use Rattle.journal.specs.declared.Entry.{Entry}
use Rattle.journal.specs.Entry.{in_shape, entries_of}
use Rattle.rules.specs.View.{WindowView, PlayerView}
use Rattle.rules.specs.Shape.{shape}
use Rattle.rules.specs.Window.{Turn}
use Rattle.rules.specs.Rules.{Outcome, window_at, operate, main_rule, catch_rule, written_rule, drop_rule}
use Rattle.rules.proofs.Offers.{shaped, operate-cases}
use Rattle.player.specs.declared.Played.{Played}
use Rattle.player.specs.View.{player_of}
use Rattle.journal.specs.EntryLaws.{in_shape-entries}
use Rattle.player.specs.Promise.{Meets}
use Rattle.window.specs.Promise.{number_of}
use Rattle.delivery.specs.World.{World, side_at, numbers_in, player_in, answered, called, called_then}
use Rattle.delivery.specs.World as W
use Rattle.delivery.proofs.Offers.{with_player-same, called_then-refused}
use Rattle.script_line.specs.declared.Step.{Step}
use Rattle.script_line.specs.declared.Step.TheVariants.{Main, At}
use Rattle.script_line.specs.declared.Verb.TheVariants.{Catch, Written, Drop}
use Rattle.script.specs.declared.Stage.{Stage}
use Rattle.script.specs.declared.Reply.TheVariants.{Answered}
use Rattle.script.specs.declared.Stepped.{Stepped}
use Rattle.script.specs.Stage.{world_of, forgotten, due_in, step_in, reply_of, window_of, line_in}
use Rattle.script.specs.Promise.{playable, Playable, Steps}
use Rattle.script.specs.Stored.{slot_in, outcome_at, index_after, settled_as, stored_by}
use Rattle.script.proofs.Worlds.{world_of-numbers, world_of-forgotten, Staged, world_of-player, world_of-side, world_of-called}
use Rattle.script.proofs.Worlds.{stored_at-same}

-- ------------------------------------------------------------------------
-- playable, Steps

pub playable-facts : (ns : List ℕ) (s : Stage) (st : Step) → playable ns s st ≡ true → Playable ns s (window_of st)
playable-facts ns s st h =
    let room = and_right (in_shape ns) _ h in
    let line = and_right (leb s.player.count 16) _ room in
    let few = leb (line_in (window_of st) s).entries.len 16 in
    record {
      journal = and_left (in_shape ns) _ h;
      room = record {
        few = leb-true s.player.count 16 (and_left (leb s.player.count 16) _ room);
        entries = leb-true _ 16 (and_left few _ line);
        acks = leb-true _ 8 (and_right few _ line);
      };
    }

-- a step whose outcome in the world is known
pub steps-as : (j : List Entry) (s : Stage) (st : Step) (x : W.Stepped) (r : Stepped) → W.step (step_in (world_of j s) st) (world_of j s) ≡ x →
    reply_of r.reply ≡ x.reply → world_of j r.stage ≡ forgotten x.world → Steps j s st r
steps-as j s st x r is reply world = record {
  reply = reply ∙ sym (ap (λ x. x.reply) is);
  world = world ∙ sym (ap (λ x. forgotten x.world) is);
}

-- an operation at a window keeps the number of windows
pub operate-count : (ns : List ℕ) (w : ℕ) (f : WindowView → Turn) (p : PlayerView) →
    length (operate ns w f p).next.windows ≡ length p.windows
operate-count ns w f p =
    operate-cases ns w f p (λ o. length o.next.windows ≡ length p.windows) refl refl (λ s h. length-set p.windows w _)

module _ (ns : List ℕ) (s : Stage) (h : Staged s) (e : in_shape ns ≡ true) where
  abbrev wd : World
  wd = world_of (entries_of ns) s

  abbrev player : PlayerView
  player = player_of s.player

  -- ------------------------------------------------------------------------
  -- a call refused

  pub refused-steps : (st : Step) (r : Played) (o : Outcome) (f : World → World) → W.step (step_in wd st) wd ≡ called_then o f wd →
      Meets s.player r o → (number_of r.answer ≡ 0 → ⊥) →
      Steps (entries_of ns) s st (record { reply = Answered (number_of r.answer); stage = s })
  refused-steps st r o f is k n =
      let j : List Entry = entries_of ns in
      let no : o.answer ≡ 0 → ⊥ = λ z. n (k.answer ∙ z) in
      let same : o.next ≡ player_in wd = sym k.next ∙ ap player_of (k.unchanged no) ∙ sym (world_of-player j s h) in
      steps-as j s st _ _ is (ap answered k.answer)
      (sym (world_of-forgotten j s) ∙ sym (ap forgotten (called_then-refused o f wd no ∙ with_player-same wd o.next same)))

  -- ------------------------------------------------------------------------
  -- a call that changes no line

  pub called-steps : (st : Step) (w : ℕ) (r : Played) (o : Outcome) → W.step (step_in wd st) wd ≡ called o wd → Meets s.player r o →
      length o.next.windows ≡ length player.windows → number_of r.answer ≡ 0 → w < s.player.count →
      Steps (entries_of ns) s st (stored_by s w r.player (settled_as (slot_in w s) (line_in w s)))
  called-steps st w r o is k same zero within =
      steps-as (entries_of ns) s st (called o wd) _ is (ap answered (sym zero ∙ k.answer))
      (ap (world_of (entries_of ns)) (stored_at-same s w r.player within)
      ∙ world_of-called (entries_of ns) s h r.player o.next k.next same)

  -- ------------------------------------------------------------------------
  -- the calls that change no line

  -- a rule at the world's journal and player is the rule at the stage's
  pub rule-here : {A : Type 0} (f : List ℕ → PlayerView → A) → f (numbers_in wd) (player_in wd) ≡ f ns player
  rule-here f = ap₂ f (world_of-numbers ns s e) (world_of-player (entries_of ns) s h)

  -- the view at a side is the player's window
  view-here : (w : ℕ) → (side_at w wd).view ≡ window_at w player
  view-here w = ap (λ p. p.view) (world_of-side (entries_of ns) s h w)

  -- out of shape the index offered does not matter
  main_rule-due : (i : ℕ) (p : PlayerView) → (p.current < 4294967295 → i ≡ p.current + 1) →
      main_rule ns i p ≡ main_rule ns (p.current + 1) p
  unfolding main_rule
  main_rule-due i p due = go (shape ns p) refl
    where
      go : (b : Bool) → shape ns p ≡ b → main_rule ns i p ≡ main_rule ns (p.current + 1) p
      go true g = ap (λ i. main_rule ns i p) (due (omega (arith, (shaped ns p g).current_in, in_shape-entries ns e)))
      go false g = simp g

  pub main-calls : W.step (step_in wd Main) wd ≡ called (outcome_at ns s.player (slot_in 0 s) Main) wd
  unfolding W.step_by world_of player_of
  main-calls =
      ap (λ o. called o wd)
      (rule-here (λ n p. main_rule n (s.player.current.0 + 1) p)
      ∙ sym (main_rule-due (index_after s.player.current).0 player
      (λ l. rw (ne_eqb s.player.current.0 4294967295 (λ z. omega arith)))))

  module _ (w : ℕ) where
    pub catch-calls : W.step (step_in wd (At Catch w)) wd ≡ called (outcome_at ns s.player (slot_in w s) (At Catch w)) wd
    unfolding W.step_by
    catch-calls =
        ap (λ v. W.step (W.catch w v.term (due_in v.condition)) wd) (view-here w)
        ∙ ap (λ o. called o wd) (rule-here (λ n p. catch_rule n w (window_at w player).term (due_in (window_at w player).condition) p))

    pub written-calls : W.step (step_in wd (At Written w)) wd ≡ called (outcome_at ns s.player (slot_in w s) (At Written w)) wd
    unfolding W.step_by
    written-calls =
        ap (λ v. W.step (W.written w v.term) wd) (view-here w)
        ∙ ap (λ o. called o wd) (rule-here (λ n p. written_rule n w (window_at w player).term p))

    pub drop-calls : W.step (step_in wd (At Drop w)) wd ≡ called (outcome_at ns s.player (slot_in w s) (At Drop w)) wd
    unfolding W.step_by
    drop-calls = ap (λ o. called o wd) (rule-here (λ n p. drop_rule n w p))
