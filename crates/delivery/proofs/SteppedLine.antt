-- The steps that reach a line: Join, Send, Ack and Take.
use Rattle.std.specs.Prelude.{ℕ, ◌≤◌, ◌<◌, ◌≡◌, List, [], ◌∷◌, ◌++◌, Bool, true}
use Rattle.std.proofs.Math.Path.{refl, ap, subst⁻¹}
use Rattle.std.proofs.Common.{sym, ◌∙◌}
use Rattle.std.proofs.Math.Logic.{⊎_elim}
use borrow.Author.Tests.{eq-eqb, ne_eqb, lt-ltb, le-ltb}
use Rattle.std.proofs.Math.ListN.{length}
use Rattle.lists.specs.Cases.{le-or-lt}
use Rattle.rules.specs.View.{WindowView}
use Rattle.rules.specs.Shape.{shape}
use Rattle.rules.specs.Window.{batch_of}
use Rattle.rules.specs.Rules.{ack_rule, join_rule, send_rule}
use Rattle.rules.proofs.Offers.{send_effect, send_rule-lawful, ack_effect, ack_rule-lawful, join_effect, join_rule-lawful}
use Rattle.delivery.specs.World.{Sent, Ack, Side, World, side_at, numbers_in, player_in, with_view, with_lines, with_side, raised, on_line, take_front, send, ack, join, answered, empty, launch, take_at_line, ack_at_line, cleared, rejoined, step, step_by}
use Rattle.delivery.specs.World as W
use Rattle.delivery.proofs.Invariant.{last_of}
use Rattle.delivery.proofs.Worlds.{window-in, with_side-here, with_side-twice, with_window-same}
use Rattle.delivery.proofs.Effects.{WorksAt, joined_view, Facts, joining}
use Rattle.delivery.proofs.Effects as E
use Rattle.delivery.proofs.Stepped.{idle-facts, CallOf, CallAt, call-turn, call-works, call_facts, shape-after, works-facts}

module _ (wd : World) (shaped : shape (numbers_in wd) (player_in wd) ≡ true) where
  -- ------------------------------------------------------------------------
  -- Join

  join-call : (w : ℕ) →
      CallOf (join w) wd w (join_rule (numbers_in wd) w (last_of (side_at w wd)) (player_in wd))
      (join_effect wd.current (last_of (side_at w wd))) (rejoined w)
  unfolding step_by
  join-call w = record { lawful = join_rule-lawful (numbers_in wd) w (last_of (side_at w wd)) (player_in wd); calls = refl }

  pub facts-join : (w : ℕ) → Facts (join w) wd
  unfolding step_by
  facts-join w =
      call_facts (join-call w) (ne_eqb _ 0)
      (λ e.
      let d = call-turn (join-call w) e in
      let v : WindowView = joined_view wd.current (side_at w wd) in
      let p : Side = with_view v (side_at w wd) in
      let is : (step (join w) wd).world ≡ raised v.term (with_side w (cleared p) wd)
      = d.world
      ∙ ap (λ q. raised q.view.term (with_side w (cleared q) (with_side w p wd))) (with_side-here w p wd d.within)
      ∙ ap (raised v.term) (with_side-twice w p (cleared p) wd) in
      joining w
      (record {
        is = refl;
        done = eq-eqb _ 0 e;
        within = d.within;
        away = d.turn.away;
        world = is;
        shaped =
            subst⁻¹ (λ x. shape (numbers_in x) (player_in x) ≡ true) is
            (shape-after wd w _ v (cleared p) (with_side w (cleared p) wd) d.next ((join-call w).lawful.shaped shaped) refl refl);
      }))

  -- ------------------------------------------------------------------------
  -- Send

  -- a batch put on the line
  put : ℕ → List ℕ → Side → Side
  put w indices p = with_lines (p.line ++ on_line wd.journal w (side_at w wd).view.term indices) p.back p

  batch_put : ℕ → Side → Side
  batch_put w p = put w (batch_of wd.limit (side_at w wd).view).indices p

  send-call : (w : ℕ) (out : List ℕ) →
      CallAt (send w out) wd w (send_rule (numbers_in wd) w (length out) (player_in wd)) (send_effect wd.limit (length out)) (batch_put w)
  unfolding step_by put batch_put
  send-call w out =
      record {
        change = launch w wd;
        call = record { lawful = send_rule-lawful (numbers_in wd) w (length out) (player_in wd); calls = refl };
        here = λ x. ap (λ v. with_side w (put w (batch_of wd.limit v).indices (side_at w x)) x) (window-in w wd);
        views = λ p. refl;
      }

  pub send-works : (w : ℕ) (out : List ℕ) → (send_rule (numbers_in wd) w (length out) (player_in wd)).answer ≡ 0 → WorksAt (send w out) wd w
  unfolding put batch_put
  send-works w out e = call-works (send-call w out) shaped e (λ c. E.sent (record { out = out; is = refl; tells = c; side = refl }))

  pub facts-send : (w : ℕ) (out : List ℕ) → Facts (send w out) wd
  facts-send w out = call_facts (send-call w out).call (λ n. refl) (λ e. works-facts wd w (send w out) refl (send-works w out e))

  -- ------------------------------------------------------------------------
  -- Ack

  ack-line : (w : ℕ) (b : List Ack) → w < length wd.sides → (side_at w wd).back ≡ b → step (ack w) wd ≡ ack_at_line w b wd
  unfolding step_by
  ack-line w b h front = simp (lt-ltb w (length wd.sides) h) (ap (λ b. ack_at_line w b wd) front)

  ack-call : (w : ℕ) (a : Ack) (rest : List Ack) → w < length wd.sides → (side_at w wd).back ≡ a ∷ rest →
      CallAt (ack w) wd w (ack_rule (numbers_in wd) w a.term a.index (player_in wd)) (ack_effect a.term a.index)
      (λ p. with_lines p.line rest p)
  ack-call w a rest h front =
      record {
        change = λ x. with_side w (with_lines (side_at w x).line rest (side_at w x)) x;
        call = record {
          lawful = ack_rule-lawful (numbers_in wd) w a.term a.index (player_in wd);
          calls = ack-line w (a ∷ rest) h front;
        };
        here = λ x. refl;
        views = λ p. refl;
      }

  pub ack-works : (w : ℕ) (a : Ack) (rest : List Ack) → w < length wd.sides → (side_at w wd).back ≡ a ∷ rest →
      (ack_rule (numbers_in wd) w a.term a.index (player_in wd)).answer ≡ 0 → WorksAt (ack w) wd w
  ack-works w a rest h front e =
      call-works (ack-call w a rest h front) shaped e
      (λ c. E.acked (record { is = refl; offer = a; rest = rest; front = front; tells = c; side = refl }))

  ack-front : (w : ℕ) (b : List Ack) → w < length wd.sides → (side_at w wd).back ≡ b → Facts (ack w) wd
  ack-front w [] h front = idle-facts wd (ack w) empty refl refl (ack-line w [] h front)
  ack-front w (a ∷ rest) h front =
      call_facts (ack-call w a rest h front).call (λ n. refl) (λ e. works-facts wd w (ack w) refl (ack-works w a rest h front e))

  pub facts-ack : (w : ℕ) → Facts (ack w) wd
  unfolding step_by
  facts-ack w =
      ⊎_elim
      (λ (h : length wd.sides ≤ w). idle-facts wd (ack w) (answered 2) refl refl (simp (le-ltb w (length wd.sides) h)))
      (λ (h : w < length wd.sides). ack-front w (side_at w wd).back h refl)
      (le-or-lt (length wd.sides) w)

  -- ------------------------------------------------------------------------
  -- Take

  take-line : (w : ℕ) (acks : Bool) (l : List Sent) → w < length wd.sides → (side_at w wd).line ≡ l →
      step (W.take w acks) wd ≡ take_at_line w acks l wd
  unfolding step_by
  take-line w acks l h front = simp (lt-ltb w (length wd.sides) h) (ap (λ l. take_at_line w acks l wd) front)

  pub take-works : (w : ℕ) (acks : Bool) (s : Sent) (rest : List Sent) → w < length wd.sides → (side_at w wd).line ≡ s ∷ rest →
      WorksAt (W.take w acks) wd w
  unfolding take_front
  take-works w acks s rest h front =
      let done : (step (W.take w acks) wd).world ≡ with_side w (take_front acks s rest (side_at w wd)) wd
      = ap (λ r. r.world) (take-line w acks (s ∷ rest) h front) in
      record {
        within = h;
        after = take_front acks s rest (side_at w wd);
        work =
            E.took
            (record {
              acks = acks;
              is = refl;
              entry = s;
              rest = rest;
              front = front;
              replied = ap (λ r. r.reply) (take-line w acks (s ∷ rest) h front);
              side = refl;
            });
        world = done;
        shaped = shape-after wd w (player_in wd) (side_at w wd).view _ _ (sym (with_window-same w wd)) shaped done refl;
      }

  take-front : (w : ℕ) (acks : Bool) (l : List Sent) → w < length wd.sides → (side_at w wd).line ≡ l → Facts (W.take w acks) wd
  take-front w acks [] h front = idle-facts wd (W.take w acks) empty refl refl (take-line w acks [] h front)
  take-front w acks (s ∷ rest) h front = works-facts wd w (W.take w acks) refl (take-works w acks s rest h front)

  pub facts-take : (w : ℕ) (acks : Bool) → Facts (W.take w acks) wd
  unfolding step_by
  facts-take w acks =
      ⊎_elim
      (λ (h : length wd.sides ≤ w). idle-facts wd (W.take w acks) (answered 2) refl refl (simp (le-ltb w (length wd.sides) h)))
      (λ (h : w < length wd.sides). take-front w acks (side_at w wd).line h refl)
      (le-or-lt (length wd.sides) w)
