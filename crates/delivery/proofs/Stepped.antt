-- A step that calls the player at one window is refused and changes nothing, or does what the law of its rule says: the steps that change
-- no line.
use Rattle.std.specs.Prelude.{ℕ, ◌<◌, ◌≡◌, Bool, true, false, cond, length, ltb, eqb}
use Rattle.std.proofs.Math.Path.{refl, subst⁻¹}
use Rattle.std.proofs.Common.{sym, ap, subst₂, ◌∙◌, arith}
use Rattle.std.proofs.Math.Logic.{⊎_elim}
use borrow.Author.Tests.{eq-eqb, ne_eqb, lt-leb, ltb-true}
use Rattle.std.proofs.lemmas.List.{set-get_or}
use Rattle.lists.specs.Cases.{eq-or-ne, true-or-false}
use Rattle.rules.specs.declared.Term.{Term}
use Rattle.rules.specs.View.{WindowView, PlayerView}
use Rattle.rules.specs.Shape.{shape}
use Rattle.rules.specs.Rules.{Outcome, refuse, window_at, with_window, catch_rule, written_rule, ack_rule, drop_rule}
use Rattle.rules.specs.Refusals.{turned_away}
use Rattle.rules.proofs.Offers.{Effect, LawfulRule, catch_effect, catch_rule-lawful, written_effect, written_rule-lawful, turned_away-some, catch_rule-turned, written_rule-turned, ack_rule-turned, drop_effect, drop_rule-lawful}
use Rattle.delivery.specs.World.{Side, World, no_side, side_at, numbers_in, player_in, with_view, with_player, with_sides, with_side, Step, catch, written, late-ack, drop, Reply, answered, unmade, called, called_then, is_late, step, step_by}
use Rattle.delivery.specs.World as W
use Rattle.delivery.specs.Sorts.{is_done, sort_of, begins}
use Rattle.delivery.proofs.Worlds.{entries-in, window-in, windows-in, with_player-same, with_player-window, with_side-here, with_side-twice, with_side-player}
use Rattle.delivery.proofs.Effects.{Worked, WorksAt, idles, serves, Facts, working, dropping}
use Rattle.delivery.proofs.Effects as E

-- ------------------------------------------------------------------------
-- called, called_then

pub called_then-refused : (o : Outcome) (f : World → World) (wd : World) → (o.answer ≡ 0 → ⊥) →
    (called_then o f wd).world ≡ with_player o.next wd
called_then-refused o f wd n = simp (ne_eqb o.answer 0 n)

pub called_then-done : (o : Outcome) (f : World → World) (wd : World) → o.answer ≡ 0 →
    (called_then o f wd).world ≡ f (with_player o.next wd)
called_then-done o f wd e = simp (eq-eqb o.answer 0 e)

-- a call alone is a call and no change after it
pub called-then : (o : Outcome) (wd : World) → called o wd ≡ called_then o (λ x. x) wd
called-then o wd = go (eqb o.answer 0)
  where
    go : (b : Bool) →
        called o wd ≡ record { reply = answered o.answer; world = cond b (with_player o.next wd) (with_player o.next wd) }
    go true = refl
    go false = refl

-- a call is refused and changes nothing, or does what is known of an answer 0
pub call-either : (wd : World) (s : Step) (o : Outcome) (f : World → World) → step s wd ≡ called_then o f wd →
    ((o.answer ≡ 0 → ⊥) → begins (sort_of s) (eqb o.answer 0) ≡ false) → ((o.answer ≡ 0 → ⊥) → o.next ≡ player_in wd) →
    (o.answer ≡ 0 → Facts s wd) → Facts s wd
call-either wd s o f calls quiet same done =
    ⊎_elim done
    (λ (n : o.answer ≡ 0 → ⊥).
    working (ap (λ r. begins (sort_of s) (is_done r.reply)) calls ∙ quiet n)
    (idles
    (record {
      undone = ap (λ r. is_done r.reply) calls ∙ ne_eqb o.answer 0 n;
      world = ap (λ r. r.world) calls ∙ called_then-refused o f wd n ∙ with_player-same wd o.next (same n);
    })))
    (eq-or-ne o.answer 0)

-- a step that is not made, or that is a Take or an Ack where there is no entry or no window
pub idle-facts : (wd : World) (s : Step) (r : Reply) → begins (sort_of s) false ≡ false → is_done r ≡ false → step s wd ≡ W.stays r wd →
    Facts s wd
idle-facts wd s r quiet idle is =
    let undone : is_done (step s wd).reply ≡ false = ap (λ x. is_done x.reply) is ∙ idle in
    working (ap (begins (sort_of s)) undone ∙ quiet) (idles (record { undone = undone; world = ap (λ x. x.world) is }))

-- a step that does the work of a window is neither a fault nor an append
pub works-facts : (wd : World) (w : ℕ) (s : Step) → begins (sort_of s) (is_done (step s wd).reply) ≡ false → WorksAt s wd w → Facts s wd
works-facts wd w s quiet k = working quiet (serves w k)

-- ------------------------------------------------------------------------
-- one window

pub within_in : (wd : World) (w : ℕ) → w < length (player_in wd).windows → w < length wd.sides
within_in wd w h = omega (arith, windows-in wd)

with_side-same : (w : ℕ) (wd : World) → with_side w (side_at w wd) wd ≡ wd
with_side-same w wd =
    ap (λ ps. with_sides ps wd) (set-get_or wd.sides w no_side)

-- the player is in shape after an operation at a window, whatever else changes at its side
pub shape-after : (wd : World) (w : ℕ) (q : PlayerView) (v : WindowView) (p' : Side) (wd' : World) → q ≡ with_window w v (player_in wd) →
    shape (numbers_in wd) q ≡ true → wd' ≡ with_side w p' wd → p'.view ≡ v → shape (numbers_in wd') (player_in wd') ≡ true
shape-after wd w q v p' wd' e s is same =
    subst⁻¹ (λ x. shape (numbers_in x) (player_in x) ≡ true) is
    (ap (shape (numbers_in wd)) (with_side-player w p' wd ∙ ap (λ v. with_window w v (player_in wd)) same ∙ sym e) ∙ s)

-- a step that calls an operation on window w, with outcome o and effect x, and where it is answered 0 makes `change` of the world after it
pub record CallOf (s : Step) (wd : World) (w : ℕ) (o : Outcome) (x : Effect) (change : World → World) : Type 0 where
  pub lawful : LawfulRule (numbers_in wd) w (player_in wd) o x
  pub calls : step s wd ≡ called_then o change wd

-- such a step answered 0, said of the world's journal and window
pub record TurnAt (s : Step) (wd : World) (w : ℕ) (o : Outcome) (x : Effect) (change : World → World) : Type 0 where
  pub within : w < length wd.sides
  pub turn : x.tells wd.journal (side_at w wd).view
  pub next : o.next ≡ with_window w (x.makes wd.journal (side_at w wd).view turn) (player_in wd)
  pub world : (step s wd).world ≡ change (with_side w (with_view (x.makes wd.journal (side_at w wd).view turn) (side_at w wd)) wd)

-- one that makes g of that window's side
pub record CallAt (s : Step) (wd : World) (w : ℕ) (o : Outcome) (x : Effect) (g : Side → Side) : Type 0 where
  pub change : World → World
  pub call : CallOf s wd w o x change
  pub here : (wd' : World) → change wd' ≡ with_side w (g (side_at w wd')) wd'
  pub views : (p : Side) → (g p).view ≡ p.view

pub record DoneAt (s : Step) (wd : World) (w : ℕ) (x : Effect) (g : Side → Side) : Type 0 where
  pub within : w < length wd.sides
  pub turn : x.tells wd.journal (side_at w wd).view
  pub world : (step s wd).world ≡ with_side w (g (with_view (x.makes wd.journal (side_at w wd).view turn) (side_at w wd))) wd
  pub shaped : shape (numbers_in (step s wd).world) (player_in (step s wd).world) ≡ true

-- a call alone
call-alone : {s : Step} {wd : World} {w : ℕ} {o : Outcome} {x : Effect} → LawfulRule (numbers_in wd) w (player_in wd) o x →
    step s wd ≡ called o wd → CallAt s wd w o x (λ p. p)
call-alone {wd = wd} {w = w} {o = o} law is =
    record {
      change = λ wd'. wd';
      call = record { lawful = law; calls = is ∙ called-then o wd };
      here = λ wd'. sym (with_side-same w wd');
      views = λ p. refl;
    }

module _ {s : Step} {wd : World} {w : ℕ} {o : Outcome} {x : Effect} {change : World → World} (k : CallOf s wd w o x change) where
  pub call-turn : o.answer ≡ 0 → TurnAt s wd w o x change
  call-turn e =
      let p : Side = side_at w wd in
      let d = k.lawful.does e in
      let (t, same) = subst₂ (λ j v. (t : x.tells j v) × (x.makes _ _ d.turn ≡ x.makes j v t)) (entries-in wd) (window-in w wd)
      (d.turn, refl) in
      let v' : WindowView = x.makes wd.journal p.view t in
      let next : o.next ≡ with_window w v' (player_in wd) = d.next ∙ ap (λ v. with_window w v (player_in wd)) same in
      record {
        within = within_in wd w d.within;
        turn = t;
        next = next;
        world =
            ap (λ r. r.world) k.calls
            ∙ called_then-done o change wd e
            ∙ ap change (with_player-window wd o.next w v' next);
      }

  pub call_facts : ((o.answer ≡ 0 → ⊥) → begins (sort_of s) (eqb o.answer 0) ≡ false) → (o.answer ≡ 0 → Facts s wd) → Facts s wd
  call_facts quiet = call-either wd s o change k.calls quiet k.lawful.refuses

module _ {s : Step} {wd : World} {w : ℕ} {o : Outcome} {x : Effect} {g : Side → Side} (k : CallAt s wd w o x g) where
  pub call-done : shape (numbers_in wd) (player_in wd) ≡ true → o.answer ≡ 0 → DoneAt s wd w x g
  call-done shaped e =
      let p : Side = side_at w wd in
      let d = call-turn k.call e in
      let v' : WindowView = x.makes wd.journal p.view d.turn in
      let is : (step s wd).world ≡ with_side w (g (with_view v' p)) wd
      = d.world
      ∙ k.here (with_side w (with_view v' p) wd)
      ∙ ap (λ q. with_side w (g q) (with_side w (with_view v' p) wd)) (with_side-here w (with_view v' p) wd d.within)
      ∙ with_side-twice w (with_view v' p) (g (with_view v' p)) wd in
      record {
        within = d.within;
        turn = d.turn;
        world = is;
        shaped = shape-after wd w o.next v' _ _ d.next (k.call.lawful.shaped shaped) is (k.views (with_view v' p));
      }

  -- it does a piece of the window's work
  pub call-works : shape (numbers_in wd) (player_in wd) ≡ true → o.answer ≡ 0 →
      ((t : x.tells wd.journal (side_at w wd).view) →
      Worked wd.journal wd.limit w s (step s wd).reply (side_at w wd)
      (g (with_view (x.makes wd.journal (side_at w wd).view t) (side_at w wd)))) →
      WorksAt s wd w
  call-works shaped e work =
      let d = call-done shaped e in
      record { within = d.within; after = _; work = work d.turn; world = d.world; shaped = d.shaped }

-- ------------------------------------------------------------------------
-- Catch, Written, a late Ack, Drop

module _ (wd : World) (shaped : shape (numbers_in wd) (player_in wd) ≡ true) where
  catch-call : (w : ℕ) (t : Term) (i : ℕ) →
      CallAt (catch w t i) wd w (catch_rule (numbers_in wd) w t i (player_in wd)) (catch_effect w t i) (λ p. p)
  unfolding step_by
  catch-call w t i = call-alone (catch_rule-lawful (numbers_in wd) w t i (player_in wd)) refl

  pub catch-works : (w : ℕ) (t : Term) (i : ℕ) → (catch_rule (numbers_in wd) w t i (player_in wd)).answer ≡ 0 → WorksAt (catch w t i) wd w
  catch-works w t i e =
      call-works (catch-call w t i) shaped e (λ c. E.caught (record { term = t; index = i; is = refl; tells = c; side = refl }))

  pub facts-catch : (w : ℕ) (t : Term) (i : ℕ) → Facts (catch w t i) wd
  facts-catch w t i = call_facts (catch-call w t i).call (λ n. refl) (λ e. works-facts wd w (catch w t i) refl (catch-works w t i e))

  written-call : (w : ℕ) (t : Term) →
      CallAt (written w t) wd w (written_rule (numbers_in wd) w t (player_in wd)) (written_effect t) (λ p. p)
  unfolding step_by
  written-call w t = call-alone (written_rule-lawful (numbers_in wd) w t (player_in wd)) refl

  pub written-works : (w : ℕ) (t : Term) → (written_rule (numbers_in wd) w t (player_in wd)).answer ≡ 0 → WorksAt (written w t) wd w
  written-works w t e = call-works (written-call w t) shaped e (λ c. E.written (record { term = t; is = refl; tells = c; side = refl }))

  pub facts-written : (w : ℕ) (t : Term) → Facts (written w t) wd
  facts-written w t = call_facts (written-call w t).call (λ n. refl) (λ e. works-facts wd w (written w t) refl (written-works w t e))

  -- a Catch, a Written and an Ack with a term that the window does not hold are turned away
  module _ (w : ℕ) (t : Term) (other : w < length wd.sides → t.0 ≡ (side_at w wd).view.term.0 → ⊥) where
    abbrev away : W.Stepped
    away = W.stays (answered (turned_away w (player_in wd))) wd

    other-in : w < length (player_in wd).windows → t.0 ≡ (window_at w (player_in wd)).term.0 → ⊥
    other-in h e = other (within_in wd w h) (e ∙ ap (λ v. v.term.0) (window-in w wd))

    turned-called : (o : Outcome) → o ≡ refuse (turned_away w (player_in wd)) (player_in wd) → called o wd ≡ away
    turned-called o e = rw e (ap (W.stays (answered (turned_away w (player_in wd)))) (with_player-same wd (player_in wd) refl))

    pub catch-turned : (i : ℕ) → step (catch w t i) wd ≡ away
    unfolding step_by
    catch-turned i = turned-called _ (catch_rule-turned (numbers_in wd) w t (player_in wd) shaped other-in i)

    pub written-turned : step (written w t) wd ≡ away
    unfolding step_by
    written-turned = turned-called _ (written_rule-turned (numbers_in wd) w t (player_in wd) shaped other-in)

    ack-turned : (i : ℕ) → called (ack_rule (numbers_in wd) w t i (player_in wd)) wd ≡ away
    ack-turned i = turned-called _ (ack_rule-turned (numbers_in wd) w t (player_in wd) shaped other-in i)

  -- a late ack is one of these
  late-other : (w : ℕ) (t : Term) → is_late w t wd ≡ true → w < length wd.sides → t.0 ≡ (side_at w wd).view.term.0 → ⊥
  late-other w t late h e =
      let older : ltb t.0 (side_at w wd).view.term.0 ≡ true = rw (lt-leb (length wd.sides) w h) at late in
      omega (arith, ltb-true t.0 (side_at w wd).view.term.0 older)

  pub late_turned : (w : ℕ) (t : Term) (i : ℕ) → is_late w t wd ≡ true →
      step (late-ack w t i) wd ≡ W.stays (answered (turned_away w (player_in wd))) wd
  unfolding step_by
  late_turned w t i late = rw late (ack-turned w t (late-other w t late) i)

  pub facts-late : (w : ℕ) (t : Term) (i : ℕ) → Facts (late-ack w t i) wd
  unfolding step_by
  facts-late w t i =
      ⊎_elim
      (λ (late : is_late w t wd ≡ true).
      idle-facts wd (late-ack w t i) _ refl (ne_eqb _ 0 (turned_away-some w (player_in wd))) (late_turned w t i late))
      (λ (young : is_late w t wd ≡ false). idle-facts wd (late-ack w t i) unmade refl refl (rw young))
      (true-or-false (is_late w t wd))

  drop-call : (w : ℕ) → CallAt (drop w) wd w (drop_rule (numbers_in wd) w (player_in wd)) drop_effect (λ p. p)
  unfolding step_by
  drop-call w = call-alone (drop_rule-lawful (numbers_in wd) w (player_in wd)) refl

  pub facts-drop : (w : ℕ) → Facts (drop w) wd
  unfolding step_by
  facts-drop w =
      call_facts (drop-call w).call (ne_eqb _ 0)
      (λ e.
      let d = call-done (drop-call w) shaped e in
      dropping w (record { is = refl; done = eq-eqb _ 0 e; within = d.within; world = d.world; shaped = d.shaped }))
