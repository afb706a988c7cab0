-- A window is joined, by the steps that were made, exactly if it is not Suspended, and else it can join.
use Rattle.std.specs.Prelude.{ℕ, suc, ◌≤◌, ◌<◌, ◌≡◌, refl, List, [], ◌∷◌, ◌++◌, Bool, true, false, not, cond, length, ltb}
use Rattle.std.proofs.Common.{sym, ap, ◌∙◌, ⊎_elim, arith, eq-eqb}
use Rattle.std.proofs.Math.Path.{subst⁻¹}
use Rattle.journal.specs.declared.Entry.{Entry}
use Rattle.lists.specs.Cases.{le-or-lt}
use Rattle.rules.specs.declared.Term.{Term}
use Rattle.rules.specs.View.{Condition, normal, fetching, completed, WindowView}
use Rattle.rules.specs.Shape.{is_empty}
use Rattle.rules.specs.Window.{is_suspended, main_at, fetched, batch_of, told, silence, started_by}
use Rattle.rules.specs.Rules.{window_at, speaks}
use Rattle.rules.proofs.Offers.{ConditionAfter, batch_of-condition, one_if, main_at-either, fetched-more, fetched-last, launched-is, join_rule-can}
use Rattle.rules.proofs.Offers as B
use Rattle.delivery.specs.World.{Side, World, side_at, numbers_in, player_in, take_front, Step, drop, join, start, Reply, answered, step, step_by, run, run_by}
use Rattle.delivery.specs.Sorts.{is_done, sort_of, joined_by}
use Rattle.delivery.specs.Statement.{joined_after, joined_after_by}
use Rattle.delivery.proofs.Invariant.{Reached, last_of}
use Rattle.delivery.proofs.Worlds.{window-in, windows-in}
use Rattle.delivery.proofs.Effects.{Worked, caught, sent, written, took, acked}
use Rattle.delivery.proofs.Moves.{Moved, still, appended, mained, worked, dropped-here, joined-here, started-here, worked-sort, step_count, side-moves}
use Rattle.delivery.proofs.Reach.{reached-step}

-- ------------------------------------------------------------------------
-- work leaves a window Suspended or not

abbrev away : Side → Bool
away p = is_suspended p.view.condition

main-away : (j : List Entry) (w e i : ℕ) (v : WindowView) → is_suspended (main_at j w e i v).condition ≡ is_suspended v.condition
main-away j w e i v =
    main_at-either j w e i v (λ x. is_suspended x.condition ≡ is_suspended v.condition) refl (λ here. refl)
    (λ is. sym (ap is_suspended is)) (λ n end is. sym (ap is_suspended is)) (λ end is. sym (ap is_suspended is))
    (λ t. sym (ap is_suspended t.condition))

fetched-away : (b : Bool) (n end : ℕ) (v : WindowView) → is_suspended (fetched b n end v).condition ≡ false
fetched-away b n end v =
    ⊎_elim
    (λ (h : end ≤ n). ap (λ x. is_suspended x.condition) (fetched-last b n end v h) ∙ by (is_empty (v.catch_queue ++ one_if b n)))
    (λ (h : n < end). ap (λ x. is_suspended x.condition) (fetched-more b n end v h))
    (le-or-lt end n)
  where
    by : (t : Bool) → is_suspended (cond t normal (completed end)) ≡ false
    by true = refl
    by false = refl

after-away : (s s' : Condition) → ConditionAfter s s' → is_suspended s' ≡ is_suspended s
after-away s s' (B.same e) = ap is_suspended e
after-away s s' (B.emptied end e n) = ap is_suspended n ∙ sym (ap is_suspended e)

worked-away : {s : Step} {reply : Reply} {j : List Entry} {limit w : ℕ} {p p' : Side} → Worked j limit w s reply p p' → away p' ≡ away p
unfolding take_front
worked-away {p = p} (caught k) =
    ap away k.side ∙ fetched-away _ k.index k.tells.upto p.view ∙ sym (ap is_suspended k.tells.was)
worked-away {limit = limit} {p = p} (sent k) =
    ap away k.side
    ∙ ap (λ v. is_suspended v.condition) (launched-is (batch_of limit p.view).indices (batch_of limit p.view).rest)
    ∙ after-away p.view.condition _ (batch_of-condition limit p.view)
worked-away (written k) = ap away k.side
worked-away (took k) = ap away k.side
worked-away (acked k) = ap away k.side

-- ------------------------------------------------------------------------
-- a step

joined-condition : (t : Bool) (n c : ℕ) → is_suspended (cond t (fetching n c) normal) ≡ false
joined-condition true n c = refl
joined-condition false n c = refl

-- a window that speaks at a Start is joined by it, and a silent one is not
pub started_by-away : (b : Bool) (first : Term) (l r : ℕ) → is_suspended (started_by first l (cond b (told r) silence)).condition ≡ not b
started_by-away true first l r = refl
started_by-away false first l r = refl

joined_step : (wd : World) (s : Step) (w : ℕ) (b : Bool) → Reached wd → w < length wd.sides → away (side_at w wd) ≡ not b →
    away (side_at w (step s wd).world) ≡ not (joined_by w (sort_of s) (is_done (step s wd).reply) b)
joined_step wd s w b r h is = by (side-moves wd s r.in_shape w h)
  where
    -- the same, of a step that is the step x
    step_is : (x : Step) → s ≡ x → {t : Bool} → is_done (step s wd).reply ≡ t → (c : Bool) → c ≡ not (joined_by w (sort_of x) t b) →
        c ≡ not (joined_by w (sort_of s) (is_done (step s wd).reply) b)
    step_is x e done c same = rw (done, e) same

    by : Moved s wd w (side_at w wd) (side_at w (step s wd).world) →
        away (side_at w (step s wd).world) ≡ not (joined_by w (sort_of s) (is_done (step s wd).reply) b)
    by (still k) = ap away k.side ∙ is ∙ ap not (sym (k.joined b))
    by (appended k) = ap away k.side ∙ is ∙ ap (λ x. not (joined_by w (sort_of x) (is_done (step s wd).reply) b)) (sym k.by.is)
    by (mained k) =
        ap away k.side
        ∙ main-away wd.journal w wd.spacing (suc wd.current) (side_at w wd).view
        ∙ is
        ∙ ap (λ x. not (joined_by w (sort_of x) (is_done (step s wd).reply) b)) (sym k.by.is)
    by (worked k) =
        worked-away k.work
        ∙ is
        ∙ worked-sort (λ x. not b ≡ not (joined_by w x (is_done (step s wd).reply) b)) refl refl k.work
    by (dropped-here k) = step_is (drop w) k.is k.done _ (rw (k.side, eq-eqb w w refl))
    by (joined-here k) =
        step_is (join w) k.is k.done _
        (rw (k.side, eq-eqb w w refl) (joined-condition (ltb (last_of (side_at w wd)) wd.current) _ wd.current))
    by (started-here k) =
        step_is (start k.by.settings) k.by.is k.by.done _
        (ap away k.side ∙ started_by-away (speaks k.by.settings.silent w) k.by.settings.first _ _)

pub joined-run : (wd : World) (ss : List Step) (w : ℕ) (b : Bool) → Reached wd → w < length wd.sides → away (side_at w wd) ≡ not b →
    away (side_at w (run wd ss)) ≡ not (joined_after w b wd ss)
unfolding run_by joined_after_by
joined-run wd [] w b r h is = is
joined-run wd (s ∷ ss) w b r h is =
    joined-run (step s wd).world ss w _ (reached-step wd s r) (omega (arith, step_count wd s r.in_shape)) (joined_step wd s w b r h is)

-- ------------------------------------------------------------------------
-- a Join

-- A result to be read: in every world of a run a Suspended window can join, whether it was dropped or silent, while its term can go up.
pub away-joins : (wd : World) → Reached wd → (w : ℕ) → w < length wd.sides → is_suspended (side_at w wd).view.condition ≡ true →
    (side_at w wd).view.term.0 < 4294967295 → (step (join w) wd).reply ≡ answered 0
unfolding step_by
away-joins wd r w h gone term =
    let inv = r.each w h in
    let last : ℕ = last_of (side_at w wd) in
    let held : (P : WindowView → Type 0) → P (side_at w wd).view → P (window_at w (player_in wd)) = λ P. subst⁻¹ P (window-in w wd) in
    ap answered
    (join_rule-can (numbers_in wd) w (player_in wd) r.in_shape (omega (arith, windows-in wd)) last
    (held (λ v. is_suspended v.condition ≡ true) gone) (held (λ v. v.term.0 < 4294967295) term)
    (held (λ v. v.acked ≤ last) inv.unacked.acked_last) (held (λ v. last ≤ v.sent) inv.flight.last_sent))
