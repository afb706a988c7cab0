-- W4's counts hold. What is taken of a window's own, and what is read, goes up by one at each step that is counted and at no other; and
-- what a window has taken of its own and what it has still to take are together its own entries.
use Rattle.std.specs.Prelude.{ℕ, suc, ◌+◌, ◌<◌, ◌≡◌, Bool, true, false, cond, ◌&&◌, eqb}
use Rattle.std.proofs.Math.Path.{refl, ap}
use Rattle.std.proofs.Common.{sym, subst, ◌∙◌, ⊎_elim, arith, zero-add, eq-eqb, le-leb, length-append}
use mathlib.Core.List.{List, [], ◌∷◌, ◌++◌}
use Rattle.std.proofs.Math.Bool.{and-true, and-false}
use Rattle.std.proofs.Math.ListN.{length}
use Rattle.std.proofs.lemmas.List.{length-map}
use Rattle.journal.specs.declared.Entry.{Entry}
use Rattle.journal.specs.Entry.{Placed, placed_at, five_of}
use Rattle.journal.specs.Due.{due, due-split}
use Rattle.journal.specs.Own.{own, is_own, own_of, own-due}
use Rattle.lists.specs.Cases.{and_intro}
use Rattle.lists.specs.Keep.{keep, keep_append}
use Rattle.record.specs.Record.{take_numbers}
use Rattle.rules.proofs.Offers.{shaped}
use Rattle.planner.specs.Plan.{to_take, figures, planned, plan_rule}
use Rattle.planner.proofs.PlanLaws.{plan_rule-planned}
use Rattle.delivery.specs.World.{Sent, Side, World, side_at, numbers_in, player_in, take_front, Step, main, drop, join, start, append, step, run, run_by}
use Rattle.delivery.specs.Sorts.{is_done, sort_of, begins, is_main, is_take_at}
use Rattle.delivery.specs.Statement.{first_world}
use Rattle.delivery.specs.Counts.{own_front, takes_own, done_since, left_by, last_at, figures_for, ExactCounts}
use Rattle.delivery.specs.Counts as Counts
use Rattle.delivery.proofs.Invariant.{Taken, Reached}
use Rattle.delivery.proofs.Worlds.{entries-in, count-in, windows-in}
use Rattle.delivery.proofs.Effects.{Worked, caught, sent, written, took, acked, Work, idles, reads, serves}
use Rattle.delivery.proofs.Moves.{Moved, still, appended, mained, worked, dropped-here, joined-here, started-here, worked-sort, step_count, begun-or-working, side-moves}
use Rattle.delivery.proofs.KeepLine.{taken_own}
use Rattle.delivery.proofs.Reach.{reached-step, reached-run, run-count}
use Rattle.delivery.proofs.Bound.{work-journal}
use Rattle.delivery.proofs.Finish.{all_read}
use Rattle.delivery.proofs.Demand3.{opened-reached, opened-count, demand-3}

-- one more, where a step is counted
abbrev one_more : Bool → ℕ → ℕ
one_more b n = cond b (suc n) n

-- ------------------------------------------------------------------------
-- a count over a list of steps

-- A number of a world that goes up by one at the steps of a kind answered 0, and stays at the others that are neither a fault nor an
-- append: so many such steps, and what it was when the last fault or append was over, are what it is.
module _ (kind : World → Step → Bool) (f : World → ℕ) (count : ℕ)
    (law : (wd : World) (s : Step) → Reached wd → length wd.sides ≡ count → Work s wd →
    f (step s wd).world ≡ one_more (kind wd s && is_done (step s wd).reply) (f wd)) where
  module _ (n : ℕ) (left wd : World) (s : Step) (so_far : n + f left ≡ f wd) where
    abbrev anew : Bool
    anew = begins (sort_of s) (is_done (step s wd).reply)

    goes_on : (b : Bool) → f (step s wd).world ≡ one_more b (f wd) → one_more b n + f left ≡ f (step s wd).world
    goes_on true e = omega arith
    goes_on false e = omega arith

    counted_step : Reached wd → length wd.sides ≡ count →
        cond anew 0 (one_more (kind wd s && is_done (step s wd).reply) n) + f (cond anew (step s wd).world left) ≡ f (step s wd).world
    counted_step r c =
        ⊎_elim (λ begun. rw begun (zero-add (f (step s wd).world)))
        (λ k. rw k.0 (goes_on (kind wd s && is_done (step s wd).reply) (law wd s r c k.1)))
        (begun-or-working wd s r.in_shape)

  counted : (n : ℕ) (left wd : World) (ss : List Step) → Reached wd → length wd.sides ≡ count → n + f left ≡ f wd →
      done_since kind n wd ss + f (left_by left wd ss) ≡ f (run wd ss)
  unfolding done_since left_by run_by
  counted n left wd [] r c so_far = so_far
  counted n left wd (s ∷ ss) r c so_far =
      let begun : Bool = begins (sort_of s) (is_done (step s wd).reply) in
      counted (cond begun 0 (one_more (kind wd s && is_done (step s wd).reply) n)) (cond begun (step s wd).world left) (step s wd).world ss
      (reached-step wd s r) (step_count wd s r.in_shape ∙ c) (counted_step n left wd s so_far r c)

-- ------------------------------------------------------------------------
-- Mains

work-reads : {s : Step} (wd : World) → Work s wd →
    (step s wd).world.current ≡ one_more (is_main (sort_of s) && is_done (step s wd).reply) wd.current
work-reads {s} wd (idles k) = rw (k.undone, and-false (is_main (sort_of s))) (ap (λ x. x.current) k.world)
work-reads wd (reads k) =
    k.mained.current ∙ rw k.done (ap (λ x. one_more (is_main (sort_of x) && true) wd.current) (sym k.is))
work-reads {s} wd (serves w k) =
    rw (worked-sort (λ x. is_main x ≡ false) refl refl k.work) (ap (λ x. x.current) k.world)

-- ------------------------------------------------------------------------
-- Takes

-- how many of its own a window has taken
abbrev own_taken : ℕ → Side → ℕ
own_taken w p = length (own_of w p.taken)

-- one more, where one of its own is taken
taken_more : (w : ℕ) (done : Bool) (ps : List Placed) (x : Placed) →
    length (own_of w (cond done (ps ++ (x ∷ [])) ps)) ≡ one_more (is_own w x && done) (length (own_of w ps))
unfolding keep
taken_more w true ps x =
    rw (keep_append (is_own w) ps (x ∷ []), length-append (own_of w ps) (own_of w (x ∷ [])), and-true (is_own w x)) (by (is_own w x))
  where
    by : (b : Bool) → length (own_of w ps) + length (cond b (x ∷ []) []) ≡ one_more b (length (own_of w ps))
    by true = omega arith
    by false = omega arith
taken_more w false ps x = rw (and-false (is_own w x))

-- one of its own more is taken by a Take of one that is answered 0, and by no other step
worked-takes : {s : Step} {p' : Side} (wd : World) (w : ℕ) →
    Worked wd.journal wd.limit w s (step s wd).reply (side_at w wd) p' →
    own_taken w p' ≡ one_more (takes_own w wd s && is_done (step s wd).reply) (own_taken w (side_at w wd))
unfolding take_front
worked-takes wd w (caught k) = rw (k.is, k.side)
worked-takes wd w (sent k) = rw (k.is, k.side)
worked-takes wd w (written k) = rw (k.is, k.side)
worked-takes wd w (took k) =
    let x : Sent = k.entry in
    rw (k.replied, k.is, k.side, eq-eqb w w refl, k.front)
    (taken_more w (eqb (take_numbers (five_of x.placed) (side_at w wd).record').number 0) (side_at w wd).taken x.placed)
worked-takes wd w (acked k) = rw (k.is, k.side)

and-across : (a b c : Bool) → (a && c) ≡ false → ((a && b) && c) ≡ false
and-across true true c e = e
and-across true false c e = refl
and-across false b c e = refl

step-takes : (wd : World) (s : Step) (w : ℕ) → Reached wd → w < length wd.sides →
    own_taken w (side_at w (step s wd).world) ≡ one_more (takes_own w wd s && is_done (step s wd).reply) (own_taken w (side_at w wd))
step-takes wd s w r h = by (side-moves wd s r.in_shape w h)
  where
    -- a step that is no Take, and leaves what is taken
    none : (x : Step) → s ≡ x → is_take_at w (sort_of x) ≡ false → {p : Side} → side_at w (step s wd).world ≡ p →
        p.taken ≡ (side_at w wd).taken →
        own_taken w (side_at w (step s wd).world) ≡ one_more (takes_own w wd s && is_done (step s wd).reply) (own_taken w (side_at w wd))
    none x is untaken side same =
        let other : is_take_at w (sort_of s) ≡ false = ap (λ x. is_take_at w (sort_of x)) is ∙ untaken in
        ap (own_taken w) side ∙ ap (λ ps. length (own_of w ps)) same ∙ rw other

    by : Moved s wd w (side_at w wd) (side_at w (step s wd).world) →
        own_taken w (side_at w (step s wd).world) ≡ one_more (takes_own w wd s && is_done (step s wd).reply) (own_taken w (side_at w wd))
    by (still k) = rw (and-across (is_take_at w (sort_of s)) (own_front w (side_at w wd).line) _ k.taken) (ap (own_taken w) k.side)
    by (appended k) = none (append k.by.entry) k.by.is refl k.side refl
    by (mained k) = none (main k.by.index) k.by.is refl k.side refl
    by (worked k) = worked-takes wd w k.work
    by (dropped-here k) = none (drop w) k.is refl k.side refl
    by (joined-here k) = none (join w) k.is refl k.side refl
    by (started-here k) = none (start k.by.settings) k.by.is refl k.side refl

-- what a window has taken of its own and what it has still to take are together its own entries
to_take-left : (j : List Entry) (w : ℕ) (p : Side) → Taken j w p.record' p.taken →
    own_taken w p + length (to_take j w p.record'.last.0) ≡ length (own j w)
to_take-left j w p is =
    let last : ℕ = p.record'.last.0 in
    let taken : own_taken w p ≡ length (due j w 0 last) = ap length (taken_own is) ∙ length-map (due j w 0 last) (placed_at j) in
    let all : length (own j w) ≡ length (due j w 0 (length j))
    = ap length (own-due j w) ∙ length-map (due j w 0 (length j)) (placed_at j) in
    let split : length (due j w 0 (length j)) ≡ length (due j w 0 last) + length (due j w last (length j))
    = ap length (due-split j w 0 last (length j) (omega arith) is.last_in) ∙ length-append (due j w 0 last) (due j w last (length j)) in
    omega arith

-- ------------------------------------------------------------------------
-- the world as the last fault or append left it

-- it is a world of the run, with the journal and the windows that there still are
record Left (left wd : World) : Type 0 where
  reached : Reached left
  journal : left.journal ≡ wd.journal
  count : length left.sides ≡ length wd.sides

left-itself : (wd : World) → Reached wd → Left wd wd
left-itself wd r = record { reached = r; journal = refl; count = refl }

left_step : (left wd : World) (s : Step) → Reached wd → Left left wd →
    Left (cond (begins (sort_of s) (is_done (step s wd).reply)) (step s wd).world left) (step s wd).world
left_step left wd s r l =
    ⊎_elim (λ begun. rw begun (left-itself (step s wd).world (reached-step wd s r)))
    (λ k.
    rw k.0
    (record {
      reached = l.reached;
      journal = l.journal ∙ sym (work-journal wd k.1);
      count = l.count ∙ sym (step_count wd s r.in_shape);
    }))
    (begun-or-working wd s r.in_shape)

left-run : (left wd : World) (ss : List Step) → Reached wd → Left left wd → Left (left_by left wd ss) (run wd ss)
unfolding left_by run_by
left-run left wd [] r l = l
left-run left wd (s ∷ ss) r l =
    left-run (cond (begins (sort_of s) (is_done (step s wd).reply)) (step s wd).world left) (step s wd).world ss (reached-step wd s r)
    (left_step left wd s r l)

-- ------------------------------------------------------------------------
-- the counts

module _ (wd : World) (steps : List Step) (r : Reached wd) where
  abbrev now : World
  now = run wd steps

  abbrev left : World
  left = left_by wd wd steps

  reached-now : Reached now
  reached-now = reached-run wd steps r

  left-now : Left left now
  left-now = left-run wd wd steps r (left-itself wd r)

  -- A result to be read: at any time the Mains answered 0 since the last fault or append, and `current` as it was left, are `current`.
  pub mains-so-far : done_since Counts.reads 0 wd steps + left.current ≡ now.current
  mains-so-far =
      counted Counts.reads (λ x. x.current) (length wd.sides) (λ x s r c. work-reads x) 0 wd wd steps r refl (zero-add wd.current)

  module _ (w : ℕ) (h : w < length wd.sides) where
    within-now : w < length now.sides
    within-now = omega (arith, run-count wd steps r)

    taken-now : Taken now.journal w (side_at w now).record' (side_at w now).taken
    taken-now = (reached-now.each w within-now).taken

    taken-left : Taken now.journal w (side_at w left).record' (side_at w left).taken
    taken-left =
        subst (λ j. Taken j w (side_at w left).record' (side_at w left).taken) left-now.journal
        (left-now.reached.each w (omega (arith, left-now.count, within-now))).taken

    -- A result to be read: at any time the Takes of a window's own answered 0 since the last fault or append, and the planner's first
    -- figure now, are its first figure then.
    pub takes-so-far : done_since (takes_own w) 0 wd steps + (figures_for w now now).entries ≡ (figures_for w left now).entries
    unfolding figures
    takes-so-far =
        let takes = counted (takes_own w) (λ x. own_taken w (side_at w x)) (length wd.sides)
        (λ x s r c work. step-takes x s w r (omega arith)) 0 wd wd steps r refl (zero-add (own_taken w (side_at w wd))) in
        omega (arith, to_take-left now.journal w (side_at w left) taken-left, to_take-left now.journal w (side_at w now) taken-now)

    -- a window that has taken all of its own entries has none to take
    none-to-take : own_of w (side_at w now).taken ≡ own now.journal w → (figures_for w now now).entries ≡ 0
    unfolding figures
    none-to-take all = omega (arith, to_take-left now.journal w (side_at w now) taken-now, ap length all)

    figures-now : plan_rule (numbers_in now) w (last_at w left) now.limit ≡ planned (figures_for w left now)
    figures-now =
        let is = shaped (numbers_in now) (player_in now) reached-now.in_shape in
        plan_rule-planned (numbers_in now) w (last_at w left) now.limit (omega (arith, taken-left.last_in, count-in now)) is.journal
        (and_intro (le-leb 1 now.limit is.limit_some) (le-leb now.limit 32 is.limit_most))
        (omega (arith, within-now, is.most, windows-in now))
        ∙ ap (λ j. planned (figures j w (last_at w left) now.limit)) (entries-in now)

-- Document 02's counts, for every W, batch limit, spacing, first term, set of silent windows, journal and list of steps
pub exact-counts : ExactCounts
exact-counts before j count settings steps done =
    let wd : World = first_world before j count settings in
    let r : Reached wd = opened-reached before j count settings done in
    let n : length wd.sides ≡ count = opened-count before j count settings done in
    record {
      asked = λ w h. figures-now wd steps r w (omega arith);
      takes = λ joined none w h.
          let all = (demand-3 before j count settings steps done).finish joined none w h in
          omega (arith, takes-so-far wd steps r w (omega arith), none-to-take wd steps r w (omega arith) all);
      mains = λ joined none. omega (arith, mains-so-far wd steps r, all_read (run wd steps) (reached-now wd steps r) none);
    }
