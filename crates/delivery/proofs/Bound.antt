-- How many steps change anything since the last fault or append: each lowers the work left, which is at most L × (1 + 5 × W); and where no
-- work is left, none can.
use Rattle.std.specs.Prelude.{ℕ, zero, suc, ◌+◌, ◌*◌, ◌-◌, ◌≤◌, ◌<◌, ◌≡◌, refl, ◌⊎◌, List, [], ◌∷◌, Bool, true, false, cond, length, get_or, set}
use Rattle.std.proofs.Common.{sym, ap, ap₂, ◌∙◌, inl, inr, ⊎_elim, true≢false, arith, mul-add, mul-one, mul-suc, mul_assoc, mul_comm}
use Rattle.std.proofs.Math.Path.{subst⁻¹}
use Rattle.std.proofs.lemmas.Bool.{false≢true}
use Rattle.journal.specs.declared.Entry.{Entry}
use Rattle.rules.specs.View.{Condition, normal, fetching, completed, suspended}
use Rattle.delivery.specs.World.{Side, World, no_side, side_at, Step, step, run, run_by}
use Rattle.delivery.specs.Sorts.{is_done, Sort, mains, takes, other_work, drops, joins, starts, appends, sort_of, begins, is_work}
use Rattle.delivery.specs.Same.{same_world}
use Rattle.delivery.proofs.SameLaws.{same_world-itself}
use Rattle.delivery.specs.Statement.{changes, changes_by, NoneCan}
use Rattle.delivery.proofs.Invariant.{QueuesOf, Inv, Reached}
use Rattle.delivery.proofs.Measure.{ahead, busy_of, side_work, main-work, worked-lowers}
use Rattle.delivery.proofs.Effects.{Work, idles, reads, serves}
use Rattle.delivery.proofs.Moves.{step_count, begun-or-working}
use Rattle.delivery.proofs.Reach.{read-in, few-in, reached-step}

-- ------------------------------------------------------------------------
-- a sum over sides

unfoldable pub total : (Side → ℕ) → List Side → ℕ
total f [] = 0
total f (p ∷ ps) = f p + total f ps

total-set : (f : Side → ℕ) (ps : List Side) (w : ℕ) (p' : Side) → w < length ps →
    total f (set ps w p') + f (get_or ps w no_side) ≡ total f ps + f p'
unfolding total
total-set f [] w p' h = absurd (omega arith)
total-set f (p ∷ ps) zero p' h = omega arith
total-set f (p ∷ ps) (suc w) p' h = omega (arith, total-set f ps w p' (omega arith))

total-le : (f g : Side → ℕ) (ps qs : List Side) → length ps ≡ length qs →
    ((w : ℕ) → w < length ps → f (get_or ps w no_side) ≤ g (get_or qs w no_side)) → total f ps ≤ total g qs
unfolding total
total-le f g [] [] e h = omega arith
total-le f g [] (q ∷ qs) e h = absurd (omega arith)
total-le f g (p ∷ ps) [] e h = absurd (omega arith)
total-le f g (p ∷ ps) (q ∷ qs) e h = omega (arith, h 0 (omega arith), total-le f g ps qs (omega arith) (λ w k. h (suc w) (omega arith)))

total-bound : (f : Side → ℕ) (ps : List Side) (b : ℕ) → ((w : ℕ) → w < length ps → f (get_or ps w no_side) ≤ b) → total f ps ≤ b * length ps
unfolding total
total-bound f [] b h = omega arith
total-bound f (p ∷ ps) b h = simp mul-suc (omega (arith, h 0 (omega arith), total-bound f ps b (λ w k. h (suc w) (omega arith))))

-- ------------------------------------------------------------------------
-- the work left in a world

unfoldable pub work_left : World → ℕ
work_left wd = (length wd.journal - wd.current) + total (side_work (length wd.journal) wd.current) wd.sides

abbrev pub most_work : World → ℕ
most_work wd = length wd.journal * (1 + 5 * length wd.sides)

side-bound : {j : List Entry} {c w : ℕ} {p : Side} → Inv j c w p → c ≤ length j → side_work (length j) c p ≤ 5 * length j
side-bound {j} {c} {w} {p} inv read = omega (arith, condition p.view.condition inv.queues, line p.view.busy inv.busy_sent)
  where
    condition : (s : Condition) → QueuesOf j c w p.view s → ahead (length j) c s ≤ length j
    condition normal is = omega arith
    condition (fetching n end) is = omega (arith, is.behind, is.order, is.read)
    condition (completed end) is = omega arith
    condition suspended is = omega arith

    line : (b : Bool) → (b ≡ true → 1 ≤ p.view.sent) → length j - p.view.sent + busy_of b ≤ length j
    line true sent = omega (arith, sent refl, inv.flight.sent_in)
    line false sent = omega arith

pub work_left-most : (wd : World) → Reached wd → work_left wd ≤ most_work wd
unfolding work_left
work_left-most wd r =
    let l : ℕ = length wd.journal in
    let n : ℕ = length wd.sides in
    let most : l * (1 + 5 * n) ≡ l + 5 * l * n
    = mul-add l 1 (5 * n) ∙ ap₂ (λ a b. a + b) (mul-one l) (sym (mul_assoc l 5 n) ∙ ap (λ x. x * n) (mul_comm l 5)) in
    omega (
      arith,
      total-bound (side_work l wd.current) wd.sides (5 * l) (λ w h. side-bound (r.each w h) (read-in wd r)),
    )

-- ------------------------------------------------------------------------
-- a piece of work lowers it

pub work-lowers : {s : Step} (wd : World) → Reached wd → Work s wd → ((step s wd).world ≡ wd) ⊎ (work_left (step s wd).world < work_left wd)
unfolding work_left
work-lowers wd r (idles k) = inl k.world
work-lowers {s} wd r (reads k) =
    let wd' : World = (step s wd).world in
    let m = k.mained in
    let len : length wd'.journal ≡ length wd.journal = ap length m.journal in
    let each : (w : ℕ) → w < length wd'.sides →
    side_work (length wd'.journal) wd'.current (side_at w wd') ≤ side_work (length wd.journal) wd.current (side_at w wd)
    = λ w h.
    let within : w < length wd.sides = omega (arith, m.count) in
    subst⁻¹ (λ n. n ≤ side_work (length wd.journal) wd.current (side_at w wd))
    (λ i. side_work (length (m.journal i)) (m.current i) (m.each w within i))
    (main-work wd.journal (length wd.journal) wd.current w wd.spacing (side_at w wd) (r.each w within) m.below refl) in
    inr
    (omega (
      arith,
      m.below,
      m.current,
      total-le (side_work _ wd'.current) (side_work _ wd.current) wd'.sides wd.sides m.count each,
    ))
work-lowers wd r (serves w k) =
    inr
    (subst⁻¹ (λ x. work_left x < work_left wd) k.world
    (omega (
      arith,
      total-set (side_work (length wd.journal) wd.current) wd.sides w k.after k.within,
      worked-lowers (r.each w k.within) (read-in wd r) wd.limit k.after (few-in wd r) k.work,
    )))

-- ------------------------------------------------------------------------
-- what a step leaves as it was

-- a step that is neither a fault nor an append leaves the journal, and the number of windows
pub work-journal : {s : Step} (wd : World) → Work s wd → (step s wd).world.journal ≡ wd.journal
work-journal wd (idles k) = ap (λ x. x.journal) k.world
work-journal wd (reads k) = k.mained.journal
work-journal wd (serves w k) = ap (λ x. x.journal) k.world

work-most : {s : Step} (wd : World) → Reached wd → Work s wd → most_work (step s wd).world ≡ most_work wd
work-most {s} wd r work = ap₂ (λ j n. length j * (1 + 5 * n)) (work-journal wd work) (step_count wd s r.in_shape)

-- ------------------------------------------------------------------------
-- the count

module _ (n : ℕ) (wd : World) (s : Step) (r : Reached wd) (h : n + work_left wd ≤ most_work wd) where
  abbrev next : World
  next = (step s wd).world

  abbrev anew_at : Bool
  anew_at = begins (sort_of s) (is_done (step s wd).reply)

  -- the count after the step
  abbrev count_after : ℕ
  count_after = cond anew_at 0 (cond (same_world wd next) n (suc n))

  abbrev Counted : Type 0
  Counted = count_after + work_left next ≤ most_work next

  anew : anew_at ≡ true → Counted
  anew begun = simp begun (omega (arith, work_left-most next (reached-step wd s r)))

  counted : anew_at ≡ false → most_work next ≡ most_work wd → (t : Bool) → same_world wd next ≡ t →
      (next ≡ wd) ⊎ (work_left next < work_left wd) → Counted
  counted quiet most t same (inl e) =
      let itself : same_world wd next ≡ true = ap (same_world wd) e ∙ same_world-itself wd in
      simp (quiet, itself) (omega (arith, ap work_left e))
  counted quiet most true same (inr l) = simp (quiet, same) (omega arith)
  counted quiet most false same (inr l) = simp (quiet, same) (omega arith)

  after-step : Counted
  after-step =
      ⊎_elim anew (λ k. counted k.0 (work-most wd r k.1) (same_world wd next) refl (work-lowers wd r k.1))
      (begun-or-working wd s r.in_shape)

-- the count so far and the work left are together at most L × (1 + 5 × W)
pub changes-bound : (n : ℕ) (wd : World) (ss : List Step) → Reached wd → n + work_left wd ≤ most_work wd →
    changes n wd ss ≤ most_work (run wd ss)
unfolding changes_by run_by
changes-bound n wd [] r h = omega arith
changes-bound n wd (s ∷ ss) r h =
    changes-bound (count_after n wd s r h) (step s wd).world ss (reached-step wd s r) (after-step n wd s r h)

-- ------------------------------------------------------------------------
-- no work left

begins-work : (k : Sort) (done : Bool) → is_work k ≡ true → begins k done ≡ false
begins-work mains done e = refl
begins-work (takes w) done e = refl
begins-work other_work done e = refl
begins-work (drops w) done e = absurd (false≢true e)
begins-work (joins w) done e = absurd (false≢true e)
begins-work (starts silent) done e = absurd (false≢true e)
begins-work appends done e = absurd (false≢true e)

-- A result to be read: where no work is left, none can.
pub none_left : (wd : World) → Reached wd → work_left wd ≡ 0 → NoneCan wd
none_left wd r none s is =
    ⊎_elim (λ begun. absurd (true≢false (sym begun ∙ begins-work (sort_of s) _ is)))
    (λ k.
    ⊎_elim (λ e. ap (same_world wd) e ∙ same_world-itself wd) (λ (l : work_left (step s wd).world < work_left wd). absurd (omega arith))
    (work-lowers wd r k.1))
    (begun-or-working wd s r.in_shape)
