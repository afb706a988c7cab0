-- Every world of a run is reached: the beginning is, and each step leads on to another.
use Rattle.std.specs.Prelude.{ℕ, ◌%◌, ◌≤◌, ◌<◌, ◌≡◌, refl, List, [], ◌∷◌, true, length, eqb, leb}
use Rattle.std.proofs.Common.{ap, ◌∙◌, arith, leb-true}
use Rattle.journal.specs.declared.Entry.{Entry}
use Rattle.lists.specs.Cases.{and_left, and_right}
use Rattle.journal.specs.Entry.{count_of}
use Rattle.rules.proofs.Offers.{shaped}
use Rattle.delivery.specs.World.{Side, World, side_at, numbers_in, player_in, Step, Reply, step, run, run_by}
use Rattle.delivery.proofs.Invariant.{Inv, Reached}
use Rattle.delivery.proofs.KeepMain.{keep-main}
use Rattle.delivery.proofs.KeepCatch.{keep-catch}
use Rattle.delivery.proofs.KeepSend.{keep-send}
use Rattle.delivery.proofs.KeepLine.{keep-written, keep-ack, keep-take}
use Rattle.delivery.proofs.KeepFault.{keep-drop, keep_join, keep-start, keep_append}
use Rattle.delivery.proofs.Worlds.{count-in}
use Rattle.delivery.proofs.Effects.{Worked, caught, sent, written, took, acked}
use Rattle.delivery.proofs.Moves.{Moved, still, appended, mained, worked, dropped-here, joined-here, started-here, step-shaped, step_count, side-moves}

-- ------------------------------------------------------------------------
-- what the shape says of a reached world

pub read-in : (wd : World) → Reached wd → wd.current ≤ length wd.journal
read-in wd r = omega (arith, (shaped (numbers_in wd) (player_in wd) r.in_shape).current_in, count-in wd)

pub few-in : (wd : World) → Reached wd → length wd.journal ≤ 65535
few-in wd r =
    let journal = (shaped (numbers_in wd) (player_in wd) r.in_shape).journal in
    let whole : leb (count_of (numbers_in wd)) 65535 ≡ true = and_right (eqb (length (numbers_in wd) % 4) 0) _ journal in
    omega (arith, leb-true (count_of (numbers_in wd)) 65535 whole, count-in wd)

-- the spacing is some
pub spaced-in : (wd : World) → Reached wd → 1 ≤ wd.spacing
spaced-in wd r =
    leb-true 1 wd.spacing (and_left (leb 1 wd.spacing) _ (shaped (numbers_in wd) (player_in wd) r.in_shape).spacing)

-- ------------------------------------------------------------------------
-- one side

pub keep-worked : {j : List Entry} {c limit w : ℕ} {s : Step} {reply : Reply} {p p' : Side} → c ≤ length j → length j ≤ 65535 →
    Inv j c w p → Worked j limit w s reply p p' → Inv j c w p'
keep-worked read few inv (caught k) = rw k.side (keep-catch inv k.term k.index k.tells)
keep-worked read few inv (sent k) = rw k.side (keep-send _ _ _ read _ inv _ (length k.out) k.tells).inv
keep-worked read few inv (written k) = rw k.side (keep-written inv)
keep-worked read few inv (took k) = rw k.side (keep-take inv few k.acks k.entry k.rest k.front)
keep-worked read few inv (acked k) = rw k.side (keep-ack inv k.offer k.rest k.front k.tells)

-- ------------------------------------------------------------------------
-- a step

pub reached-step : (wd : World) (s : Step) → Reached wd → Reached (step s wd).world
reached-step wd s r = record {
  in_shape = step-shaped wd s r.in_shape;
  each = λ w h.
      let within : w < length wd.sides = omega (arith, step_count wd s r.in_shape) in
      by w (r.each w within) (side-moves wd s r.in_shape w within);
}
  where
    by : (w : ℕ) → Inv wd.journal wd.current w (side_at w wd) → Moved s wd w (side_at w wd) (side_at w (step s wd).world) →
        Inv (step s wd).world.journal (step s wd).world.current w (side_at w (step s wd).world)
    by w inv (still k) = rw (k.ground.kept.journal, k.ground.current, k.side) inv
    by w inv (appended k) =
        rw (ap (λ x. x.journal) k.by.world, ap (λ x. x.current) k.by.world, k.side)
        (keep_append wd.journal k.by.entry w (read-in wd r) inv)
    by w inv (mained k) =
        rw (k.by.mained.journal, k.by.mained.current, k.side)
        (keep-main wd.journal wd.current w wd.spacing (side_at w wd) (spaced-in wd r) inv)
    by w inv (worked k) = rw (k.ground.kept.journal, k.ground.current) (keep-worked (read-in wd r) (few-in wd r) inv k.work)
    by w inv (dropped-here k) = rw (k.ground.kept.journal, k.ground.current, k.side) (keep-drop inv)
    by w inv (joined-here k) = rw (k.ground.kept.journal, k.ground.current, k.side) (keep_join inv k.away)
    by w inv (started-here k) =
        rw (k.by.restarted.journal, k.side)
        (keep-start k.by.settings.first k.by.settings.silent (side_at w wd) inv.taken k.least)

-- ------------------------------------------------------------------------
-- a list of steps

pub reached-run : (wd : World) (ss : List Step) → Reached wd → Reached (run wd ss)
unfolding run_by
reached-run wd [] r = r
reached-run wd (s ∷ ss) r = reached-run (step s wd).world ss (reached-step wd s r)

-- the number of windows never changes
pub run-count : (wd : World) (ss : List Step) → Reached wd → length (run wd ss).sides ≡ length wd.sides
unfolding run_by
run-count wd [] r = refl
run-count wd (s ∷ ss) r = run-count (step s wd).world ss (reached-step wd s r) ∙ step_count wd s r.in_shape
