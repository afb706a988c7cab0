-- The duds that document 01 says demand 3 shuts out, each with its run computed, after which a part of demand 3 is false.
-- The first Start of each run is answered 0, so that demand 3 speaks of it.
use Rattle.std.specs.Prelude.{ℕ, zero, suc, ◌<◌, ◌≡◌, refl, List, [], ◌∷◌, map, Bool, true, false, cond, length, get_or, ltb}
use Rattle.std.proofs.Common.{ap, append-nil, arith}
use Rattle.std.proofs.Math.ListN as L
use Rattle.std.proofs.lemmas.List.{set-get_or}
use Rattle.lists.specs.Keep.{keep}
use Rattle.journal.specs.Own.{own, own_after}
use Rattle.rules.specs.View.{PlayerView}
use Rattle.rules.specs.Rules.{speaks}
use Rattle.delivery.specs.Machine.{Machine}
use Rattle.delivery.specs.World.{World, no_side, side_at, player_in, with_player, with_sides, on_line, Step, Reply, answered, empty, unmade, stays, is_late, step_by}
use Rattle.delivery.specs.Same.{same_world}
use Rattle.delivery.specs.Statement.{joined_after_by, NoneCanBy, Demand3By}
use Rattle.delivery.specs.Duds.{two_entries, first, nobody, settings, start_of, opened_by, after_by, Played, NotLeading, Unfinished, constant_batch, two_batches, stopping, always, stands_still, is_through, first_only, one_batch}
use Rattle.delivery.proofs.Examples.{computed}
use Rattle.delivery.proofs.SortLaws.{of-work}
use Rattle.delivery.proofs.Worlds.{with_player-same}
use Rattle.delivery.proofs.SameLaws.{same_world-itself}

-- to unfold this is to unfold what such a run computes with
unfoldable pub dud : Unit {0}
unfolding computed joined_after_by own_after keep
dud = tt

-- ------------------------------------------------------------------------
-- A constant batch

pub constant-played : Played constant_batch two_batches (first ∷ first ∷ [])
unfolding dud
constant-played = record { started = refl; answers = refl; taken = refl }

-- the second of the window's own entries is not the first, and of fewer there is no second
second-differs : (k : ℕ) → first ∷ first ∷ [] ≡ L.take k (own two_entries 0) → ⊥
unfolding dud
second-differs zero e = absurd (omega (arith, ap length e))
second-differs (suc zero) e = absurd (omega (arith, ap length e))
second-differs (suc (suc k)) e = absurd (omega (arith, ap (λ ps. get_or (map (λ x. x.index) ps) 1 0) e))

-- whatever k is
constant-not-leading : NotLeading constant_batch two_batches
unfolding dud
constant-not-leading l = second-differs l.k l.list

-- A result to be read: demand 3 does not hold of a player with a constant batch. Its leading part is false: an entry is taken twice.
pub constant-batch-shut-out : Demand3By constant_batch → ⊥
constant-batch-shut-out d =
    constant-not-leading ((d nobody two_entries 1 settings two_batches constant-played.started).leading 0 (omega arith))

-- ------------------------------------------------------------------------
-- Players that stop

pub stays-world : (b : Bool) (r r' : Reply) (wd : World) → (cond b (stays r wd) (stays r' wd)).world ≡ wd
stays-world true r r' wd = refl
stays-world false r r' wd = refl

-- nothing is on the line of any window, nor on the way back
abbrev LinesEmpty : World → Type 0
LinesEmpty wd = (w : ℕ) → ((side_at w wd).line ≡ []) × ((side_at w wd).back ≡ [])

-- once it has stopped, with the lines empty, none can
module _ (stops : PlayerView → Bool) (wd : World) (stopped : stops (player_in wd) ≡ true) (bare : LinesEmpty wd) where
  alike : {after : World} → after ≡ wd → same_world wd after ≡ true
  alike e = rw e (same_world-itself wd)

  left : with_player (player_in wd) wd ≡ wd
  left = with_player-same wd (player_in wd) refl

  stopped-none-can : NoneCanBy (stopping stops) wd
  unfolding step_by on_line
  stopped-none-can =
      of-work {P = λ s. same_world wd (step_by (stopping stops) s wd).world ≡ true}
      (record {
        main_has = λ i. alike (rw stopped left);
        catch_has = λ w t i. alike (rw stopped left);
        written_has = λ w t. alike (rw stopped left);
        send_has = λ w out. alike (rw (stopped, left, append-nil) (ap (λ ps. with_sides ps wd) (set-get_or wd.sides w no_side)));
        take_has = λ w acks. alike (rw (bare w).0 (stays-world (ltb w (length wd.sides)) empty (answered 2) wd));
        ack_has = λ w. alike (rw (bare w).1 (stays-world (ltb w (length wd.sides)) empty (answered 2) wd));
        late_has = λ w t i. alike (rw (stopped, left) (stays-world (is_late w t wd) (answered 0) unmade wd));
      })

-- of the only window
pub only-window : (P : ℕ → Type 0) → P 0 → (w : ℕ) → w < 1 → P w
only-window P p zero h = p
only-window P p (suc w) h = absurd (omega arith)

-- demand 3 does not hold of a player with a run that is unfinished
pub unfinished-shut-out : {m : Machine} {steps : List Step} → (start_of m).answer ≡ 0 → Unfinished m steps → Demand3By m → ⊥
unfinished-shut-out {steps = steps} started u d =
    u.missing ((d nobody two_entries 1 settings steps started).finish u.joined u.none 0 (omega arith))

-- ------------------------------------------------------------------------
-- A player that stands still

-- the Start alone
pub still-played : Played stands_still [] []
unfolding dud
still-played = record { started = refl; answers = refl; taken = refl }

still-unfinished : Unfinished stands_still []
unfolding dud
still-unfinished = record {
  joined = only-window (λ w. joined_after_by stands_still w (speaks 0 w) (opened_by stands_still) [] ≡ true) refl;
  none = stopped-none-can always (after_by stands_still []) refl bare;
  missing = λ e. absurd (omega (arith, ap length e));
}
  where
    bare : LinesEmpty (after_by stands_still [])
    bare zero = (refl, refl)
    bare (suc w) = (refl, refl)

-- A result to be read: demand 3 does not hold of a player that stands still. Its finish is false: nothing is taken.
pub stands-still-shut-out : Demand3By stands_still → ⊥
stands-still-shut-out = unfinished-shut-out still-played.started still-unfinished

-- ------------------------------------------------------------------------
-- A player that plays the first entry, and afterwards only says 0

pub first-played : Played first_only one_batch (first ∷ [])
unfolding dud
first-played = record { started = refl; answers = refl; taken = refl }

pub second-unread : (after_by first_only one_batch).current ≡ 1
unfolding dud
second-unread = refl

first-unfinished : Unfinished first_only one_batch
unfolding dud
first-unfinished = record {
  joined = only-window (λ w. joined_after_by first_only w (speaks 0 w) (opened_by first_only) one_batch ≡ true) refl;
  none = stopped-none-can is_through (after_by first_only one_batch) refl bare;
  missing = λ e. absurd (omega (arith, ap length e));
}
  where
    bare : LinesEmpty (after_by first_only one_batch)
    bare zero = (refl, refl)
    bare (suc w) = (refl, refl)

-- A result to be read: demand 3 does not hold of a player that plays the first entry and afterwards only says 0. Its finish is false: the
-- second entry is not taken.
pub first-only-shut-out : Demand3By first_only → ⊥
first-only-shut-out = unfinished-shut-out first-played.started first-unfinished
