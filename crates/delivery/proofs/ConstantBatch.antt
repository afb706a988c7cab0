-- A player with a constant batch once more: its finish is false too, which document 01 names. With both entries read and two batches taken,
-- none can, and the window has not taken the second of its own entries.
use Rattle.std.specs.Prelude.{ℕ, zero, suc, ◌≡◌, refl, List, [], ◌∷◌, map, Bool, true, false, cond, length, get_or, ltb}
use Rattle.std.proofs.Common.{sym, ap, ◌∙◌, ⊎_elim, arith}
use Rattle.std.proofs.lemmas.Bool.{false≢true}
use Rattle.lists.specs.Cases.{true-or-false}
use Rattle.rules.specs.declared.Term.{Term}
use Rattle.rules.specs.View.{fetching, WindowView}
use Rattle.rules.specs.Shape.{is_empty, shape}
use Rattle.rules.specs.Window.{batch_of}
use Rattle.rules.specs.Rules.{Outcome, window_at, speaks, main_rule, ack_rule}
use Rattle.rules.proofs.Offers.{main_rule-refuses, catch_rule-lawful, send_rule-lawful, written_rule-lawful, ack_rule-lawful}
use Rattle.delivery.specs.World.{World, side_at, numbers_in, player_in, with_lines, with_side, main, catch, written, send, take, ack, late-ack, answered, empty, Stepped, stays, called, called_then, is_late, launch_by, step_by}
use Rattle.delivery.specs.Same.{same_world}
use Rattle.delivery.specs.Statement.{joined_after_by, NoneCanBy, Demand3By}
use Rattle.delivery.proofs.SortLaws.{of-work}
use Rattle.delivery.proofs.Worlds.{with_player-same}
use Rattle.delivery.proofs.SameLaws.{same_world-itself}
use Rattle.delivery.proofs.Stepped.{called_then-refused, late_turned}
use Rattle.delivery.specs.Duds.{first, term, opened_by, after_by, Played, Unfinished, constant_batch, both_read}
use Rattle.delivery.proofs.Duds.{dud, stays-world, only-window, unfinished-shut-out}

abbrev at_end : World
at_end = after_by constant_batch both_read

-- what a window has then, and what stands where there is none: nothing to fetch, a free line, nothing to send
record Idle (v : WindowView) : Type 0 where
  unfetched : (i e : ℕ) → v.condition ≡ fetching i e → ⊥
  free : v.busy ≡ false
  unsent : is_empty (batch_of 2 v).indices ≡ true

idle-at-end : (w : ℕ) → Idle (window_at w (player_in at_end))
unfolding dud
idle-at-end zero = record { unfetched = λ i e h. let z : ◌≡◌ {A = ℕ} 0 1 = cc in omega arith; free = refl; unsent = refl }
idle-at-end (suc w) = record { unfetched = λ i e h. let z : ◌≡◌ {A = ℕ} 0 1 = cc in omega arith; free = refl; unsent = refl }

limit-at-end : at_end.limit ≡ 2
unfolding dud
limit-at-end = refl

-- a call that is refused changes nothing, nor does what would follow it
refused-alike : (o : Outcome) → (o.answer ≡ 0 → ⊥) → ((o.answer ≡ 0 → ⊥) → o.next ≡ player_in at_end) →
    same_world at_end (called o at_end).world ≡ true
refused-alike o n same = rw (with_player-same at_end o.next (same n)) (same_world-itself at_end)

refused-then-alike : (o : Outcome) (f : World → World) → (o.answer ≡ 0 → ⊥) → ((o.answer ≡ 0 → ⊥) → o.next ≡ player_in at_end) →
    same_world at_end (called_then o f at_end).world ≡ true
refused-then-alike o f n same = rw (called_then-refused o f at_end n) (refused-alike o n same)

catch-idle : (w : ℕ) (t : Term) (i : ℕ) → same_world at_end (step_by constant_batch (catch w t i) at_end).world ≡ true
unfolding step_by
catch-idle w t i =
    let law = catch_rule-lawful (numbers_in at_end) w t i (player_in at_end) in
    refused-alike _ (λ z. (idle-at-end w).unfetched i _ (law.does z).turn.was) law.refuses

written-idle : (w : ℕ) (t : Term) → same_world at_end (step_by constant_batch (written w t) at_end).world ≡ true
unfolding step_by
written-idle w t =
    let law = written_rule-lawful (numbers_in at_end) w t (player_in at_end) in
    refused-alike _ (λ z. false≢true (sym (idle-at-end w).free ∙ (law.does z).turn.was)) law.refuses

send-idle : (w : ℕ) (out : List ℕ) → same_world at_end (step_by constant_batch (send w out) at_end).world ≡ true
unfolding step_by
send-idle w out =
    let law = send_rule-lawful (numbers_in at_end) w (length out) (player_in at_end) in
    let unsent : is_empty (batch_of at_end.limit (window_at w (player_in at_end))).indices ≡ true = rw limit-at-end (idle-at-end w).unsent in
    refused-then-alike _ (launch_by constant_batch w at_end)
    (λ z. false≢true (sym (law.does z).turn.some ∙ unsent))
    law.refuses

in-shape-at-end : shape (numbers_in at_end) (player_in at_end) ≡ true
unfolding dud
in-shape-at-end = refl

late-idle : (w : ℕ) (t : Term) (i : ℕ) → same_world at_end (step_by constant_batch (late-ack w t i) at_end).world ≡ true
unfolding step_by
late-idle w t i =
    ⊎_elim
    (λ (late : is_late w t at_end ≡ true).
    ap (λ r. same_world at_end r.world) (late_turned at_end in-shape-at-end w t i late) ∙ same_world-itself at_end)
    (λ (young : is_late w t at_end ≡ false). rw young (same_world-itself at_end))
    (true-or-false (is_late w t at_end))

-- all is read
main-at-end : (i : ℕ) → (main_rule (numbers_in at_end) i (player_in at_end)).answer ≡ 4
unfolding dud
main-at-end i = refl

main-idle : (i : ℕ) → same_world at_end (step_by constant_batch (main i) at_end).world ≡ true
unfolding step_by
main-idle i = refused-alike _ (λ z. absurd (omega (arith, main-at-end i))) (main_rule-refuses (numbers_in at_end) i (player_in at_end))

-- nothing is on the line
line-at-end : (w : ℕ) → (side_at w at_end).line ≡ []
unfolding dud
line-at-end zero = refl
line-at-end (suc w) = refl

take-idle : (w : ℕ) (acks : Bool) → same_world at_end (step_by constant_batch (take w acks) at_end).world ≡ true
unfolding step_by
take-idle w acks =
    rw (line-at-end w, stays-world (ltb w (length at_end.sides)) empty (answered 2) at_end) (same_world-itself at_end)

-- the ack on the way back is of an index that is acknowledged
back-at-end : (side_at 0 at_end).back ≡ record { term = term 1; index = 1 } ∷ []
unfolding dud
back-at-end = refl

no-back-at-end : (w : ℕ) → (side_at (suc w) at_end).back ≡ []
unfolding dud
no-back-at-end w = refl

ack-at-end : (ack_rule (numbers_in at_end) 0 (term 1) 1 (player_in at_end)).answer ≡ 11
unfolding dud
ack-at-end = refl

either-alike : (b : Bool) (x y : Stepped) → same_world at_end x.world ≡ true → same_world at_end y.world ≡ true →
    same_world at_end (cond b x y).world ≡ true
either-alike true x y h k = h
either-alike false x y h k = k

ack-idle : (w : ℕ) → same_world at_end (step_by constant_batch (ack w) at_end).world ≡ true
unfolding step_by
ack-idle zero =
    rw back-at-end
    (either-alike (ltb 0 (length at_end.sides)) _ (stays (answered 2) at_end)
    (refused-then-alike (ack_rule (numbers_in at_end) 0 (term 1) 1 (player_in at_end))
    (λ wd'. with_side 0 (with_lines (side_at 0 wd').line [] (side_at 0 wd')) wd')
    (λ z. absurd (omega (arith, ack-at-end))) (ack_rule-lawful (numbers_in at_end) 0 (term 1) 1 (player_in at_end)).refuses)
    (same_world-itself at_end))
ack-idle (suc w) =
    rw (no-back-at-end w, stays-world (ltb (suc w) (length at_end.sides)) empty (answered 2) at_end) (same_world-itself at_end)

constant-none-can : NoneCanBy constant_batch at_end
constant-none-can =
    of-work {P = λ s. same_world at_end (step_by constant_batch s at_end).world ≡ true}
    (record {
      main_has = main-idle;
      catch_has = catch-idle;
      written_has = written-idle;
      send_has = send-idle;
      take_has = take-idle;
      ack_has = ack-idle;
      late_has = late-idle;
    })

-- ------------------------------------------------------------------------
-- The finish

pub constant-played-on : Played constant_batch both_read (first ∷ first ∷ [])
unfolding dud
constant-played-on = record { started = refl; answers = refl; taken = refl }

constant-unfinished : Unfinished constant_batch both_read
unfolding dud
constant-unfinished = record {
  joined = only-window (λ w. joined_after_by constant_batch w (speaks 0 w) (opened_by constant_batch) both_read ≡ true) refl;
  none = constant-none-can;
  missing = λ e. absurd (omega (arith, ap (λ ps. get_or (map (λ x. x.index) ps) 1 0) e));
}

-- A result to be read: demand 3 does not hold of a player with a constant batch. Its finish is false: the second entry is not taken.
pub constant-batch-never-finishes : Demand3By constant_batch → ⊥
constant-batch-never-finishes = unfinished-shut-out constant-played-on.started constant-unfinished
