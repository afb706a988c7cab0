-- What Send answers at one window, check by check, and what it leaves.
use Prim.Native.Nat.{ℕ, zero, suc, ◌+◌, ◌*◌, ◌≤◌, ◌<◌}
use mathlib.Core.Path.{◌≡◌, refl, sym, ap, ◌∙◌}
use mathlib.Core.List.{List}
use mathlib.Core.Bool.{Bool, true, false, true≢false, not}
use native.Mathlib.Omega.{arith}
use borrow.Author.Tests.{eq-eqb, ne_eqb, not-false}
use lib.ListN.{length}
use Rattle.journal.specs.Entry.{entries_of}
use Rattle.lists.specs.Cases.{and_left}
use Rattle.lists.specs.Over.{over, over-front}
use Rattle.rules.specs.View.{WindowView}
use Rattle.rules.specs.Shape.{is_empty, lengths_fit}
use Rattle.rules.specs.Window.{check, batch_of, launched, send_at}
use Rattle.rules.specs.Rules.{batch_numbers}
use Rattle.rules.proofs.Offers.{check-yes, check-no, check-passed, send_at-refuses, SentOut, send_at-done}
use Rattle.window_send.specs.Sending.{send_guard, send_turn, turn_output}
use Rattle.window_send.specs.Shares.{caught_of, queued_of, parted}
use Rattle.window_send.specs.Shares.{caught_of-held, queued_of-held, shares-limit, batch_of-parted, batch_of-length}
use Rattle.window.proofs.Empty.{is_empty-yes, is_empty-length}
use lib.Dec.{eqb}

-- a batch is empty where neither queue gives anything
pub batch_empty : (k : ℕ) (v : WindowView) → is_empty (batch_of k v).indices ≡ eqb (caught_of k v + queued_of k v) 0
batch_empty k v = sym (is_empty-length (batch_of k v).indices) ∙ ap (λ n. eqb n 0) (batch_of-length k v)

-- ------------------------------------------------------------------------
-- an answer of 0, and a refusal

-- what code that writes the batch and launches it relies on, and what the window becomes
pub record Sends (limit size : ℕ) (v : WindowView) : Type 0 where
  pub fits : lengths_fit v ≡ true
  pub few : length v.batches < 8
  pub caught : caught_of limit v ≤ length v.catch_queue
  pub queued : queued_of limit v ≤ length v.normal_queue
  pub some : 1 ≤ caught_of limit v + queued_of limit v
  pub room : (caught_of limit v + queued_of limit v) * 5 ≤ size
  pub batch : batch_of limit v ≡ parted (caught_of limit v) (queued_of limit v) v
  pub next : (send_turn limit size v).next ≡ launched (parted (caught_of limit v) (queued_of limit v) v)

pub send_turn-done : (limit size : ℕ) (v : WindowView) → (send_turn limit size v).answer ≡ 0 → Sends limit size v
unfolding send_turn
send_turn-done limit size v e =
    let p = check-passed (not (send_guard limit v)) 1 refl v (send_at limit size v) e in
    let s : SentOut limit size v = send_at-done limit size v p.rest in
    let l = shares-limit limit v in
    let n : 1 ≤ caught_of limit v + queued_of limit v = going (caught_of limit v + queued_of limit v) refl s.some in
    let b = batch_of-parted limit v n in
    record {
      fits = and_left (lengths_fit v) _ (not-false _ p.test);
      few = s.few;
      caught = caught_of-held limit v;
      queued = queued_of-held limit v;
      some = n;
      room = omega (arith, s.room);
      batch = b;
      next = ap (λ x. x.next) p.same ∙ s.next ∙ ap launched b;
    }
  where
    going : (m : ℕ) → caught_of limit v + queued_of limit v ≡ m → is_empty (batch_of limit v).indices ≡ false → 1 ≤ m
    going zero q f = absurd (true≢false (sym (is_empty-yes (batch_of limit v).indices (batch_of-length limit v ∙ q)) ∙ f))
    going (suc m) q f = omega arith

pub send_turn-refuses : (limit size : ℕ) (v : WindowView) → ((send_turn limit size v).answer ≡ 0 → ⊥) → (send_turn limit size v).next ≡ v
unfolding send_turn
send_turn-refuses limit size v = by (not (send_guard limit v))
  where
    by : (b : Bool) → ((check b 1 v (send_at limit size v)).answer ≡ 0 → ⊥) → (check b 1 v (send_at limit size v)).next ≡ v
    by true h = ap (λ x. x.next) (check-yes true 1 v (send_at limit size v) refl)
    by false h =
        let e = check-no false 1 v (send_at limit size v) refl in
        ap (λ x. x.next) e ∙ send_at-refuses limit size v (λ z. h (ap (λ x. x.answer) e ∙ z))

-- the output of either
module _ (ns : List ℕ) (w limit : ℕ) (out : List ℕ) (v : WindowView) where
  pub turn_output-done : (send_turn limit (length out) v).answer ≡ 0 →
      over 0 (batch_numbers (entries_of ns) w (parted (caught_of limit v) (queued_of limit v) v).indices) out ≡ turn_output ns w limit out v
  unfolding turn_output
  turn_output-done e =
      let s = send_turn-done limit (length out) v e in
      rw (eq-eqb _ 0 e, s.batch) (over-front (batch_numbers (entries_of ns) w (parted (caught_of limit v) (queued_of limit v) v).indices) out)

  pub turn_output-refused : ((send_turn limit (length out) v).answer ≡ 0 → ⊥) → out ≡ turn_output ns w limit out v
  unfolding turn_output
  turn_output-refused h = rw (ne_eqb _ 0 h)
