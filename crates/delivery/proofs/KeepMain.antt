-- Main keeps the invariant of each window: what is read is queued where it is the window's own, or is still to be fetched; and a tick is
-- queued where nothing is due.
use Rattle.std.specs.Prelude.{ℕ, suc, ◌+◌, ◌≤◌, ◌<◌, ◌≡◌, refl, List, [], ◌∷◌, ◌++◌, Bool, true, false, length}
use Rattle.std.proofs.Common.{ap, subst, ⊎_elim, append-nil, arith, le_refl, lt-ltb, le-ltb}
use Rattle.std.proofs.Math.Path.{subst⁻¹}
use Rattle.std.proofs.Math.Bool.{and-true, and-false}
use Rattle.std.proofs.lemmas.Bool.{false≢true}
use Rattle.journal.specs.declared.Entry.{Entry}
use Rattle.journal.specs.Entry.{is_for}
use Rattle.lists.specs.Cases.{true-or-false, le-or-lt}
use Rattle.rules.specs.View.{Condition, normal, fetching, completed, suspended, WindowView}
use Rattle.rules.specs.Window.{is_suspended, requeue, wanted, read_at, tick_at, main_at}
use Rattle.rules.proofs.Offers.{read_at-other, read_at-suspended, read_at-room, read_at-normal, read_at-fetching, read_at-completed, Ticked, tick_at-cases, main_at-both, one_if}
use Rattle.delivery.specs.World.{Side, with_view}
use Rattle.delivery.proofs.Invariant.{Inv, Holds, Queues}
use Rattle.delivery.proofs.Queued.{holds-none, holds-still, holds-to, holds_more, holds-none-last, holds-tick, plain-none, plain_more, first_more, first_alone, with_queues, queues-in, keep-requeue}

module _ (j : List Entry) (c w : ℕ) (p : Side) where
  -- the window with queues and a condition that are named, and what the entry's clause makes of it
  abbrev view : List ℕ → List ℕ → Condition → WindowView
  view n q s = requeue n q s p.view

  abbrev Kept : List ℕ → List ℕ → Condition → Type 0
  Kept n q s = Inv j (suc c) w (with_view (read_at j w (suc c) (view n q s)) p)

  module _ (n q : List ℕ) (s : Condition) (inv : Inv j c w (with_queues n q s p)) where
    by-law : (n' q' : List ℕ) (s' : Condition) → is_suspended s ≡ is_suspended s' → read_at j w (suc c) (view n q s) ≡ view n' q' s' →
        Queues j (suc c) w p.view.acked p.view.sent n' q' s' → Kept n q s
    by-law n' q' s' e law queues = subst⁻¹ (λ v. Inv j (suc c) w (with_view v p)) law (keep-requeue n' q' s' inv e queues)

    acked-sent : p.view.acked ≤ p.view.sent
    acked-sent = omega (arith, inv.unacked.acked_last, inv.flight.last_sent)

    wanted-own : (b : Bool) → p.view.sent ≤ c → is_for j w (suc c) ≡ b → wanted j w (suc c) p.view ≡ b
    wanted-own b h e = simp (lt-ltb p.view.acked (suc c) (omega (arith, acked-sent)), e, and-true)

    -- an index that is the window's joins the normal queue if there is room, and no other does: the queue goes on from where it began
    joins : (base : ℕ) → is_suspended s ≡ false → base ≤ c → p.view.sent ≤ c → Holds j w base c n →
        ((t : Bool) → (t ≡ true → is_for j w (suc c) ≡ true) → Holds j w base (suc c) (n ++ one_if t (suc c)) →
        Queues j (suc c) w p.view.acked p.view.sent (n ++ one_if t (suc c)) q s) →
        (wanted j w (suc c) p.view ≡ true → 128 ≤ length n → Kept n q s) → Kept n q s
    joins base here h sent is queues full =
        ⊎_elim
        (λ (own : is_for j w (suc c) ≡ true).
        let want : wanted j w (suc c) p.view ≡ true = wanted-own true sent own in
        ⊎_elim (full want)
        (λ (room : length n < 128).
        by-law (n ++ (suc c ∷ [])) q s refl (read_at-room j w (suc c) (view n q s) want here room)
        (queues true (λ e. own) (holds_more true own h is)))
        (le-or-lt 128 (length n)))
        (λ (other : is_for j w (suc c) ≡ false).
        by-law n q s refl (read_at-other j w (suc c) (view n q s) (wanted-own false sent other))
        (subst (λ l. Queues j (suc c) w p.view.acked p.view.sent l q s) (append-nil n)
        (queues false (λ e. absurd (false≢true e)) (holds_more false other h is))))
        (true-or-false (is_for j w (suc c)))

  keep-in : (n q : List ℕ) (s : Condition) → Inv j c w (with_queues n q s p) → Kept n q s
  keep-in n q normal inv =
      let is = inv.queues in
      ⊎_elim
      (λ (h : p.view.sent ≤ c).
      joins n q normal inv p.view.sent refl h h is.normal_has
      (λ t own has. record { ahead = omega arith; normal_has = has; tick_first = first_more (suc c) t own is.tick_first })
      (λ want full.
      by-law n q normal inv [] n (fetching (suc c) (suc c)) refl (read_at-normal j w (suc c) (view n q normal) want refl full)
      (record {
        behind = omega arith;
        order = le_refl (suc c);
        read = le_refl (suc c);
        catch_has = holds-to (omega arith) is.normal_has;
        normal_has = holds-none (le_refl (suc c));
        tick_first = is.tick_first;
        no_tick = plain-none;
      })))
      (λ (h : c < p.view.sent).
      by-law n q normal inv n q normal refl
      (read_at-other j w (suc c) (view n q normal) (simp (le-ltb p.view.acked (suc c) (omega (arith, is.ahead)), and-false)))
      (record {
        ahead = omega (arith, is.ahead);
        normal_has = holds-still (suc c) (omega arith) (omega arith) is.normal_has;
        tick_first = is.tick_first;
      }))
      (le-or-lt p.view.sent c)
  keep-in n q (fetching next end) inv =
      let is = inv.queues in
      joins n q (fetching next end) inv end refl is.read (omega (arith, is.behind, is.order, is.read)) is.normal_has
      (λ t own has. record {
        behind = is.behind;
        order = is.order;
        read = omega (arith, is.read);
        catch_has = is.catch_has;
        normal_has = has;
        tick_first = is.tick_first;
        no_tick = plain_more (suc c) t own is.no_tick;
      })
      (λ want full.
      by-law n q (fetching next end) inv [] q (fetching next (suc c)) refl
      (read_at-fetching j w (suc c) (view n q (fetching next end)) next end want refl full)
      (record {
        behind = is.behind;
        order = omega (arith, is.order, is.read);
        read = le_refl (suc c);
        catch_has = is.catch_has;
        normal_has = holds-none (le_refl (suc c));
        tick_first = is.tick_first;
        no_tick = plain-none;
      }))
  keep-in n q (completed end) inv =
      let is = inv.queues in
      joins n q (completed end) inv end refl is.read (omega (arith, is.behind, is.read)) is.normal_has
      (λ t own has. record {
        behind = is.behind;
        read = omega (arith, is.read);
        some = is.some;
        catch_has = is.catch_has;
        normal_has = has;
        tick_first = is.tick_first;
        no_tick = plain_more (suc c) t own is.no_tick;
      })
      (λ want full.
      by-law n q (completed end) inv [] q (fetching (end + 1) (suc c)) refl
      (read_at-completed j w (suc c) (view n q (completed end)) end want refl full)
      (record {
        behind = omega (arith, is.behind);
        order = omega (arith, is.read);
        read = le_refl (suc c);
        catch_has = holds-to (omega arith) is.catch_has;
        normal_has = holds-none (le_refl (suc c));
        tick_first = is.tick_first;
        no_tick = plain-none;
      }))
  keep-in n q suspended inv =
      by-law n q suspended inv n q suspended refl (read_at-suspended j w (suc c) (view n q suspended) refl) inv.queues

  pub keep-read : Inv j c w p → Inv j (suc c) w (with_view (read_at j w (suc c) p.view) p)
  keep-read inv = keep-in p.view.normal_queue p.view.catch_queue p.view.condition inv

-- a tick is queued where nothing is due, and `current` is then not the window's own
pub tick-other : {j : List Entry} {c w e : ℕ} {p : Side} → Inv j c w p → 1 ≤ e → Ticked e c p.view → is_for j w c ≡ false
tick-other {j} {c} {w} {e} {p} inv some t =
    holds-none-last (omega (arith, t.behind)) (rw t.normal_queue at (queues-in inv normal t.condition).normal_has)

keep-tick : {j : List Entry} {c w : ℕ} {p : Side} (e : ℕ) → 1 ≤ e → Inv j c w p → Inv j c w (with_view (tick_at e c p.view) p)
keep-tick {j} {c} {w} {p} e some inv =
    tick_at-cases e c p.view (λ v. Inv j c w (with_view v p)) inv
    (λ t.
    let is = queues-in inv normal t.condition in
    keep-requeue (c ∷ []) [] normal inv (ap is_suspended t.condition)
    (record {
      ahead = is.ahead;
      normal_has = holds-tick (omega (arith, t.behind)) (tick-other inv some t) (rw t.normal_queue at is.normal_has);
      tick_first = first_alone;
    }))

pub keep-main : (j : List Entry) (c w e : ℕ) (p : Side) → 1 ≤ e → Inv j c w p →
    Inv j (suc c) w (with_view (main_at j w e (suc c) p.view) p)
keep-main j c w e p some inv =
    subst⁻¹ (λ v. Inv j (suc c) w (with_view v p)) (main_at-both j w e (suc c) p.view) (keep-tick e some (keep-read j c w p inv))
