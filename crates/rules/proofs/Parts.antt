-- The parts of a window in shape: its queues, its line and its condition. A window other than Suspended is in shape part by part.
use Rattle.std.specs.Prelude.{ℕ, ◌≤◌, ◌<◌, ◌≡◌, refl, List, [], ◌∷◌, ◌++◌, true, false, not, ◌&&◌, length, drop, leb}
use Rattle.std.proofs.Common.{ap, true≢false, arith, leb-true, le-leb, length-append, length-drop}
use Rattle.std.proofs.lemmas.Bool.{false≢true}
use Rattle.lists.specs.Cases.{and_left, and_right, and_intro}
use Rattle.lists.specs.All.{all, queued_in, held_in, all_append, all_drop, all-weaken}
use Rattle.rules.specs.View.{Condition, normal, fetching, completed, suspended, WindowView}
use Rattle.rules.specs.Shape.{is_empty, condition_held, next_fits, end_fits, catch_up_fits, suspended_fits}
use Rattle.rules.specs.Window.{is_suspended, requeue, dropped}
use Rattle.rules.proofs.Shaped.{WindowShaped}

-- ------------------------------------------------------------------------
-- a queue: at most 128 indices, each of 1 to L

pub record Queued (l : ℕ) (q : List ℕ) : Type 0 where
  pub fits : length q ≤ 128
  pub within : all (queued_in l) q ≡ true

pub queued-none : {l : ℕ} → Queued l []
unfolding all
queued-none = record { fits = omega arith; within = refl }

pub queued-push : {l i : ℕ} {q : List ℕ} → length q < 128 → 1 ≤ i → i ≤ l → Queued l q → Queued l (q ++ (i ∷ []))
unfolding all
queued-push {l} {i} {q} h low high s =
    record {
      fits = simp length-append (omega arith);
      within = rw (all_append (queued_in l) q (i ∷ []), s.within, le-leb 1 i low, le-leb i l high);
    }

pub queued-drop : {l : ℕ} {q : List ℕ} (k : ℕ) → Queued l q → Queued l (drop k q)
queued-drop {l} {q} k s = record { fits = simp length-drop (omega arith); within = all_drop (queued_in l) k q s.within }

pub normal_queued : {l c : ℕ} {v : WindowView} → WindowShaped l c v → Queued l v.normal_queue
normal_queued s = record { fits = s.normal_fits; within = s.normal_in }

pub catch_queued : {l c : ℕ} {v : WindowView} → WindowShaped l c v → Queued l v.catch_queue
catch_queued s = record { fits = s.catch_fits; within = s.catch_in }

-- ------------------------------------------------------------------------
-- the line: the indices that a window holds outside its queues and its condition

pub record Lined (l acked sent : ℕ) (batches : List ℕ) : Type 0 where
  pub acked_in : acked ≤ l
  pub sent_in : sent ≤ l
  pub fits : length batches ≤ 8
  pub within : all (held_in l) batches ≡ true

pub lined : {l c : ℕ} {v : WindowView} → WindowShaped l c v → Lined l v.acked v.sent v.batches
lined s = record { acked_in = s.acked_in; sent_in = s.sent_in; fits = s.batches_fit; within = s.batches_in }

-- ------------------------------------------------------------------------
-- a condition other than Suspended, beside a catch-up queue

pub record ConditionShaped (l c : ℕ) (s : Condition) (q : List ℕ) : Type 0 where
  pub held : condition_held l s ≡ true
  pub next : next_fits s ≡ true
  pub end : end_fits c s ≡ true
  pub catch_up : catch_up_fits s q ≡ true
  pub here : is_suspended s ≡ false

pub condition_shaped : {l c : ℕ} {v : WindowView} → WindowShaped l c v → is_suspended v.condition ≡ false →
    ConditionShaped l c v.condition v.catch_queue
condition_shaped s h = record { held = s.condition_in; next = s.next; end = s.end; catch_up = s.catch_up; here = h }

module _ {l c : ℕ} {q : List ℕ} where
  pub normal-shaped : is_empty q ≡ true → ConditionShaped l c normal q
  normal-shaped e = record { held = refl; next = refl; end = refl; catch_up = e; here = refl }

  pub fetching-shaped : {n e : ℕ} → c ≤ l → 1 ≤ n → n ≤ e → e ≤ c → ConditionShaped l c (fetching n e) q
  fetching-shaped {n} {e} most low high top =
      record {
        held = and_intro (le-leb n l (omega arith)) (le-leb e l (omega arith));
        next = and_intro (le-leb 1 n low) (le-leb n e high);
        end = le-leb e c top;
        catch_up = refl;
        here = refl;
      }

  pub completed-shaped : {e : ℕ} → c ≤ l → e ≤ c → is_empty q ≡ false → ConditionShaped l c (completed e) q
  completed-shaped {e} most top some =
      record { held = le-leb e l (omega arith); next = refl; end = le-leb e c top; catch_up = ap not some; here = refl }

-- what a window in shape says of the indices of its condition
module _ {l c : ℕ} {v : WindowView} (s : WindowShaped l c v) where
  pub fetching-bounds : {n e : ℕ} → v.condition ≡ fetching n e → (1 ≤ n) × (n ≤ e) × (e ≤ c)
  fetching-bounds {n} {e} is =
      let t : (leb 1 n && leb n e) ≡ true = rw is at s.next in
      let u : leb e c ≡ true = rw is at s.end in
      (leb-true 1 n (and_left (leb 1 n) (leb n e) t), leb-true n e (and_right (leb 1 n) (leb n e) t), leb-true e c u)

  pub completed-bound : {e : ℕ} → v.condition ≡ completed e → e ≤ c
  completed-bound {e} is = let u : leb e c ≡ true = rw is at s.end in leb-true e c u

-- ------------------------------------------------------------------------
-- the window

suspended_fits-here : (v : WindowView) (s : Condition) → is_suspended s ≡ false → suspended_fits v s ≡ true
suspended_fits-here v normal h = refl
suspended_fits-here v (fetching n e) h = refl
suspended_fits-here v (completed e) h = refl
suspended_fits-here v suspended h = absurd (true≢false h)

-- a window other than Suspended is in shape part by part
pub here-shaped : {l c : ℕ} {v : WindowView} → Queued l v.normal_queue → Queued l v.catch_queue →
    Lined l v.acked v.sent v.batches → ConditionShaped l c v.condition v.catch_queue → WindowShaped l c v
here-shaped {v = v} n q h s =
    record {
      normal_fits = n.fits;
      catch_fits = q.fits;
      batches_fit = h.fits;
      normal_in = n.within;
      catch_in = q.within;
      acked_in = h.acked_in;
      sent_in = h.sent_in;
      batches_in = h.within;
      condition_in = s.held;
      next = s.next;
      end = s.end;
      catch_up = s.catch_up;
      away = suspended_fits-here v v.condition s.here;
    }

-- a Suspended window with nothing queued or unacknowledged is in shape where its acknowledged and sent indices are
pub away-shaped : {l c : ℕ} (v : WindowView) → v.acked ≤ l → v.sent ≤ l → WindowShaped l c (dropped v)
unfolding all
away-shaped v acked sent =
    record {
      normal_fits = omega arith;
      catch_fits = omega arith;
      batches_fit = omega arith;
      normal_in = refl;
      catch_in = refl;
      acked_in = acked;
      sent_in = sent;
      batches_in = refl;
      condition_in = refl;
      next = refl;
      end = refl;
      catch_up = refl;
      away = refl;
    }

-- a window with an unacknowledged batch is not Suspended
pub batches-here : {l c : ℕ} {v : WindowView} → WindowShaped l c v → 1 ≤ length v.batches → is_suspended v.condition ≡ false
batches-here {v = v} s some = by v.condition s.away
  where
    none : (q : List ℕ) → is_empty q ≡ true → 1 ≤ length q → ⊥
    none [] e h = omega arith
    none (x ∷ q) e h = false≢true e

    by : (t : Condition) → suspended_fits v t ≡ true → is_suspended t ≡ false
    by normal e = refl
    by (fetching n end) e = refl
    by (completed end) e = refl
    by suspended e =
        absurd (none v.batches (and_right (is_empty v.catch_queue) _ (and_right (is_empty v.normal_queue) _ e)) some)

-- ------------------------------------------------------------------------
-- a window of which only the queues and the condition change

-- the term, the indices, the line and the unacknowledged batches as they are
pub record Untouched (v v' : WindowView) : Type 0 where
  pub term : v'.term ≡ v.term
  pub acked : v'.acked ≡ v.acked
  pub sent : v'.sent ≡ v.sent
  pub busy : v'.busy ≡ v.busy
  pub batches : v'.batches ≡ v.batches

pub untouched : {n c : List ℕ} {s : Condition} (v : WindowView) → Untouched v (requeue n c s v)
untouched v = record { term = refl; acked = refl; sent = refl; busy = refl; batches = refl }

-- ------------------------------------------------------------------------
-- a longer journal and a later `current` allow no less

module _ {l m c i : ℕ} (longer : l ≤ m) (later : c ≤ i) where
  queued-wider : (q : List ℕ) → all (queued_in l) q ≡ true → all (queued_in m) q ≡ true
  queued-wider =
      all-weaken (queued_in l) (queued_in m)
      (λ x e. and_intro (and_left (leb 1 x) (leb x l) e) (le-leb x m (omega (arith, leb-true x l (and_right (leb 1 x) (leb x l) e)))))

  condition_held-wider : (t : Condition) → condition_held l t ≡ true → condition_held m t ≡ true
  condition_held-wider normal e = refl
  condition_held-wider (fetching n end) e =
      and_intro (le-leb n m (omega (arith, leb-true n l (and_left (leb n l) (leb end l) e))))
      (le-leb end m (omega (arith, leb-true end l (and_right (leb n l) (leb end l) e))))
  condition_held-wider (completed end) e = le-leb end m (omega (arith, leb-true end l e))
  condition_held-wider suspended e = refl

  end_fits-wider : (s : Condition) → end_fits c s ≡ true → end_fits i s ≡ true
  end_fits-wider normal e = refl
  end_fits-wider (fetching n end) e = le-leb end i (omega (arith, leb-true end c e))
  end_fits-wider (completed end) e = le-leb end i (omega (arith, leb-true end c e))
  end_fits-wider suspended e = refl

  pub wider-shaped : {v : WindowView} → WindowShaped l c v → WindowShaped m i v
  wider-shaped {v} s =
      record {
        normal_fits = s.normal_fits;
        catch_fits = s.catch_fits;
        batches_fit = s.batches_fit;
        normal_in = queued-wider v.normal_queue s.normal_in;
        catch_in = queued-wider v.catch_queue s.catch_in;
        acked_in = omega (arith, s.acked_in);
        sent_in = omega (arith, s.sent_in);
        batches_in = all-weaken (held_in l) (held_in m) (λ x e. le-leb x m (omega (arith, leb-true x l e))) v.batches s.batches_in;
        condition_in = condition_held-wider v.condition s.condition_in;
        next = s.next;
        end = end_fits-wider v.condition s.end;
        catch_up = s.catch_up;
        away = s.away;
      }
