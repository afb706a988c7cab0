-- Laws of what is queued: indices with ticks among them, and queues and condition that change.
use Rattle.std.specs.Prelude.{ℕ, zero, suc, ◌-◌, ◌≤◌, ◌<◌, ◌≡◌, List, [], ◌∷◌, ◌++◌, Bool, drop}
use Rattle.std.proofs.Math.Path.{refl, sym, ap, ap₂, subst⁻¹}
use Rattle.std.proofs.Common.{subst, ◌∙◌, append-nil, true≢false}
use Rattle.std.proofs.Math.Logic.{⊎_elim}
use Rattle.std.proofs.Math.Bool.{true, false}
use native.Mathlib.Omega.{arith}
use Rattle.std.proofs.Math.ListN.{length}
use Rattle.journal.specs.declared.Entry.{Entry}
use Rattle.journal.specs.Entry.{is_for}
use Rattle.journal.specs.EntryLaws.{is_for-append}
use Rattle.journal.specs.Due.{due, due-empty, due-more, due-own, due-split, due-rising, due-append}
use Rattle.lists.specs.Cases.{and_intro, true-or-false}
use Rattle.lists.specs.All.{all, all_append, all_more, all_drop}
use Rattle.lists.specs.Elem.{last_or}
use Rattle.lists.specs.Rising.{Rising, rising-append, rising_none, RisingCut, rising-cut, rising-parts}
use Rattle.lists.specs.Keep.{keep, keep_append, keep-alike, all_alike, keep-rising}
use Rattle.rules.specs.View.{Condition}
use Rattle.rules.specs.Shape.{is_empty}
use Rattle.rules.specs.Window.{is_suspended, requeue}
use Rattle.rules.proofs.Offers.{one_if}
use Rattle.delivery.specs.World.{Side, with_view}
use Rattle.delivery.proofs.Invariant.{Holds, NoTick, TickFirst, Queues, QueuesOf, Inv}

-- ------------------------------------------------------------------------
-- is_empty, last_or

pub is_empty-append : (xs ys : List ℕ) → is_empty xs ≡ false → is_empty (xs ++ ys) ≡ false
is_empty-append [] ys e = absurd (true≢false e)
is_empty-append (x ∷ xs) ys e = refl

last_or-some : (a b : ℕ) (xs : List ℕ) → is_empty xs ≡ false → last_or a xs ≡ last_or b xs
last_or-some a b [] e = absurd (true≢false e)
last_or-some a b (x ∷ xs) e = refl

-- ------------------------------------------------------------------------
-- Holds

-- a list that is cut: the first part has what is due up to its last index, the other what is due after it
pub record HoldsCut (j : List Entry) (w a b : ℕ) (xs ys : List ℕ) : Type 0 where
  pub up : a < last_or 0 xs
  pub within : last_or 0 xs ≤ b
  pub before : Holds j w a (last_or 0 xs) xs
  pub after : Holds j w (last_or 0 xs) b ys

-- what rises and is not empty rises above
rising-above : (a b : ℕ) (xs : List ℕ) → is_empty xs ≡ false → Rising a xs b → (a < last_or 0 xs) × (a < b)
rising-above a b [] e r = absurd (true≢false e)
rising-above a b (x ∷ xs) e r =
    let c = rising-cut x b xs [] r.1 (rw append-nil r.2) in
    (omega (arith, r.0, c.above), omega (arith, r.0, r.1))

module _ {j : List Entry} {w : ℕ} where
  pub holds-none : {a b : ℕ} → b ≤ a → Holds j w a b []
  unfolding keep
  holds-none h = record { rises = tt; own = sym (due-empty j w _ _ h) }

  -- another range that is empty too
  pub holds-still : {a b : ℕ} {q : List ℕ} (b' : ℕ) → b ≤ a → b' ≤ a → Holds j w a b q → Holds j w a b' q
  holds-still {a} {b} {q} b' h k is = subst⁻¹ (Holds j w a b') (rising_none a b q h is.rises) (holds-none k)

  -- the same range, written otherwise
  pub holds-to : {a b b' : ℕ} {q : List ℕ} → b ≡ b' → Holds j w a b q → Holds j w a b' q
  holds-to {a} {q = q} e is = subst (λ b. Holds j w a b q) e is

  -- one more index joins the queue, if it is the window's own
  pub holds_more : {a b : ℕ} {q : List ℕ} (t : Bool) → is_for j w (suc b) ≡ t → a ≤ b → Holds j w a b q →
      Holds j w a (suc b) (q ++ one_if t (suc b))
  unfolding keep
  holds_more {a} {b} {q} t e h is = record {
    rises = rising-append a b (suc b) q (one_if t (suc b)) h (omega arith) is.rises (last t);
    own =
        keep_append (is_for j w) q (one_if t (suc b))
        ∙ ap₂ (λ l r. l ++ r) is.own (kept t e ∙ ap (λ t. one_if t (suc b)) (sym e))
        ∙ sym (due-more j w a b h);
  }
    where
      last : (t : Bool) → Rising b (one_if t (suc b)) (suc b)
      last true = (omega arith, omega arith, tt)
      last false = tt

      kept : (t : Bool) → is_for j w (suc b) ≡ t → keep (is_for j w) (one_if t (suc b)) ≡ one_if t (suc b)
      kept true e = rw e
      kept false e = refl

  pub holds-next : {a : ℕ} {q : List ℕ} (i : ℕ) (t : Bool) → is_for j w i ≡ t → a < i → Holds j w a (i - 1) q →
      Holds j w a i (q ++ one_if t i)
  holds-next zero t e h is = absurd (omega arith)
  holds-next (suc i) t e h is = holds_more t e (omega arith) (holds-to (omega arith) is)

  -- where nothing is held, the last index is not the window's own
  pub holds-none-last : {a b : ℕ} → a < b → Holds j w a b [] → is_for j w b ≡ false
  unfolding keep
  holds-none-last {a} {b} h is =
      ⊎_elim (λ (own : is_for j w b ≡ true). absurd (omega (arith, ap length is.own, due-own j w a b h own)))
      (λ (other : is_for j w b ≡ false). other)
      (true-or-false (is_for j w b))

  -- a tick where nothing is due
  pub holds-tick : {a b : ℕ} → a < b → is_for j w b ≡ false → Holds j w a b [] → Holds j w a b (b ∷ [])
  unfolding keep
  holds-tick h other is = record { rises = (h, omega arith, tt); own = rw other is.own }

  -- two lists, one after the other
  pub holds-append : {a m b : ℕ} {q n : List ℕ} → a ≤ m → m ≤ b → Holds j w a m q → Holds j w m b n → Holds j w a b (q ++ n)
  holds-append {a} {m} {b} {q} {n} h k is is' = record {
    rises = rising-append a m b q n h k is.rises is'.rises;
    own = keep_append (is_for j w) q n ∙ ap₂ (λ l r. l ++ r) is.own is'.own ∙ sym (due-split j w a m b h k);
  }

  pub holds-cut : {a b : ℕ} (xs : List ℕ) {ys : List ℕ} → is_empty xs ≡ false → Holds j w a b (xs ++ ys) → HoldsCut j w a b xs ys
  holds-cut {a} {b} xs {ys} some is =
      let e : last_or a xs ≡ last_or 0 xs = last_or-some a 0 xs some in
      let m : ℕ = last_or 0 xs in
      let high : a < b = (rising-above a b (xs ++ ys) (is_empty-append xs ys some) is.rises).1 in
      let cut : RisingCut a b xs ys = rising-cut a b xs ys (omega arith) is.rises in
      let before : Rising a xs m = rw e at cut.before in
      let after : Rising m ys b = rw e at cut.after in
      let up : a < m = (rising-above a m xs some before).0 in
      let within : m ≤ b = rw e at cut.within in
      let parts = rising-parts a m b (keep (is_for j w) xs) (keep (is_for j w) ys) (due j w a m) (due j w m b)
      (keep-rising (is_for j w) a m xs before) (keep-rising (is_for j w) m b ys after) (due-rising j w a m) (due-rising j w m b)
      (sym (keep_append (is_for j w) xs ys) ∙ is.own ∙ due-split j w a m b (omega arith) within) in
      record {
        up = up;
        within = within;
        before = record { rises = before; own = parts.0 };
        after = record { rises = after; own = parts.1 };
      }

  -- the journal goes on
  pub holds-journal : {a b : ℕ} {q : List ℕ} (e : Entry) → b ≤ length j → Holds j w a b q → Holds (j ++ (e ∷ [])) w a b q
  holds-journal {a} {b} {q} e h is = record {
    rises = is.rises;
    own =
        keep-alike (is_for (j ++ (e ∷ [])) w) (is_for j w) a b q is.rises (λ x k. is_for-append j e w x (omega arith))
        ∙ is.own
        ∙ sym (due-append j e w a b h);
  }

-- ------------------------------------------------------------------------
-- NoTick, TickFirst

module _ {j : List Entry} {w : ℕ} where
  pub plain-none : NoTick j w []
  unfolding all
  plain-none = record { own = refl }

  pub first-none : TickFirst j w []
  unfolding all
  first-none = record { own = refl }

  -- a tick alone
  pub first_alone : {i : ℕ} → TickFirst j w (i ∷ [])
  unfolding all
  first_alone = record { own = refl }

  -- one of the window's own joins, or nothing
  pub plain_more : {q : List ℕ} (i : ℕ) (t : Bool) → (t ≡ true → is_for j w i ≡ true) → NoTick j w q → NoTick j w (q ++ one_if t i)
  plain_more {q} i true own none = record { own = all_more (is_for j w) q i none.own (own refl) }
  plain_more {q} i false own none = record { own = rw append-nil none.own }

  pub first_more : {q : List ℕ} (i : ℕ) (t : Bool) → (t ≡ true → is_for j w i ≡ true) → TickFirst j w q → TickFirst j w (q ++ one_if t i)
  first_more {q} i t own first = record { own = by q t own first.own }
    where
      by : (q : List ℕ) (t : Bool) → (t ≡ true → is_for j w i ≡ true) → all (is_for j w) (drop 1 q) ≡ true →
          all (is_for j w) (drop 1 (q ++ one_if t i)) ≡ true
      by [] true own h = plain-none.own
      by [] false own h = plain-none.own
      by (x ∷ q) t own h = (plain_more i t own (record { own = h })).own

  -- some leave in front
  pub plain-drop : {q : List ℕ} (k : ℕ) → NoTick j w q → NoTick j w (drop k q)
  plain-drop {q} k none = record { own = all_drop (is_for j w) k q none.own }

  pub first-drop : {q : List ℕ} (k : ℕ) → TickFirst j w q → TickFirst j w (drop k q)
  first-drop {q} k first = record { own = by q k first.own }
    where
      by : (q : List ℕ) (k : ℕ) → all (is_for j w) (drop 1 q) ≡ true → all (is_for j w) (drop 1 (drop k q)) ≡ true
      by q zero h = h
      by [] (suc k) h = h
      by (x ∷ q) (suc k) h = all_drop (is_for j w) 1 (drop k q) (all_drop (is_for j w) k q h)

  pub plain-first : {q : List ℕ} → NoTick j w q → TickFirst j w q
  plain-first {q} none = record { own = all_drop (is_for j w) 1 q none.own }

  -- a list without one comes after
  pub first-append : {q n : List ℕ} → TickFirst j w q → NoTick j w n → TickFirst j w (q ++ n)
  first-append {q} {n} first none = by q first
    where
      by : (q : List ℕ) → TickFirst j w q → TickFirst j w (q ++ n)
      by [] first = plain-first none
      by (x ∷ q) first = record { own = all_append (is_for j w) q n ∙ and_intro first.own none.own }

-- the journal goes on
module _ (j : List Entry) (w : ℕ) where
  plain-rising : (q : List ℕ) (a b : ℕ) (e : Entry) → b ≤ length j → Rising a q b → all (is_for (j ++ (e ∷ [])) w) q ≡ all (is_for j w) q
  plain-rising q a b e h r = all_alike (is_for (j ++ (e ∷ [])) w) (is_for j w) a b q r (λ x k. is_for-append j e w x (omega arith))

module _ {j : List Entry} {w : ℕ} where
  pub plain-journal : {a b : ℕ} {q : List ℕ} (e : Entry) → b ≤ length j → Holds j w a b q → NoTick j w q → NoTick (j ++ (e ∷ [])) w q
  plain-journal {a} {b} {q} e h is none = record { own = plain-rising j w q a b e h is.rises ∙ none.own }

  pub first-journal : {a b : ℕ} {q : List ℕ} (e : Entry) → b ≤ length j → Holds j w a b q → TickFirst j w q → TickFirst (j ++ (e ∷ [])) w q
  first-journal {a} {b} {q} e h is first = record { own = by q is.rises first.own }
    where
      by : (q : List ℕ) → Rising a q b → all (is_for j w) (drop 1 q) ≡ true → all (is_for (j ++ (e ∷ [])) w) (drop 1 q) ≡ true
      by [] r k = plain-none.own
      by (x ∷ q) r k = plain-rising j w q x b e h r.2 ∙ k

-- ------------------------------------------------------------------------
-- a side with other queues and another condition

abbrev pub with_queues : List ℕ → List ℕ → Condition → Side → Side
with_queues n q s p = with_view (requeue n q s p.view) p

-- a side whose condition is known
pub with_queues-same : (p : Side) (s : Condition) → p.view.condition ≡ s → p ≡ with_queues p.view.normal_queue p.view.catch_queue s p
with_queues-same p s e = ap (λ s. with_queues p.view.normal_queue p.view.catch_queue s p) e

pub queues-in : {j : List Entry} {c w : ℕ} {p : Side} → Inv j c w p → (s : Condition) → p.view.condition ≡ s → QueuesOf j c w p.view s
queues-in inv s e = rw e at inv.queues

-- the other parts stay, unless the window becomes Suspended or was
pub keep-requeue : {j : List Entry} {c c' w : ℕ} {p : Side} (n q : List ℕ) (s : Condition) → Inv j c w p →
    is_suspended p.view.condition ≡ is_suspended s → Queues j c' w p.view.acked p.view.sent n q s →
    Inv j c' w (with_queues n q s p)
keep-requeue {p = p} n q s inv e queues = record {
  taken = inv.taken;
  flight = rw e at inv.flight;
  unacked = rw e at inv.unacked;
  queues = queues;
  busy_sent = inv.busy_sent;
}
