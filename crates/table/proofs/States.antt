-- What a row of the proved table needs of the player or the record that it speaks of.
use Rattle.std.specs.Prelude.{ℕ, suc, ◌+◌, ◌-◌, ◌≤◌, ◌<◌, ◌≡◌, refl, List, [], ◌∷◌, true, false, length, ltb}
use Rattle.std.proofs.Math.Path.{ap}
use Rattle.std.proofs.Common.{subst, ◌∙◌, arith, lt-ltb, length-take}
use Rattle.std.proofs.Math.Nat.{min-eq_left}
use Rattle.lists.specs.Cases.{and_intro}
use Rattle.lists.specs.All.{between-bounds}
use Rattle.journal.specs.Entry.{Placed, entry4, is_off, entries_of}
use Rattle.journal.specs.EntryLaws.{entries_of-length, is_for-within}
use Rattle.record.specs.declared.Record.{Record}
use Rattle.record.specs.Record.{take_entry, take_numbers, take_all, may_stamp}
use Rattle.record.proofs.Races.{race_at, ClosedAs}
use Rattle.record.proofs.Laws.{take_entry-answers, take_entry-close, take_entry-closed, take_entry-post, take_entry-post-closed, take_numbers-placed, take_all-count, may_stamp-open, may_stamp-closed}
use Rattle.rules.specs.View.{WindowView, PlayerView}
use Rattle.rules.specs.Window.{is_suspended, wanted, read_at, batch_of}
use Rattle.rules.specs.Rules.{window_at, main_rule, send_rule, batch_at}
use Rattle.rules.proofs.Offers.{shaped, batches-here, window_at-within, tick_at-cases, main_at-both, ticked-same, main_next-at, main_rule-done, main_rule-can, is_empty-drop, ready_of, ready_of-here, TakesReady, batch_of-ready, send_rule-can}
use Rattle.table.specs.States.{OneMore, EightOut, MoreReady, CanTake, OpenUntil, StillClosed}

-- ------------------------------------------------------------------------
-- (c), (d): window w is Normal with n queued, and the main stream's next entry is for it and above its acknowledged index

module _ {ns : List ℕ} {p : PlayerView} {w n : ℕ} (q : OneMore ns p w n) where
  pub one_more-wanted : wanted (entries_of ns) w (p.current + 1) (window_at w p) ≡ true
  one_more-wanted = and_intro q.own (lt-ltb _ _ q.above)

  one_more-answer : (main_rule ns (p.current + 1) p).answer ≡ 0
  one_more-answer = main_rule-can ns p q.shaped (omega (arith, is_for-within (entries_of ns) w _ q.own, entries_of-length ns))

  -- where something is queued there is no tick, and the window is as the entry leaves it
  pub one_more-window : 1 ≤ n →
      window_at w (main_rule ns (p.current + 1) p).next ≡ read_at (entries_of ns) w (p.current + 1) (window_at w p)
  one_more-window some =
      let i : ℕ = p.current + 1 in
      let read : WindowView = read_at (entries_of ns) w i (window_at w p) in
      ap (window_at w) (main_rule-done ns _ p one_more-answer).next
      ∙ main_next-at ns _ p w
      ∙ main_at-both (entries_of ns) w p.spacing i (window_at w p)
      ∙ tick_at-cases p.spacing i read (λ v. v ≡ read) refl
      (λ t.
      let same = ticked-same (entries_of ns) w p.spacing i (window_at w p) t in
      absurd (omega (arith, q.queued, ap (λ v. length v.normal_queue) same, ap length t.normal_queue)))

-- ------------------------------------------------------------------------
-- (e): eight batches of window w are out, and its line is free

-- then there is such a window, and it is not Suspended
module _ {ns : List ℕ} {p : PlayerView} {w : ℕ} (q : EightOut ns p w) where
  pub eight_out-within : w < length p.windows
  eight_out-within = window_at-within w p (λ e. omega (arith, ap (λ v. length v.batches) e, q.out))

  pub eight_out-here : is_suspended (window_at w p).condition ≡ false
  eight_out-here = batches-here ((shaped ns p q.shaped).windows w eight_out-within) (omega (arith, q.out))

-- ------------------------------------------------------------------------
-- (f): the limit is 32 and at least 33 are ready at window w; its line is free, fewer than eight batches are out, and the output has room

module _ {ns : List ℕ} {p : PlayerView} {w size : ℕ} (q : MoreReady ns p w size) where
  more_ready-within : w < length p.windows
  more_ready-within = window_at-within w p (λ e. omega (arith, ap (λ v. length (ready_of v)) e, q.ready))

  pub more_ready-taken : TakesReady 32 (ready_of (window_at w p)) (batch_of p.limit (window_at w p))
  more_ready-taken =
      subst (λ k. TakesReady k (ready_of (window_at w p)) (batch_of p.limit (window_at w p))) q.limit
      (batch_of-ready p.limit (window_at w p) ((shaped ns p q.shaped).windows w more_ready-within).catch_up)

  pub more_ready-length : length (batch_at w p) ≡ 32
  more_ready-length =
      ap length more_ready-taken.first ∙ length-take 32 (ready_of (window_at w p)) ∙ min-eq_left (omega (arith, q.ready))

  pub more_ready-answer : (send_rule ns w size p).answer ≡ 0
  more_ready-answer =
      send_rule-can ns w p q.shaped more_ready-within size (ready_of-here (window_at w p) (omega (arith, q.ready))) q.free q.few
      (omega (arith, q.limit, q.room)) (is_empty-drop 0 (batch_at w p) (omega (arith, more_ready-length)))

-- ------------------------------------------------------------------------
-- (h), (j): the record has room for n entries more, and the race is one of 1 to 12

-- where a race is open until an off second, a second is stamped if it is below that
pub open_until-stamps : {r : Record} {race off : ℕ} → OpenUntil r race off → (second : ℕ) → may_stamp r race second ≡ ltb second off
open_until-stamps {r} {race} q second = may_stamp-open r race second q.named q.still ∙ ap (ltb second) q.second

-- an entry as its five numbers, lent to a record whose count is not at its end
abbrev five : ℕ → ℕ → ℕ → ℕ → ℕ → Placed
five index set kind race value = record { index = index; entry = entry4 set kind race value }

module _ (r : Record) (below : r.count < 4294967295) (index set kind race value : ℕ) where
  pub lent-answer : (take_numbers (index ∷ set ∷ kind ∷ race ∷ value ∷ []) r).number ≡ 0
  lent-answer =
      let p : Placed = five index set kind race value in
      ap (λ o. o.number) (take_numbers-placed p r ∙ take_entry-answers p r below)

  pub lent-count : (take_numbers (index ∷ set ∷ kind ∷ race ∷ value ∷ []) r).record'.count ≡ r.count + 1
  unfolding take_all
  lent-count =
      let p : Placed = five index set kind race value in
      ap (λ o. o.record'.count) (take_numbers-placed p r) ∙ take_all-count (p ∷ []) r (omega arith)

module _ {r : Record} {race n : ℕ} (q : CanTake r race (suc n)) where
  pub can_take-below : r.count < 4294967295
  can_take-below = omega (arith, q.room)

  can_take-there : race ≤ length r.races
  can_take-there = omega (arith, q.races, (between-bounds 1 12 race q.named).1)

  -- a POST of 1 to 86,399 gives an open race that off second
  pub can_take-post : (index set off : ℕ) → is_off off ≡ true → (race_at r (race - 1)).closed ≡ false →
      OpenUntil (take_numbers (index ∷ set ∷ 1 ∷ race ∷ off ∷ []) r).record' race off
  can_take-post index set off fits opened =
      let p : Placed = five index set 1 race off in
      let e = ap (λ o. race_at o.record' (race - 1)) (take_numbers-placed p r)
      ∙ take_entry-post p r can_take-below q.named can_take-there refl fits opened in
      record { named = q.named; still = ap (λ x. x.closed) e; second = ap (λ x. x.off) e }

  -- a CLOSE closes the race, which keeps its off second
  pub can_take-close : (index set value : ℕ) →
      ClosedAs (race_at r (race - 1)) (race_at (take_numbers (index ∷ set ∷ 3 ∷ race ∷ value ∷ []) r).record' (race - 1))
  can_take-close index set value =
      let p : Placed = five index set 3 race value in
      let e = ap (λ o. race_at o.record' (race - 1)) (take_numbers-placed p r)
      ∙ take_entry-close p r can_take-below q.named can_take-there refl in
      record { closed = ap (λ x. x.closed) e; off = ap (λ x. x.off) e }

-- ------------------------------------------------------------------------
-- (j): after a POST a race is closed, if it was closed before; no second is stamped, and no race changes

pub closed-post : (r : Record) (index set race value : ℕ) → (race_at r (race - 1)).closed ≡ true →
    let after : Record = (take_numbers (index ∷ set ∷ 1 ∷ race ∷ value ∷ []) r).record' in
    StillClosed race r after × (after.races ≡ r.races)
closed-post r index set race value closed =
    let p : Placed = five index set 1 race value in
    let r' : Record = (take_entry p r).record' in
    let kept = take_entry-closed p r (race - 1) closed in
    rw (take_numbers-placed p r) (
      record { kept = kept; none = λ second. may_stamp-closed r' race second kept.closed },
      take_entry-post-closed p r refl closed,
    )
