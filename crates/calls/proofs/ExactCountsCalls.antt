-- W4's counts hold of the calls: a call is counted as its step is, and the host that a fault or an append left shows the world left.
use Rattle.std.specs.Prelude.{ℕ, suc, ◌≡◌, Bool, true, false, ◌&&◌}
use Rattle.std.proofs.Math.Path.{refl, ap}
use Rattle.std.proofs.Common.{sym, ap₂, ◌∙◌, arith}
use mathlib.Core.List.{List, [], ◌∷◌, map}
use Rattle.std.proofs.Math.Bool.{cond}
use Rattle.journal.specs.Entry.{entries_of}
use Rattle.player.specs.View.{player_of}
use Rattle.planner.specs.Plan.{figures, planned, plan_rule}
use Rattle.delivery.specs.World.{World, side_at, Step, step, run}
use Rattle.delivery.specs.World as W
use Rattle.delivery.specs.Sorts.{begins, is_take_at}
use Rattle.delivery.specs.Counts as Counting
use Rattle.delivery.proofs.Offers.{Reached, reached-step, opened-reached, exact-counts}
use Rattle.calls.specs.Host.{Host, Call, call_step, call_sort, report_of, done_in, after, MadeAll, host_after}
use Rattle.calls.specs.Counts.{own_front, takes_own, reads, done_since, left_by, last_at, limit_in, figures_for, Counts, ExactCountsCalls}
use Rattle.calls.proofs.Shows.{in_numbers, Shows, shows-end}
use Rattle.calls.proofs.Runs.{follows, host_after-shows}
use Rattle.calls.proofs.Demand3Calls.{entries-shown, length-shown, joined-shown, none-shown, opened-shows, first_done}

-- ------------------------------------------------------------------------
-- A call is of the kind that its step is of

-- kinds of calls and of steps that agree wherever a host shows a world
abbrev Agree : (Host → Call → Bool) → (World → Step → Bool) → Type 0
Agree kind kind_in = (h : Host) (wd : World) → Shows h wd → (c : Call) → kind h c ≡ kind_in wd (call_step c)

front-own : (w : ℕ) (l : List W.Sent) → own_front w (map in_numbers l) ≡ Counting.own_front w l
front-own w [] = refl
front-own w (s ∷ rest) = refl

takes-agree : (w : ℕ) → Agree (takes_own w) (Counting.takes_own w)
takes-agree w h wd is c =
    ap (λ b. is_take_at w (call_sort c) && b) (ap (λ d. own_front w d.line) (shows-end is w) ∙ front-own w (side_at w wd).line)

reads-agree : Agree reads Counting.reads
reads-agree h wd is c = refl

-- ------------------------------------------------------------------------
-- A list of calls

module _ (kind : Host → Call → Bool) (kind_in : World → Step → Bool) (agree : Agree kind kind_in) where
  done_since-steps : (n : ℕ) {h : Host} {wd : World} → Shows h wd → Reached wd → (cs : List Call) → MadeAll h cs →
      done_since kind n h cs ≡ Counting.done_since kind_in n wd (map call_step cs)
  unfolding done_since Counting.done_since
  done_since-steps n is r [] made = refl
  done_since-steps n {h} {wd} is r (c ∷ cs) (first, rest) =
      let f = follows is r c first in
      let so_far : ℕ = cond (begins (call_sort c) (done_in h c)) 0 (cond (kind h c && done_in h c) (suc n) n) in
      done_since-steps so_far f.shows (reached-step wd (call_step c) r) cs rest
      ∙ ap (λ m. Counting.done_since kind_in m (step (call_step c) wd).world (map call_step cs))
      (ap₂ (λ d k. cond (begins (call_sort c) d) 0 (cond (k && d) (suc n) n)) (sym f.done) (agree h wd is c))

left_by-shows : {g h : Host} {given wd : World} → Shows g given → Shows h wd → Reached wd → (cs : List Call) → MadeAll h cs →
    Shows (left_by g h cs) (Counting.left_by given wd (map call_step cs))
unfolding left_by Counting.left_by
left_by-shows left is r [] made = left
left_by-shows {g} {h} {given} {wd} left is r (c ∷ cs) (first, rest) =
    let f = follows is r c first in
    let begun : Bool = begins (call_sort c) (done_in h c) in
    left_by-shows {g = cond begun (after c h) g} (rw f.done (by begun f.shows)) f.shows (reached-step wd (call_step c) r) cs rest
  where
    by : (b : Bool) → Shows (after c h) (step (call_step c) wd).world →
        Shows (cond b (after c h) g) (cond b (step (call_step c) wd).world given)
    by true shows = shows
    by false shows = left

-- ------------------------------------------------------------------------
-- The counts

module _ (count silent : ℕ) {h : Host} {wd : World} (is : Shows h wd) (reached : Reached wd) (calls : List Call)
    (made : MadeAll h calls) where
  abbrev steps : List Step
  steps = map call_step calls

  left-shown : Shows (left_by h h calls) (Counting.left_by wd wd steps)
  left-shown = left_by-shows is is reached calls made

  now-shown : Shows (host_after h calls) (run wd steps)
  now-shown = host_after-shows is reached calls made

  last-shown : (w : ℕ) → last_at w (left_by h h calls) ≡ Counting.last_at w (Counting.left_by wd wd steps)
  last-shown w = ap report_of (shows-end left-shown w)

  limit-shown : limit_in (host_after h calls) ≡ (run wd steps).limit
  limit-shown = ap (λ p. p.limit) now-shown.player

  figures-shown : (w : ℕ) →
      figures_for w (left_by h h calls) (host_after h calls) ≡ Counting.figures_for w (Counting.left_by wd wd steps) (run wd steps)
  figures-shown w = λ i. figures (entries-shown now-shown i) w (last-shown w i) (limit-shown i)

  read-shown : (player_of (left_by h h calls).player).current ≡ (Counting.left_by wd wd steps).current
  read-shown = ap (λ p. p.current) left-shown.player

  counts-shown : Counting.Counts count silent wd steps → Counts count silent h calls
  counts-shown d = record {
    asked = λ w l.
        (λ i. plan_rule (now-shown.journal i) w (last-shown w i) (limit-shown i)) ∙ d.asked w l ∙ ap planned (sym (figures-shown w));
    takes = λ joined none w l.
        let takes = d.takes (joined-shown count is reached calls made silent joined) (none-shown count is reached calls made none) w l in
        let same = done_since-steps (takes_own w) (Counting.takes_own w) (takes-agree w) 0 is reached calls made in
        omega (arith, ap (λ f. f.entries) (figures-shown w));
    mains = λ joined none.
        let mains = d.mains (joined-shown count is reached calls made silent joined) (none-shown count is reached calls made none) in
        let same = done_since-steps reads Counting.reads reads-agree 0 is reached calls made in
        omega (arith, read-shown, length-shown now-shown);
  }

-- Document 02's counts of the calls, for every W, batch limit, spacing, first term, set of silent windows, journal and list of calls
pub exact-counts-calls : ExactCountsCalls
exact-counts-calls before ns count settings r made done calls all =
    let begun = first_done before ns count settings r made done in
    counts-shown count settings.silent (opened-shows before ns count settings r made done)
    (opened-reached (player_of before) (entries_of ns) count settings begun) calls all
    (exact-counts (player_of before) (entries_of ns) count settings (map call_step calls) begun)
