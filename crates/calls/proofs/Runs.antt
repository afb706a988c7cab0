-- A list of calls is a list of steps of the world that its host shows: the host shows that world to the end, and the counts of changes and
-- the joined windows agree.
use Rattle.std.specs.Prelude.{ℕ, suc, ◌≡◌, refl, List, [], ◌∷◌, map, Bool, cond}
use Rattle.std.proofs.Common.{sym, ap, ap₂, ◌∙◌}
use Rattle.delivery.specs.World.{World, step, run, run_by}
use Rattle.delivery.specs.Sorts.{begins, joined_by}
use Rattle.delivery.specs.Statement as Delivery
use Rattle.delivery.specs.Same.{same_world}
use Rattle.delivery.proofs.Offers.{Reached, reached-step}
use Rattle.calls.specs.Host.{Host, Call, main, catch, written, send, take, ack, late-ack, drop, join, start, append, call_step, call_sort, done_in, Made, after, MadeAll, host_after}
use Rattle.calls.specs.Statement.{same_host, changes, joined_after}
use Rattle.calls.proofs.Shows.{Shows}
use Rattle.calls.proofs.Steps.{Follows, follows-main, follows-catch, follows-written, follows-late, follows-drop, follows-append}
use Rattle.calls.proofs.StepsLine.{follows-send, follows-take, follows-ack, follows-join, follows-start}
use Rattle.calls.proofs.SameHosts.{same_host-world}

-- ------------------------------------------------------------------------
-- One call

pub follows : {h : Host} {wd : World} → Shows h wd → Reached wd → (c : Call) → Made h c → Follows c h wd
follows is r (main i g) made = follows-main is i g made
follows is r (catch w t i g) made = follows-catch is w t i g made
follows is r (written w t g) made = follows-written is w t g made
follows is r (send w lent g out) made = follows-send is r w lent g out made
follows is r (take w acks t) made = follows-take is w acks t made
follows is r (ack w g) made = follows-ack is w g made
follows is r (late-ack w t i g) made = follows-late is w t i g made
follows is r (drop w g) made = follows-drop is w g made
follows is r (join w g) made = follows-join is w g made
follows is r (start settings g) made = follows-start is settings g made
follows is r (append e) made = follows-append is e made

-- A result to be read: whether a call changes anything does not depend on which of the results that meet its promise it gives.
pub results-alike : {h : Host} {wd : World} → Shows h wd → Reached wd → (c c' : Call) → call_step c ≡ call_step c' → Made h c → Made h c' →
    same_host h (after c h) ≡ same_host h (after c' h)
results-alike {wd = wd} is r c c' e made made' =
    same_host-world is (follows is r c made).shows
    ∙ ap (λ s. same_world wd (step s wd).world) e
    ∙ sym (same_host-world is (follows is r c' made').shows)

-- ------------------------------------------------------------------------
-- A list of calls

pub host_after-shows : {h : Host} {wd : World} → Shows h wd → Reached wd → (cs : List Call) → MadeAll h cs →
    Shows (host_after h cs) (run wd (map call_step cs))
unfolding host_after run_by
host_after-shows is r [] made = is
host_after-shows {h = h} {wd = wd} is r (c ∷ cs) (first, rest) =
    host_after-shows {h = after c h} (follows is r c first).shows (reached-step wd (call_step c) r) cs rest

pub changes-steps : (n : ℕ) {h : Host} {wd : World} → Shows h wd → Reached wd → (cs : List Call) → MadeAll h cs →
    changes n h cs ≡ Delivery.changes n wd (map call_step cs)
unfolding changes Delivery.changes_by
changes-steps n is r [] made = refl
changes-steps n {h} {wd} is r (c ∷ cs) (first, rest) =
    let f = follows is r c first in
    let so_far : ℕ = cond (begins (call_sort c) (done_in h c)) 0 (cond (same_host h (after c h)) n (suc n)) in
    changes-steps so_far f.shows (reached-step wd (call_step c) r) cs rest
    ∙ ap (λ m. Delivery.changes m (step (call_step c) wd).world (map call_step cs))
    (ap₂ (λ d b. cond (begins (call_sort c) d) 0 (cond b n (suc n))) (sym f.done) (same_host-world is f.shows))

pub joined_after-steps : (w : ℕ) (b : Bool) {h : Host} {wd : World} → Shows h wd → Reached wd → (cs : List Call) → MadeAll h cs →
    joined_after w b h cs ≡ Delivery.joined_after w b wd (map call_step cs)
unfolding joined_after Delivery.joined_after_by
joined_after-steps w b is r [] made = refl
joined_after-steps w b {h} {wd} is r (c ∷ cs) (first, rest) =
    let f = follows is r c first in
    joined_after-steps w (joined_by w (call_sort c) (done_in h c) b) f.shows (reached-step wd (call_step c) r) cs rest
    ∙ ap (λ d. Delivery.joined_after w d (step (call_step c) wd).world (map call_step cs))
    (ap (λ d. joined_by w (call_sort c) d b) (sym f.done))
