-- Where no call can change anything that a host holds, no step can change the world that it shows.
use Rattle.std.specs.Prelude.{ℕ, ◌≡◌, refl, true, false}
use Rattle.std.proofs.Common.{sym, subst, ◌∙◌}
use Rattle.std.proofs.Math.Logic.{⊎_elim}
use Rattle.std.proofs.lemmas.Bool.{false≢true}
use Rattle.lists.specs.Cases.{true-or-false}
use Rattle.rules.specs.declared.Term.{Term}
use Rattle.delivery.specs.World.{World, Step, step}
use Rattle.delivery.specs.World as W
use Rattle.delivery.specs.Sorts.{sort_of, is_work}
use Rattle.delivery.specs.Statement as Delivery
use Rattle.delivery.specs.Same.{same_world}
use Rattle.delivery.proofs.Offers.{same_world-itself, Reached}
use Rattle.calls.specs.Host.{Host, is_late}
use Rattle.calls.specs.Statement.{NoneCan}
use Rattle.calls.proofs.Shows.{Shows, shows-late}
use Rattle.calls.proofs.SameHosts.{same_host-world}
use Rattle.calls.proofs.Runs.{follows}
use Rattle.calls.proofs.CallFor.{CallFor, call-main, call-catch, call-written, call-send, call-take, call-ack, call-late}

module _ {h : Host} {wd : World} (is : Shows h wd) (r : Reached wd) (none : NoneCan h) where
  -- a step for which there is a call changes nothing, as the call does not
  quiet : {s : Step} → CallFor h s → is_work (sort_of s) ≡ true → same_world wd (step s wd).world ≡ true
  quiet {s} c work =
      subst (λ s. is_work (sort_of s) ≡ true → same_world wd (step s wd).world ≡ true) c.same
      (λ work. sym (same_host-world is (follows is r c.call c.made).shows) ∙ none c.call work c.made)
      work

  -- an Ack offer of a term that is not older is not made
  quiet-late : (w : ℕ) (t : Term) (i : ℕ) → same_world wd (step (W.late-ack w t i) wd).world ≡ true
  unfolding W.step_by
  quiet-late w t i =
      ⊎_elim
      (λ (late : is_late w t h ≡ true). quiet (call-late h w t i late) refl)
      (λ (soon : is_late w t h ≡ false). rw (sym (shows-late is w t) ∙ soon) (same_world-itself wd))
      (true-or-false (is_late w t h))

  pub none-steps : Delivery.NoneCan wd
  none-steps (W.main i) work = quiet (call-main h i) work
  none-steps (W.catch w t i) work = quiet (call-catch h w t i) work
  none-steps (W.written w t) work = quiet (call-written h w t) work
  none-steps (W.send w lent) work = quiet (call-send h w lent) work
  none-steps (W.take w acks) work = quiet (call-take h w acks) work
  none-steps (W.ack w) work = quiet (call-ack h w) work
  none-steps (W.late-ack w t i) work = quiet-late w t i
  none-steps (W.drop w) work = absurd (false≢true work)
  none-steps (W.join w) work = absurd (false≢true work)
  none-steps (W.start settings) work = absurd (false≢true work)
  none-steps (W.append e) work = absurd (false≢true work)
