-- The laws of Written: its refusals, what it does at one window, and the rule.
use Rattle.std.specs.Prelude.{ℕ, ◌<◌, ◌≡◌, refl, List, [], ◌∷◌, true, false, not, length}
use Rattle.std.proofs.Common.{◌∙◌, lt-ltb}
use Rattle.std.proofs.lemmas.Bool.{not-false}
use Rattle.lists.specs.Refusal.{◌when◌, first_of}
use Rattle.rules.specs.declared.Term.{Term}
use Rattle.rules.specs.View.{WindowView, PlayerView}
use Rattle.rules.specs.Shape.{shape}
use Rattle.rules.specs.Window.{is_suspended, other_term, freed, written_at}
use Rattle.rules.specs.Rules.{window_at, written_rule}
use Rattle.rules.specs.Refusals.{out_of_shape, no_such_window}
use Rattle.rules.proofs.Answer.{check-answer, operate-answer}
use Rattle.rules.proofs.Checks.{Decides, done-decides, check-decides, other_term-same, other_term-own}
use Rattle.rules.proofs.Parts.{normal_queued, catch_queued, lined, condition_shaped, here-shaped}
use Rattle.rules.proofs.Operate.{Lawful, decides-lawful, Effect, LawfulRule, operate-lawful}

-- ------------------------------------------------------------------------
-- the refusals in the papers' order

-- A result to be read: 1; 2; 3; 5; 8: line not busy
pub written_rule-refusals : (ns : List ℕ) (w : ℕ) (t : Term) (p : PlayerView) →
    let v : WindowView = window_at w p in
    (written_rule ns w t p).answer ≡ first_of
    (1 when out_of_shape ns p
    ∷ 2 when no_such_window w p
    ∷ 3 when is_suspended v.condition
    ∷ 5 when other_term t v
    ∷ 8 when not v.busy
    ∷ [])
unfolding written_rule written_at
written_rule-refusals ns w t p = operate-answer ns w _ p _ (λ s. simp check-answer)

-- ------------------------------------------------------------------------
-- at one window

written_at-decides : (t : Term) (v : WindowView) →
    Decides (is_suspended v.condition ∷ other_term t v ∷ not v.busy ∷ []) v (freed v) (written_at t v)
unfolding written_at
written_at-decides t v = check-decides 3 refl (check-decides 5 refl (check-decides 8 refl (done-decides v _)))

-- answered 0: the window was not Suspended, the term was its own, and its line was busy
pub record WrittenOff (t : Term) (v : WindowView) : Type 0 where
  pub here : is_suspended v.condition ≡ false
  pub term : t.0 ≡ v.term.0
  pub was : v.busy ≡ true
  pub next : (written_at t v).next ≡ freed v

written_at-lawful : (c : ℕ) (t : Term) (v : WindowView) → Lawful c v (written_at t v) (WrittenOff t v) (λ d. freed v)
written_at-lawful c t v =
    decides-lawful (written_at-decides t v)
    (λ (here, (term, (free, _))) next. record { here = here; term = other_term-same t v term; was = not-false _ free; next = next })
    (λ d l most s. here-shaped (normal_queued s) (catch_queued s) (lined s) (condition_shaped s d.here))

-- ------------------------------------------------------------------------
-- the rule

abbrev pub written_effect : Term → Effect
written_effect t = record { tells = λ j v. WrittenOff t v; makes = λ j v d. freed v }

pub written_rule-lawful : (ns : List ℕ) (w : ℕ) (t : Term) (p : PlayerView) → LawfulRule ns w p (written_rule ns w t p) (written_effect t)
unfolding written_rule
written_rule-lawful ns w t p = operate-lawful ns w _ p _ (written_at-lawful _ t _)

pub written_rule-can : (ns : List ℕ) (w : ℕ) (p : PlayerView) → shape ns p ≡ true → w < length p.windows →
    is_suspended (window_at w p).condition ≡ false → (window_at w p).busy ≡ true → (written_rule ns w (window_at w p).term p).answer ≡ 0
written_rule-can ns w p shaped within here busy =
    written_rule-refusals ns w _ p ∙ simp (shaped, lt-ltb w _ within, here, other_term-own (window_at w p), busy)
