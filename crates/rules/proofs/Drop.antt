-- The laws of Drop: its refusals, what it does at one window, and the rule.
use Rattle.std.specs.Prelude.{ℕ, ◌≡◌, refl, List, [], ◌∷◌, false}
use Rattle.lists.specs.Refusal.{◌when◌, first_of}
use Rattle.rules.specs.View.{WindowView, PlayerView}
use Rattle.rules.specs.Window.{is_suspended, dropped, drop_at}
use Rattle.rules.specs.Rules.{drop_rule, window_at}
use Rattle.rules.specs.Refusals.{out_of_shape, no_such_window}
use Rattle.rules.proofs.Answer.{check-answer, operate-answer}
use Rattle.rules.proofs.Checks.{Decides, done-decides, check-decides}
use Rattle.rules.proofs.Parts.{away-shaped}
use Rattle.rules.proofs.Operate.{Lawful, decides-lawful, Effect, LawfulRule, operate-lawful}

-- ------------------------------------------------------------------------
-- the refusals in the papers' order

-- A result to be read: 1; 2; 3
pub drop_rule-refusals : (ns : List ℕ) (w : ℕ) (p : PlayerView) →
    (drop_rule ns w p).answer ≡ first_of
    (1 when out_of_shape ns p
    ∷ 2 when no_such_window w p
    ∷ 3 when is_suspended (window_at w p).condition
    ∷ [])
unfolding drop_rule drop_at
drop_rule-refusals ns w p = operate-answer ns w _ p _ (λ s. simp check-answer)

-- ------------------------------------------------------------------------
-- at one window

drop_at-decides : (v : WindowView) → Decides (is_suspended v.condition ∷ []) v (dropped v) (drop_at v)
unfolding drop_at
drop_at-decides v = check-decides 3 refl (done-decides v _)

-- answered 0: the window was not Suspended
pub record DroppedOff (v : WindowView) : Type 0 where
  pub here : is_suspended v.condition ≡ false
  pub next : (drop_at v).next ≡ dropped v

drop_at-lawful : (c : ℕ) (v : WindowView) → Lawful c v (drop_at v) (DroppedOff v) (λ d. dropped v)
drop_at-lawful c v =
    decides-lawful (drop_at-decides v) (λ (here, _) next. record { here = here; next = next })
    (λ d l most s. away-shaped v s.acked_in s.sent_in)

-- ------------------------------------------------------------------------
-- the rule

abbrev pub drop_effect : Effect
drop_effect = record { tells = λ j v. DroppedOff v; makes = λ j v d. dropped v }

pub drop_rule-lawful : (ns : List ℕ) (w : ℕ) (p : PlayerView) → LawfulRule ns w p (drop_rule ns w p) drop_effect
unfolding drop_rule
drop_rule-lawful ns w p = operate-lawful ns w _ p _ (drop_at-lawful _ _)
