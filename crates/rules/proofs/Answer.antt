-- What a rule answers, check by check. The law of each operation stands first in its own file, to be read beside its paragraph of
-- document 01.
use Rattle.std.specs.Prelude.{ℕ, ◌≡◌, refl, List, Bool, true, false, not, cond}
use Rattle.std.proofs.Common.{ap}
use Rattle.lists.specs.Cases.{cond-ap}
use Rattle.rules.specs.View.{WindowView, PlayerView}
use Rattle.rules.specs.Shape.{shape}
use Rattle.rules.specs.Window.{Turn, check}
use Rattle.rules.specs.Rules.{Outcome, window_at, operate}
use Rattle.rules.specs.Refusals.{out_of_shape, no_such_window}

pub check-answer : (b : Bool) (n : ℕ) (v : WindowView) (t : Turn) → (check b n v t).answer ≡ cond b n t.answer
unfolding check
check-answer true n v t = refl
check-answer false n v t = refl

-- in shape, the window's rule decides
pub operate-answer : (ns : List ℕ) (w : ℕ) (f : WindowView → Turn) (p : PlayerView) (a : ℕ) →
    (shape ns p ≡ true → (f (window_at w p)).answer ≡ a) →
    (operate ns w f p).answer ≡ cond (out_of_shape ns p) 1 (cond (no_such_window w p) 2 a)
unfolding operate
operate-answer ns w f p a h = simp (cond-ap (λ (o : Outcome). o.answer)) (go (shape ns p) refl)
  where
    go : (s : Bool) → shape ns p ≡ s →
        cond (not s) 1 (cond (no_such_window w p) 2 (f (window_at w p)).answer) ≡ cond (not s) 1 (cond (no_such_window w p) 2 a)
    go true e = ap (λ n. cond (no_such_window w p) 2 n) (h e)
    go false e = refl
