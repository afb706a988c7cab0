-- The laws of Join: its refusals, what it does at one window, and the rule.
use Rattle.std.specs.Prelude.{ℕ, ◌+◌, ◌≤◌, ◌<◌, ◌≡◌, refl, List, [], ◌∷◌, Bool, true, false, not, cond, ◌||◌, length, ltb, eqb}
use Rattle.std.proofs.Common.{◌∙◌, arith, ltb-true, ltb-false, lt-ltb, le-ltb, ne_eqb}
use Rattle.std.proofs.lemmas.Bool.{false≢true, not-false}
use Rattle.lists.specs.Cases.{and_left, and_right, or_left, or_right}
use Rattle.lists.specs.Refusal.{◌when◌, first_of}
use Rattle.rules.specs.View.{Condition, normal, fetching, completed, suspended, WindowView, PlayerView}
use Rattle.rules.specs.Shape.{is_empty, suspended_fits, shape}
use Rattle.rules.specs.Window.{is_suspended, joined, join_at}
use Rattle.rules.specs.Rules.{window_at, join_rule}
use Rattle.rules.specs.Refusals.{out_of_shape, no_such_window}
use Rattle.rules.proofs.Answer.{check-answer, operate-answer}
use Rattle.rules.proofs.Checks.{Decides, done-decides, check-decides}
use Rattle.rules.proofs.Shaped.{WindowShaped}
use Rattle.rules.proofs.Parts.{normal_queued, catch_queued, ConditionShaped, normal-shaped, fetching-shaped, here-shaped}
use Rattle.rules.proofs.Operate.{Operated, Lawful, decides-lawful, Effect, LawfulRule, operate-lawful}

-- ------------------------------------------------------------------------
-- the refusals in the papers' order

-- 13: the report is below acknowledged or above sent
abbrev pub bad_report : ℕ → WindowView → Bool
bad_report r v = ltb r v.acked || ltb v.sent r

-- A result to be read: 1; 2; 12: not Suspended; 14: term is 4,294,967,295; 13
pub join_rule-refusals : (ns : List ℕ) (w r : ℕ) (p : PlayerView) →
    let v : WindowView = window_at w p in
    (join_rule ns w r p).answer ≡ first_of
    (1 when out_of_shape ns p
    ∷ 2 when no_such_window w p
    ∷ 12 when not (is_suspended v.condition)
    ∷ 14 when eqb v.term.0 4294967295
    ∷ 13 when bad_report r v
    ∷ [])
unfolding join_rule join_at
join_rule-refusals ns w r p = operate-answer ns w _ p _ (λ s. simp check-answer)

-- ------------------------------------------------------------------------
-- at one window

join_at-decides : (current r : ℕ) (v : WindowView) →
    Decides (not (is_suspended v.condition) ∷ eqb v.term.0 4294967295 ∷ (ltb r v.acked || ltb v.sent r) ∷ []) v
    (joined current r v) (join_at current r v)
unfolding join_at
join_at-decides current r v = check-decides 12 refl (check-decides 14 refl (check-decides 13 refl (done-decides v _)))

-- answered 0: the window was Suspended, and the report was from acknowledged to sent; the term goes up
pub record JoinedOn (current r : ℕ) (v : WindowView) : Type 0 where
  pub away : is_suspended v.condition ≡ true
  pub least : v.acked ≤ r
  pub most : r ≤ v.sent
  pub later : v.term.0 < (join_at current r v).next.term.0
  pub next : (join_at current r v).next ≡ joined current r v

-- the window stays in shape
suspended_fits-catch : (v : WindowView) (t : Condition) → is_suspended t ≡ true → suspended_fits v t ≡ true → is_empty v.catch_queue ≡ true
suspended_fits-catch v normal h e = absurd (false≢true h)
suspended_fits-catch v (fetching n end) h e = absurd (false≢true h)
suspended_fits-catch v (completed end) h e = absurd (false≢true h)
suspended_fits-catch v suspended h e = and_left (is_empty v.catch_queue) _ (and_right (is_empty v.normal_queue) _ e)

joined-shaped : (l c r : ℕ) → c ≤ l → (v : WindowView) → WindowShaped l c v → is_suspended v.condition ≡ true → r ≤ v.sent →
    WindowShaped l c (joined c r v)
joined-shaped l c r most v s away high =
    here-shaped (normal_queued s) (catch_queued s)
    (record { acked_in = omega (arith, s.sent_in); sent_in = omega (arith, s.sent_in); fits = s.batches_fit; within = s.batches_in })
    (go (ltb r c) refl)
  where
    go : (b : Bool) → ltb r c ≡ b → ConditionShaped l c (cond b (fetching (r + 1) c) normal) v.catch_queue
    go true b = fetching-shaped most (omega arith) (omega (arith, ltb-true r c b)) (omega arith)
    go false b = normal-shaped (suspended_fits-catch v v.condition away s.away)

join_at-lawful : (c r : ℕ) (v : WindowView) → Lawful c v (join_at c r v) (JoinedOn c r v) (λ d. joined c r v)
join_at-lawful c r v =
    decides-lawful (join_at-decides c r v)
    (λ (away, (_, (right, _))) next.
    record {
      away = not-false _ away;
      least = ltb-false _ _ (or_left _ _ right);
      most = ltb-false _ _ (or_right (ltb r v.acked) _ right);
      later = rw next (omega arith);
      next = next;
    })
    (λ d l most s. joined-shaped l c r most v s d.away d.most)

-- ------------------------------------------------------------------------
-- the rule

abbrev pub join_effect : ℕ → ℕ → Effect
join_effect current r = record { tells = λ j v. JoinedOn current r v; makes = λ j v d. joined current r v }

pub join_rule-lawful : (ns : List ℕ) (w r : ℕ) (p : PlayerView) → LawfulRule ns w p (join_rule ns w r p) (join_effect p.current r)
unfolding join_rule
join_rule-lawful ns w r p = operate-lawful ns w _ p _ (join_at-lawful _ r _)

pub join_rule-done : (ns : List ℕ) (w r : ℕ) (p : PlayerView) → (join_rule ns w r p).answer ≡ 0 →
    Operated ns w p (join_rule ns w r p) (JoinedOn p.current r (window_at w p))
    (λ c. joined p.current r (window_at w p))
join_rule-done ns w r p = (join_rule-lawful ns w r p).does

-- a Suspended window takes a report from acknowledged to sent, while its term can go up
pub join_rule-can : (ns : List ℕ) (w : ℕ) (p : PlayerView) → shape ns p ≡ true → w < length p.windows →
    (r : ℕ) → is_suspended (window_at w p).condition ≡ true → (window_at w p).term.0 < 4294967295 →
    (window_at w p).acked ≤ r → r ≤ (window_at w p).sent → (join_rule ns w r p).answer ≡ 0
join_rule-can ns w p shaped within r away term least most =
    let v : WindowView = window_at w p in
    let below : eqb v.term.0 4294967295 ≡ false = ne_eqb v.term.0 4294967295 (omega arith) in
    join_rule-refusals ns w r p ∙ simp (shaped, lt-ltb w _ within, away, below, le-ltb r v.acked least, le-ltb v.sent r most)
