-- A Catch, a Written or an Ack with a term that its window does not hold is turned away, and changes nothing.
use Rattle.std.specs.Prelude.{ℕ, ◌<◌, ◌≡◌, refl, List, Bool, true, false, not, cond, length, ltb}
use Rattle.std.proofs.Common.{ap, arith, ltb-true, ne_eqb}
use Rattle.std.proofs.lemmas.List.{set-get_or}
use Rattle.journal.specs.Entry.{entries_of}
use Rattle.rules.specs.declared.Term.{Term}
use Rattle.rules.specs.View.{WindowView, PlayerView, no_window}
use Rattle.rules.specs.Shape.{shape}
use Rattle.rules.specs.Window.{Turn, refusal, check, is_suspended, other_term, is_ack, acknowledged, freed, done, catch_in, catch_at, written_at, ack_at}
use Rattle.rules.specs.Rules.{Outcome, refuse, window_at, turn_at, operate, catch_rule, written_rule, ack_rule}
use Rattle.rules.specs.Refusals.{no_such_window, turned_away}

-- a refusal at a window leaves the player as it was
turn_at-refused : (w n : ℕ) (p : PlayerView) → turn_at w (refusal n (window_at w p)) p ≡ refuse n p
turn_at-refused w n p =
    ap (λ vs. record { answer = n; next = record { limit = p.limit; spacing = p.spacing; current = p.current; windows = vs } })
    (set-get_or p.windows w no_window)

-- the number is that of a refusal
pub turned_away-some : (w : ℕ) (p : PlayerView) → turned_away w p ≡ 0 → ⊥
turned_away-some w p = by (no_such_window w p) (is_suspended (window_at w p).condition)
  where
    by : (b s : Bool) → let n : ℕ = cond b 2 (cond s 3 5) in n ≡ 0 → ⊥
    by true s e = omega arith
    by false true e = omega arith
    by false false e = omega arith

module _ (ns : List ℕ) (w : ℕ) (t : Term) (p : PlayerView) (shaped : shape ns p ≡ true)
    (other : w < length p.windows → t.0 ≡ (window_at w p).term.0 → ⊥) where
  abbrev turned : Outcome
  turned = refuse (turned_away w p) p

  -- whatever would be done with the right term
  offer-turned : (rest : WindowView → Turn) →
      operate ns w (λ v. check (is_suspended v.condition) 3 v (check (other_term t v) 5 v (rest v))) p ≡ turned
  unfolding operate check
  offer-turned rest = rw shaped (at (ltb w (length p.windows)) refl)
    where
      v : WindowView
      v = window_at w p

      here : (b : Bool) → w < length p.windows →
          turn_at w (check b 3 v (check (other_term t v) 5 v (rest v))) p ≡ refuse (cond b 3 5) p
      here true within = turn_at-refused w 3 p
      here false within = rw (ne_eqb t.0 v.term.0 (other within)) (turn_at-refused w 5 p)

      at : (b : Bool) → ltb w (length p.windows) ≡ b →
          cond (not b) (refuse 2 p) (turn_at w (check (is_suspended v.condition) 3 v (check (other_term t v) 5 v (rest v))) p)
          ≡ refuse (cond (not b) 2 (cond (is_suspended v.condition) 3 5)) p
      at true e = here (is_suspended v.condition) (ltb-true w (length p.windows) e)
      at false e = refl

  pub catch_rule-turned : (i : ℕ) → catch_rule ns w t i p ≡ turned
  unfolding catch_rule catch_at
  catch_rule-turned i = offer-turned (λ v. catch_in v.condition (entries_of ns) w i v)

  pub written_rule-turned : written_rule ns w t p ≡ turned
  unfolding written_rule written_at
  written_rule-turned = offer-turned (λ v. check (not v.busy) 8 v (done (freed v)))

  pub ack_rule-turned : (i : ℕ) → ack_rule ns w t i p ≡ turned
  unfolding ack_rule ack_at
  ack_rule-turned i = offer-turned (λ v. check (not (is_ack i v)) 11 v (done (acknowledged i v)))
