-- A check in a window's rule: where it stops the rule and where the rule goes on, and what checks in a row decide.
use Rattle.std.specs.Prelude.{ℕ, ◌≡◌, refl, List, [], ◌∷◌, Bool, true, false, eqb}
use Rattle.std.proofs.Common.{ap, true≢false, eqb-true, eq-eqb}
use Rattle.std.proofs.lemmas.Bool.{eqb-false, not-false}
use Rattle.rules.specs.declared.Term.{Term}
use Rattle.rules.specs.View.{WindowView}
use Rattle.rules.specs.Window.{Turn, done, refusal, check, other_term}

-- ------------------------------------------------------------------------
-- one check

pub check-yes : (b : Bool) (n : ℕ) (v : WindowView) (t : Turn) → b ≡ true → check b n v t ≡ refusal n v
unfolding check
check-yes b n v t e = rw e

pub check-no : (b : Bool) (n : ℕ) (v : WindowView) (t : Turn) → b ≡ false → check b n v t ≡ t
unfolding check
check-no b n v t e = rw e

-- where a rule with a check first is answered 0, the test failed and the rest of the rule decided
pub record Passed (b : Bool) (n : ℕ) (v : WindowView) (t : Turn) : Type 0 where
  pub test : b ≡ false
  pub same : check b n v t ≡ t
  pub rest : t.answer ≡ 0

-- n, the refusal's number, is not 0
pub check-passed : (b : Bool) (n : ℕ) → eqb n 0 ≡ false → (v : WindowView) (t : Turn) → (check b n v t).answer ≡ 0 → Passed b n v t
unfolding check
check-passed true n some v t e = absurd (eqb-false n 0 some e)
check-passed false n some v t e = record { test = refl; same = refl; rest = e }

-- a refusal changes nothing
abbrev pub Refuses : WindowView → Turn → Type 0
Refuses v t = (t.answer ≡ 0 → ⊥) → t.next ≡ v

pub check-refuses : (b : Bool) (n : ℕ) (v : WindowView) (t : Turn) → Refuses v t → Refuses v (check b n v t)
unfolding check
check-refuses true n v t r h = refl
check-refuses false n v t r h = r h

-- ------------------------------------------------------------------------
-- checks in a row

abbrev pub Fail : List Bool → Type 0
Fail [] = Unit {0}
Fail (b ∷ bs) = (b ≡ false) × Fail bs

-- a turn of window v is answered 0 exactly where every test fails, and then makes v' of it; a refusal changes nothing
pub record Decides (tests : List Bool) (v v' : WindowView) (t : Turn) : Type 0 where
  pub refuses : Refuses v t
  pub passed : t.answer ≡ 0 → Fail tests
  pub can : Fail tests → t ≡ done v'

pub decides-next : {tests : List Bool} {v v' : WindowView} {t : Turn} → Decides tests v v' t → t.answer ≡ 0 → t.next ≡ v'
decides-next d e = ap (λ t. t.next) (d.can (d.passed e))

pub done-decides : (v v' : WindowView) → Decides [] v v' (done v')
done-decides v v' = record { refuses = λ n. absurd (n refl); passed = λ e. tt; can = λ f. refl }

-- one check more, whose number n is not 0
pub check-decides : {b : Bool} {bs : List Bool} {v v' : WindowView} {t : Turn} (n : ℕ) → eqb n 0 ≡ false → Decides bs v v' t →
    Decides (b ∷ bs) v v' (check b n v t)
unfolding check
check-decides {b} {bs} {v} {v'} {t} n some d = go b
  where
    go : (b : Bool) → Decides (b ∷ bs) v v' (check b n v t)
    go true = record { refuses = λ h. refl; passed = λ e. absurd (eqb-false n 0 some e); can = λ f. absurd (true≢false f.0) }
    go false = record { refuses = d.refuses; passed = λ e. (refl, d.passed e); can = λ f. d.can f.1 }

-- ------------------------------------------------------------------------
-- the check of the term

pub other_term-same : (t : Term) (v : WindowView) → other_term t v ≡ false → t.0 ≡ v.term.0
other_term-same t v e = eqb-true _ _ (not-false _ e)

pub other_term-own : (v : WindowView) → other_term v.term v ≡ false
other_term-own v = simp (eq-eqb v.term.0 v.term.0 refl)
