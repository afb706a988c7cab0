-- Strictly rising lists within bounds.
use Rattle.std.specs.Prelude.{ℕ, ◌+◌, ◌≤◌, ◌<◌, ◌≡◌, refl, length}
use Rattle.std.proofs.Common.{sym, ap, arith}
use mathlib.Core.List.{List, [], ◌∷◌, ◌++◌, cons≢nil}
use Rattle.lists.specs.Elem.{last_or}

-- strictly rising, and within (a, b]
abbrev pub Rising : ℕ → List ℕ → ℕ → Type 0
Rising a [] b = Unit {0}
Rising a (x ∷ xs) b = (a < x) × (x ≤ b) × Rising x xs b

pub rising-weaken : (a m b : ℕ) (xs : List ℕ) → a ≤ m → Rising m xs b → Rising a xs b
rising-weaken a m b [] h r = tt
rising-weaken a m b (x ∷ xs) h r = (omega (arith, r.0), r.1, r.2)

pub rising-widen : (a m b : ℕ) (xs : List ℕ) → m ≤ b → Rising a xs m → Rising a xs b
rising-widen a m b [] h r = tt
rising-widen a m b (x ∷ xs) h r = (r.0, omega (arith, r.1), rising-widen x m b xs h r.2)

pub rising-append : (a m b : ℕ) (xs ys : List ℕ) → a ≤ m → m ≤ b → Rising a xs m → Rising m ys b → Rising a (xs ++ ys) b
rising-append a m b [] ys h k r s = rising-weaken a m b ys h s
rising-append a m b (x ∷ xs) ys h k r s = (r.0, omega (arith, r.1), rising-append x m b xs ys r.1 k r.2 s)

-- nothing rises within an empty range
pub rising_none : (a b : ℕ) (xs : List ℕ) → b ≤ a → Rising a xs b → xs ≡ []
rising_none a b [] h r = refl
rising_none a b (x ∷ xs) h r = absurd (omega (arith, r.0, r.1))

-- no more of them than the range has numbers
pub rising-length : (a b : ℕ) (xs : List ℕ) → a ≤ b → Rising a xs b → a + length xs ≤ b
rising-length a b [] h r = omega arith
rising-length a b (x ∷ xs) h r = omega (arith, r.0, rising-length x b xs r.1 r.2)

-- cut anywhere: the first part rises to its last, the other from there on
pub record RisingCut (a b : ℕ) (xs ys : List ℕ) : Type 0 where
  pub above : a ≤ last_or a xs
  pub within : last_or a xs ≤ b
  pub before : Rising a xs (last_or a xs)
  pub after : Rising (last_or a xs) ys b

pub rising-cut : (a b : ℕ) (xs ys : List ℕ) → a ≤ b → Rising a (xs ++ ys) b → RisingCut a b xs ys
rising-cut a b [] ys h r = record { above = omega arith; within = h; before = tt; after = r }
rising-cut a b (x ∷ xs) ys h r =
    let c : RisingCut x b xs ys = rising-cut x b xs ys r.1 r.2 in
    record { above = omega (arith, r.0, c.above); within = c.within; before = (r.0, c.above, c.before); after = c.after }

-- a list is cut into what rises to m and what rises from m on in one way only
pub rising-parts : (a m b : ℕ) (xs ys us vs : List ℕ) → Rising a xs m → Rising m ys b → Rising a us m → Rising m vs b →
    xs ++ ys ≡ us ++ vs → (xs ≡ us) × (ys ≡ vs)
rising-parts a m b [] ys [] vs r s t u e = (refl, e)
rising-parts a m b [] [] (y ∷ us) vs r s t u e = absurd (cons≢nil (sym e))
rising-parts a m b [] (x ∷ ys) (y ∷ us) vs r s t u e =
    let same : x ≡ y = cc in
    absurd (omega (arith, s.0, t.1))
rising-parts a m b (x ∷ xs) ys [] [] r s t u e = absurd (cons≢nil e)
rising-parts a m b (x ∷ xs) ys [] (y ∷ vs) r s t u e =
    let same : x ≡ y = cc in
    absurd (omega (arith, r.1, u.0))
rising-parts a m b (x ∷ xs) ys (y ∷ us) vs r s t u e =
    let same : x ≡ y = cc in
    let rest : xs ++ ys ≡ us ++ vs = cc in
    let t' : Rising x us m = rw same t.2 in
    let (first, second) = rising-parts x m b xs ys us vs r.2 s t' u rest in
    (rw same (ap (λ l. y ∷ l) first), second)
