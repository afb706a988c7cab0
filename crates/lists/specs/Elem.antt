-- Whether a number is in a list, and the last of a list.
use Rattle.std.specs.Prelude.{ℕ, zero, suc, ◌-◌, ◌≤◌, ◌<◌, ◌≡◌, refl, List, [], ◌∷◌, ◌++◌, Bool, true, false, ◌||◌, eqb, ltb, length, take, get_or}
use Rattle.std.proofs.Math.Bool.{or_assoc, or-true}
use Rattle.std.proofs.Common.{arith, eq-eqb, ne_eqb, ltb-true}

-- whether a number is in a list
abbrev pub elem : ℕ → List ℕ → Bool
elem i [] = false
elem i (x ∷ xs) = eqb i x || elem i xs

-- the last of a list, or a where it is empty
abbrev pub last_or : ℕ → List ℕ → ℕ
last_or a [] = a
last_or a (x ∷ xs) = last_or x xs

-- ------------------------------------------------------------------------
-- elem

pub elem-append : (i : ℕ) (xs ys : List ℕ) → elem i (xs ++ ys) ≡ (elem i xs || elem i ys)
elem-append i [] ys = refl
elem-append i (x ∷ xs) ys = simp (elem-append i xs ys, or_assoc)

-- a number above the first of a list comes after it
pub elem-later : (i x : ℕ) (xs : List ℕ) → ltb i x ≡ true → elem x (i ∷ xs) ≡ true → elem x xs ≡ true
elem-later i x xs up h = let e : eqb x i ≡ false = ne_eqb x i (omega (arith, ltb-true i x up)) in rw e at h

-- a list that nothing is in
pub elem-none : (xs : List ℕ) → ((x : ℕ) → elem x xs ≡ true → ⊥) → xs ≡ []
elem-none [] h = refl
elem-none (x ∷ xs) h = absurd (h x (rw (eq-eqb x x refl)))

-- a number in two lists one after the other is there with a third between them
pub elem-between : (i : ℕ) (xs ys zs : List ℕ) → elem i (xs ++ zs) ≡ true → elem i (xs ++ (ys ++ zs)) ≡ true
elem-between i xs ys zs h = rw (elem-append i xs (ys ++ zs), elem-append i ys zs) (by (elem i xs) (elem i ys) (rw elem-append at h))
  where
    by : (a b : Bool) → (a || elem i zs) ≡ true → (a || (b || elem i zs)) ≡ true
    by true b k = refl
    by false true k = refl
    by false false k = k

-- if a number is in ys where it is in xs, it is in ys ++ zs where it is in xs ++ zs
pub elem-grown : (i : ℕ) (xs ys zs : List ℕ) → (elem i xs ≡ true → elem i ys ≡ true) → elem i (xs ++ zs) ≡ true →
    elem i (ys ++ zs) ≡ true
elem-grown i xs ys zs within h = rw (elem-append i ys zs) (by (elem i xs) within (rw elem-append at h))
  where
    by : (a : Bool) → (a ≡ true → elem i ys ≡ true) → (a || elem i zs) ≡ true → (elem i ys || elem i zs) ≡ true
    by true k e = rw (k refl)
    by false k e = rw (e, or-true)

-- ------------------------------------------------------------------------
-- last_or

pub last_or-append : (d : ℕ) (xs ys : List ℕ) → last_or d (xs ++ ys) ≡ last_or (last_or d xs) ys
last_or-append d [] ys = refl
last_or-append d (x ∷ xs) ys = last_or-append x xs ys

last_or-suc : (d k : ℕ) (xs : List ℕ) → k < length xs → last_or d (take (suc k) xs) ≡ get_or xs k 0
last_or-suc d k [] h = absurd (omega arith)
last_or-suc d zero (x ∷ xs) h = refl
last_or-suc d (suc k) (x ∷ xs) h = last_or-suc x k xs (omega arith)

pub last_or-take : (d k : ℕ) (xs : List ℕ) → 1 ≤ k → k ≤ length xs → last_or d (take k xs) ≡ get_or xs (k - 1) 0
last_or-take d zero xs h l = absurd (omega arith)
last_or-take d (suc k) xs h l = let e : suc k - 1 ≡ k = omega arith in rw e (last_or-suc d k xs (omega arith))
