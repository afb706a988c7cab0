-- Laws of the numbers of a list that are above a given one.
use Rattle.std.specs.Prelude.{ℕ, suc, ◌≤◌, ◌<◌, max, ◌≡◌, refl, List, [], ◌∷◌, Bool, true, false, cond, ◌&&◌, ◌||◌, length, drop, ltb, eqb}
use Rattle.std.proofs.Common.{ap, ◌∙◌, ⊎_elim, arith, lt-ltb, le-ltb, le-leb, ne_eqb, eqb-true}
use Rattle.std.proofs.Math.Bool.{and-false}
use Rattle.std.proofs.lemmas.Bool.{lt-leb}
use Rattle.lists.specs.Cases.{and_left, and_right, and_intro, le-or-lt}
use Rattle.lists.specs.Elem.{elem, last_or}
use Rattle.lists.specs.All.{all, held_in}
use Rattle.lists.specs.Rising.{Rising}
use Rattle.lists.specs.Above.{above}

-- computed: what is above 3 is left, wherever it stands
pub above-three : above 3 (5 ∷ 2 ∷ 3 ∷ 4 ∷ 1 ∷ []) ≡ 5 ∷ 4 ∷ []
unfolding above
above-three = refl

-- A result to be read: a number is left where it was in the list and is above
pub above-elem : (i x : ℕ) (xs : List ℕ) → elem x (above i xs) ≡ (elem x xs && ltb i x)
unfolding above
above-elem i x [] = refl
above-elem i x (y ∷ ys) = by (above-elem i x ys) (ltb i y) refl (eqb x y) refl
  where
    by : elem x (above i ys) ≡ (elem x ys && ltb i x) → (b : Bool) → ltb i y ≡ b → (c : Bool) → eqb x y ≡ c →
        elem x (cond b (y ∷ above i ys) (above i ys)) ≡ ((c || elem x ys) && ltb i x)
    by ih true e true f = rw (f, eqb-true x y f, e)
    by ih true e false f = rw f ih
    by ih false e true f = ih ∙ rw (eqb-true x y f, e, and-false)
    by ih false e false f = ih

-- no more are left than there were
pub above-length : (i : ℕ) (xs : List ℕ) → length (above i xs) ≤ length xs
unfolding above
above-length i [] = omega arith
above-length i (x ∷ xs) = by (ltb i x) (above-length i xs)
  where
    by : (b : Bool) → length (above i xs) ≤ length xs → length (cond b (x ∷ above i xs) (above i xs)) ≤ suc (length xs)
    by true h = omega arith
    by false h = omega arith

-- none is left where none was above
pub above-none : (i : ℕ) (xs : List ℕ) → eqb (length (above i xs)) 0 ≡ all (held_in i) xs
unfolding above all
above-none i [] = refl
above-none i (x ∷ xs) =
    ⊎_elim
    (λ (low : x ≤ i). rw (le-ltb i x low, le-leb x i low) (above-none i xs))
    (λ (high : i < x). rw (lt-ltb i x high, lt-leb x i high) (ne_eqb (suc (length (above i xs))) 0 (λ e. omega arith)))
    (le-or-lt x i)

-- a test that every number passes
pub all_above : (p : ℕ → Bool) (i : ℕ) (xs : List ℕ) → all p xs ≡ true → all p (above i xs) ≡ true
unfolding above all
all_above p i [] a = refl
all_above p i (x ∷ xs) a = by (ltb i x) (all_above p i xs (and_right (p x) _ a))
  where
    by : (b : Bool) → all p (above i xs) ≡ true → all p (cond b (x ∷ above i xs) (above i xs)) ≡ true
    by true h = and_intro (and_left (p x) _ a) h
    by false h = h

-- ------------------------------------------------------------------------
-- of a list that rises

-- what is left rises
pub above-rising : (a b i m : ℕ) (xs : List ℕ) → m ≤ max a i → Rising a xs b → Rising m (above i xs) b
unfolding above
above-rising a b i m [] h r = tt
above-rising a b i m (x ∷ xs) h r =
    ⊎_elim
    (λ (low : x ≤ i). rw (le-ltb i x low) (above-rising x b i m xs (omega (arith, r.0)) r.2))
    (λ (high : i < x). rw (lt-ltb i x high) (omega (arith, r.0), r.1, above-rising x b i x xs (omega arith) r.2))
    (le-or-lt x i)

-- nothing goes where all of it is above
pub above-whole : (a b i : ℕ) (xs : List ℕ) → i ≤ a → Rising a xs b → above i xs ≡ xs
unfolding above
above-whole a b i [] h r = refl
above-whole a b i (x ∷ xs) h r =
    rw (lt-ltb i x (omega (arith, r.0))) (ap (λ l. x ∷ l) (above-whole x b i xs (omega (arith, r.0)) r.2))

-- what is above the first is all that comes after it
pub above-first : (a b i : ℕ) (xs : List ℕ) → Rising a (i ∷ xs) b → above i (i ∷ xs) ≡ xs
unfolding above
above-first a b i xs r = rw (le-ltb i i (omega arith)) (above-whole i b i xs (omega arith) r.2)

-- where the last of it is b, or there is none and b is the lower bound, so it is of what is left, for a bound i of at most b
pub above-last : (a b i : ℕ) (xs : List ℕ) → i ≤ b → Rising a xs b → last_or a xs ≡ b → a ≤ i → last_or i (above i xs) ≡ b
unfolding above
above-last a b i [] h r e low = omega arith
above-last a b i (x ∷ xs) h r e low =
    ⊎_elim
    (λ (under : x ≤ i). rw (le-ltb i x under) (above-last x b i xs h r.2 e under))
    (λ (over : i < x). rw (lt-ltb i x over) (ap (last_or x) (above-whole x b i xs (omega arith) r.2) ∙ e))
    (le-or-lt x i)

-- A result to be read: what is left is the last part of the list, so a cut at a place would do
pub above-cut : (a b i : ℕ) (xs : List ℕ) → Rising a xs b → (k : ℕ) × (above i xs ≡ drop k xs)
unfolding above
above-cut a b i [] r = (0, refl)
above-cut a b i (x ∷ xs) r =
    ⊎_elim
    (λ (low : x ≤ i). let (k, e) = above-cut x b i xs r.2 in (suc k, rw (le-ltb i x low) e))
    (λ (high : i < x). (0, rw (lt-ltb i x high) (ap (λ l. x ∷ l) (above-whole x b i xs (omega arith) r.2))))
    (le-or-lt x i)
