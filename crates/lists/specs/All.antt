-- A test of every item of a list.
use Prim.Native.Nat.{ℕ, zero, suc, ◌≤◌, ◌<◌}
use Rattle.std.proofs.Common.{arith, leb-true}
use Rattle.std.specs.Prelude.{◌≡◌, Bool, true, ◌&&◌, length, take, drop, get_or, leb}
use Rattle.std.proofs.Math.Path.{refl}
use mathlib.Core.List.{List, [], ◌∷◌, ◌++◌}
use Rattle.std.proofs.Math.Bool.{and_assoc, and-eq-true_iff}
use Rattle.lists.specs.Cases.{and_left, and_right, and_intro}
use Rattle.lists.specs.Elem.{last_or}

-- every item passes a test
unfoldable pub all : {A : Type 0} → (A → Bool) → List A → Bool
all p [] = true
all p (x ∷ xs) = p x && all p xs

-- a number of low to high
abbrev pub between : ℕ → ℕ → ℕ → Bool
between low high x = leb low x && leb x high

pub between-bounds : (low high x : ℕ) → between low high x ≡ true → (low ≤ x) × (x ≤ high)
between-bounds low high x e = (leb-true low x (and_left (leb low x) _ e), leb-true x high (and_right (leb low x) _ e))

-- an index of 1 to l; an index of at most l
abbrev pub queued_in : ℕ → ℕ → Bool
queued_in l x = leb 1 x && leb x l

abbrev pub held_in : ℕ → ℕ → Bool
held_in l x = leb x l

module _ {A : Type 0} where
  pub all_append : (p : A → Bool) (xs ys : List A) → all p (xs ++ ys) ≡ (all p xs && all p ys)
  unfolding all
  all_append p [] ys = refl
  all_append p (x ∷ xs) ys = rw (all_append p xs ys, and_assoc)

  -- one more at the end
  pub all_more : (p : A → Bool) (xs : List A) (x : A) → all p xs ≡ true → p x ≡ true → all p (xs ++ (x ∷ [])) ≡ true
  unfolding all
  all_more p xs x each one = rw (all_append p xs (x ∷ [])) (and_intro each (and_intro one refl))

  pub all-weaken : (p q : A → Bool) → ((x : A) → p x ≡ true → q x ≡ true) → (xs : List A) → all p xs ≡ true → all q xs ≡ true
  unfolding all
  all-weaken p q w [] h = refl
  all-weaken p q w (x ∷ xs) h =
      let (hx, hs) = (and-eq-true_iff (p x) (all p xs)).0 h in
      rw (w x hx, all-weaken p q w xs hs)

  pub all_take : (p : A → Bool) (k : ℕ) (xs : List A) → all p xs ≡ true → all p (take k xs) ≡ true
  unfolding all
  all_take p zero xs h = refl
  all_take p (suc k) [] h = refl
  all_take p (suc k) (x ∷ xs) h =
      let (hx, hs) = (and-eq-true_iff (p x) (all p xs)).0 h in
      rw (hx, all_take p k xs hs)

  pub all_drop : (p : A → Bool) (k : ℕ) (xs : List A) → all p xs ≡ true → all p (drop k xs) ≡ true
  unfolding all
  all_drop p zero xs h = h
  all_drop p (suc k) [] h = refl
  all_drop p (suc k) (x ∷ xs) h = all_drop p k xs ((and-eq-true_iff (p x) (all p xs)).0 h).1

  -- the item at each place passes, whatever stands for one that is not there
  pub all-at : (p : A → Bool) (xs : List A) → all p xs ≡ true → (i : ℕ) (d : A) → i < length xs → p (get_or xs i d) ≡ true
  unfolding all
  all-at p [] h i d l = absurd (omega arith)
  all-at p (x ∷ xs) h zero d l = and_left (p x) _ h
  all-at p (x ∷ xs) h (suc i) d l = all-at p xs (and_right (p x) _ h) i d (omega arith)

  pub all_of : (p : A → Bool) (xs : List A) (d : A) → ((i : ℕ) → i < length xs → p (get_or xs i d) ≡ true) → all p xs ≡ true
  unfolding all
  all_of p [] d h = refl
  all_of p (x ∷ xs) d h = and_intro (h 0 (omega arith)) (all_of p xs d (λ i l. h (suc i) (omega arith)))

-- a test that every item passes, the last item passes
pub all-last : (p : ℕ → Bool) (a : ℕ) (xs : List ℕ) → p a ≡ true → all p xs ≡ true → p (last_or a xs) ≡ true
unfolding all
all-last p a [] h e = h
all-last p a (x ∷ xs) h e = all-last p x xs (and_left (p x) _ e) (and_right (p x) _ e)
