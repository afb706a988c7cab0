-- Tests that decide equality: a thing is the same as itself, and what is the same is equal.
use Rattle.std.specs.Prelude.{◌≡◌, refl, List, [], ◌∷◌, map, Bool, true, false, ◌&&◌, eqb}
use Rattle.std.proofs.Common.{sym, ap, ap₂, ◌∙◌, eqb-true, eq-eqb}
use Rattle.std.proofs.lemmas.Bool.{false≢true}
use Rattle.lists.specs.Cases.{and_left, and_right, and_intro}
use Rattle.lists.specs.Same.{same_bool, same_list}

-- ------------------------------------------------------------------------
-- A test that decides equality; of a pair, of what a thing is made of

pub record DecidesEqual {A : Type 0} (f : A → A → Bool) : Type 0 where
  pub itself : (a : A) → f a a ≡ true
  pub equal : (a b : A) → f a b ≡ true → a ≡ b

infixr 20 ◌&◌
pub ◌&◌ : {A B : Type 0} {f : A → A → Bool} {g : B → B → Bool} → DecidesEqual f → DecidesEqual g →
    DecidesEqual {A = A × B} (λ a b. f a.0 b.0 && g a.1 b.1)
◌&◌ {f = f} d e = record {
  itself = λ a. and_intro (d.itself a.0) (e.itself a.1);
  equal = λ a b h. ap₂ (λ x y. (x, y)) (d.equal _ _ (and_left _ _ h)) (e.equal _ _ (and_right (f a.0 b.0) _ h));
}

-- the test of its parts decides equality of what is made of them
pub made_of : {A B : Type 0} {f : B → B → Bool} → DecidesEqual f → (parts : A → B) (made : B → A) →
    ((a : A) → made (parts a) ≡ a) → DecidesEqual {A = A} (λ a b. f (parts a) (parts b))
made_of d parts made back = record {
  itself = λ a. d.itself (parts a);
  equal = λ a b h. sym (back a) ∙ ap made (d.equal (parts a) (parts b) h) ∙ back b;
}

-- ------------------------------------------------------------------------
-- The tests of numbers and flags

pub numbers : DecidesEqual eqb
numbers = record { itself = λ n. eq-eqb n n refl; equal = eqb-true }

pub flags : DecidesEqual same_bool
flags = record { itself = itself-flag; equal = equal-flag }
  where
    itself-flag : (a : Bool) → same_bool a a ≡ true
    itself-flag true = refl
    itself-flag false = refl

    equal-flag : (a b : Bool) → same_bool a b ≡ true → a ≡ b
    equal-flag true true e = refl
    equal-flag true false e = sym e
    equal-flag false true e = e
    equal-flag false false e = refl

-- ------------------------------------------------------------------------
-- The test of lists

pub same_list-itself : {A : Type 0} (f : A → A → Bool) → ((a : A) → f a a ≡ true) → (xs : List A) → same_list f xs xs ≡ true
unfolding same_list
same_list-itself f h [] = refl
same_list-itself f h (x ∷ xs) = and_intro (h x) (same_list-itself f h xs)

pub lists : {A : Type 0} {f : A → A → Bool} → DecidesEqual f → DecidesEqual (same_list f)
unfolding same_list
lists {A} {f} d = record { itself = same_list-itself f d.itself; equal = equal-list }
  where
    equal-list : (xs ys : List A) → same_list f xs ys ≡ true → xs ≡ ys
    equal-list [] [] e = refl
    equal-list [] (y ∷ ys) e = absurd (false≢true e)
    equal-list (x ∷ xs) [] e = absurd (false≢true e)
    equal-list (x ∷ xs) (y ∷ ys) e = ap₂ (λ a b. a ∷ b) (d.equal x y (and_left _ _ e)) (equal-list xs ys (and_right (f x y) _ e))

-- lists of what two lists are mapped to, by a test that says of it what another says of the items
pub same_list-map : {A B : Type 0} (f : A → A → Bool) (g : B → B → Bool) (k : B → A) → ((a b : B) → f (k a) (k b) ≡ g a b) →
    (xs ys : List B) → same_list f (map k xs) (map k ys) ≡ same_list g xs ys
unfolding same_list
same_list-map f g k e [] [] = refl
same_list-map f g k e [] (y ∷ ys) = refl
same_list-map f g k e (x ∷ xs) [] = refl
same_list-map f g k e (x ∷ xs) (y ∷ ys) = ap₂ ◌&&◌ (e x y) (same_list-map f g k e xs ys)
