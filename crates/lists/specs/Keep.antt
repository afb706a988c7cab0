-- The members of a list that pass a test, in order.
use Rattle.std.specs.Prelude.{ℕ, ◌≤◌, ◌≡◌, refl, List, [], ◌∷◌, ◌++◌, map, Bool, true, false, cond, ◌&&◌}
use Rattle.std.proofs.Common.{ap, ap₂, arith}
use Rattle.lists.specs.Cases.{and_left, and_right}
use Rattle.lists.specs.All.{all}
use Rattle.lists.specs.Rising.{Rising, rising-weaken}

unfoldable pub keep : {A : Type 0} → (A → Bool) → List A → List A
keep p [] = []
keep p (x ∷ xs) = cond (p x) (x ∷ keep p xs) (keep p xs)

-- computed
pub keep_two : keep (λ b. b) (true ∷ false ∷ true ∷ []) ≡ true ∷ true ∷ []
unfolding keep
keep_two = refl

pub keep_append : {A : Type 0} (p : A → Bool) (xs ys : List A) → keep p (xs ++ ys) ≡ keep p xs ++ keep p ys
unfolding keep
keep_append p [] ys = refl
keep_append p (x ∷ xs) ys = by (p x) (keep_append p xs ys)
  where
    by : (b : Bool) → keep p (xs ++ ys) ≡ keep p xs ++ keep p ys →
        cond b (x ∷ keep p (xs ++ ys)) (keep p (xs ++ ys)) ≡ cond b (x ∷ keep p xs) (keep p xs) ++ keep p ys
    by true e = ap (λ l. x ∷ l) e
    by false e = e

-- all of a list of which each member passes
pub keep_all : {A : Type 0} (p : A → Bool) (xs : List A) → all p xs ≡ true → keep p xs ≡ xs
unfolding keep all
keep_all p [] h = refl
keep_all p (x ∷ xs) h = rw (and_left (p x) _ h) (ap (λ l. x ∷ l) (keep_all p xs (and_right (p x) _ h)))

-- of numbers that rise to b: two tests that agree on numbers up to b keep the same and pass the same, and two functions that agree there
-- make the same
pub keep-alike : (p q : ℕ → Bool) (a b : ℕ) (xs : List ℕ) → Rising a xs b → ((x : ℕ) → x ≤ b → p x ≡ q x) → keep p xs ≡ keep q xs
unfolding keep
keep-alike p q a b [] r h = refl
keep-alike p q a b (x ∷ xs) r h =
    ap₂ (λ t l. cond t (x ∷ l) l) (h x r.1) (keep-alike p q x b xs r.2 h)

pub all_alike : (p q : ℕ → Bool) (a b : ℕ) (xs : List ℕ) → Rising a xs b → ((x : ℕ) → x ≤ b → p x ≡ q x) → all p xs ≡ all q xs
unfolding all
all_alike p q a b [] r h = refl
all_alike p q a b (x ∷ xs) r h = ap₂ (λ s t. s && t) (h x r.1) (all_alike p q x b xs r.2 h)

pub map-alike : {B : Type 0} (f g : ℕ → B) (a b : ℕ) (xs : List ℕ) → Rising a xs b → ((x : ℕ) → x ≤ b → f x ≡ g x) → map f xs ≡ map g xs
map-alike f g a b [] r h = refl
map-alike f g a b (x ∷ xs) r h = ap₂ (λ y l. y ∷ l) (h x r.1) (map-alike f g x b xs r.2 h)

-- what is kept of numbers that rise still rises
pub keep-rising : (p : ℕ → Bool) (a b : ℕ) (xs : List ℕ) → Rising a xs b → Rising a (keep p xs) b
unfolding keep
keep-rising p a b [] r = tt
keep-rising p a b (x ∷ xs) r = by (p x) (keep-rising p x b xs r.2)
  where
    by : (t : Bool) → Rising x (keep p xs) b → Rising a (cond t (x ∷ keep p xs) (keep p xs)) b
    by true k = (r.0, r.1, k)
    by false k = rising-weaken a x b (keep p xs) (omega (arith, r.0)) k
