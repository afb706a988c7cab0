-- The items of a list by their place: whatever stands for one that is not there, and with one item replaced.
use Rattle.std.specs.Prelude.{ℕ, zero, suc, ◌<◌, ◌≡◌, refl, List, [], ◌∷◌, map, length, get_or, set}
use Rattle.std.proofs.Common.{arith, ap, ⊎_elim, get_or-set_same, get_or-set_other}
use Rattle.std.proofs.Math.Path.{subst⁻¹}
use Rattle.lists.specs.Cases.{eq-or-ne}

-- an item that is there, whatever stands for one that is not
pub get_or-any : {A : Type 0} (l : List A) (i : ℕ) (d e : A) → i < length l → get_or l i d ≡ get_or l i e
get_or-any [] i d e h = absurd (omega arith)
get_or-any (x ∷ l) zero d e h = refl
get_or-any (x ∷ l) (suc i) d e h = get_or-any l i d e (omega arith)

-- ------------------------------------------------------------------------
-- one item replaced

-- what holds of the new item at its place, and at place k of the old list where k is another place, holds at place k of the new list
pub get_or-set-each : {A : Type 0} (P : ℕ → A → Type 0) (l : List A) (i k : ℕ) (a d : A) → i < length l → P i a →
    ((k ≡ i → ⊥) → P k (get_or l k d)) → P k (get_or (set l i a) k d)
get_or-set-each P l i k a d h new old =
    ⊎_elim
    (λ (e : k ≡ i). subst⁻¹ (λ n. P n (get_or (set l i a) n d)) e (subst⁻¹ (P i) (get_or-set_same l i a d h) new))
    (λ (n : k ≡ i → ⊥). subst⁻¹ (P k) (get_or-set_other l i k a d n) (old n))
    (eq-or-ne k i)

-- a relation that every item has to itself, and the item at place i to the new one, is one of the old list to the new at every place
pub get_or-set-related : {A : Type 0} (R : A → A → Type 0) → ((x : A) → R x x) → (l : List A) (i k : ℕ) (a d : A) →
    R (get_or l i d) a → R (get_or l k d) (get_or (set l i a) k d)
get_or-set-related R same [] i k a d h = same d
get_or-set-related R same (x ∷ l) zero zero a d h = h
get_or-set-related R same (x ∷ l) zero (suc k) a d h = same (get_or l k d)
get_or-set-related R same (x ∷ l) (suc i) zero a d h = same x
get_or-set-related R same (x ∷ l) (suc i) (suc k) a d h = get_or-set-related R same l i k a d h

pub map-set : {A B : Type 0} (f : A → B) (l : List A) (i : ℕ) (a : A) → map f (set l i a) ≡ set (map f l) i (f a)
map-set f [] i a = refl
map-set f (x ∷ l) zero a = refl
map-set f (x ∷ l) (suc i) a = ap (λ m. f x ∷ m) (map-set f l i a)
