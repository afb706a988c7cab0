-- Whether a list is empty, told from its length.
use Prim.Native.Nat.{ℕ}
use mathlib.Core.Path.{◌≡◌, refl}
use mathlib.Core.List.{List, [], ◌∷◌}
use mathlib.Core.Bool.{true, false}
use native.Mathlib.Omega.{arith}
use borrow.Author.Tests.{eq-eqb, ne_eqb}
use lib.Dec.{eqb}
use lib.ListN.{length}
use Rattle.rules.specs.Shape.{is_empty}

pub is_empty-yes : (q : List ℕ) → length q ≡ 0 → is_empty q ≡ true
is_empty-yes [] e = refl
is_empty-yes (x ∷ q) e = absurd (omega arith)

pub is_empty-no : (q : List ℕ) → (length q ≡ 0 → ⊥) → is_empty q ≡ false
is_empty-no [] e = absurd (e refl)
is_empty-no (x ∷ q) e = refl

pub is_empty-length : (q : List ℕ) → eqb (length q) 0 ≡ is_empty q
is_empty-length [] = eq-eqb 0 0 refl
is_empty-length (x ∷ q) = ne_eqb (length (x ∷ q)) 0 (omega arith)
