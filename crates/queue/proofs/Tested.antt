-- The test of every item of a list: what `all` of an iterator answers, and what a loop that looks at each has come to.
use Rattle.std.specs.Prelude.{ℕ, ◌+◌, ◌≤◌, ◌<◌, ◌≡◌, Bool, true, false, ◌&&◌, List, [], ◌∷◌, length, take, drop, get_or, min, leb, Result, Ok, Err}
use Rattle.std.specs.Bool.{MatchBool}
use Rattle.std.specs.List.{AllWithin, HoldsAt}
use Rattle.std.proofs.Common.{arith, zero-le, sym, ap, refl, add-one, take-suc, le-leb}
use Rattle.std.proofs.lemmas.Bool.{lt-leb}
use Rattle.std.proofs.Math.Bool.{and-true, and-false}
use Rattle.std.specs.Result.{OkIff, result_unwrap_or}
use mathlib.Core.Logic.{⊎_elim}
use Rattle.lists.specs.Cases.{le-or-lt}
use Rattle.lists.specs.All.{all, all_of, all-at, all_append, between, queued_in}
use Rattle.lists.specs.Cells.{front}
use Rattle.queue.proofs.Laws.{front_at, front-end}

-- one that fails
some_fails : {A : Type 0} (p : A → Bool) (xs : List A) (k : ℕ) (d : A) → k < length xs → p (get_or xs k d) ≡ false → (b : Bool) → all p xs ≡ b → false ≡ b
some_fails p xs k d h e false is = refl
some_fails p xs k d h e true is = let t = all-at p xs is k d h in cc

pub all_from : {A : Type 0} (p : A → Bool) (r : Bool) (xs : List A)
    → MatchBool r (AllWithin (λ x. p x ≡ true) xs 0 (length xs)) ((k : ℕ) × (k < length xs) × HoldsAt (λ x. p x ≡ false) xs k)
    → r ≡ all p xs
unfolding all
all_from p true [] h = refl
all_from p true (x ∷ xs) h = sym (all_of p (x ∷ xs) x (λ i l. h i x zero-le l))
all_from p false [] (k, l, h) = absurd (omega arith)
all_from p false (x ∷ xs) (k, l, h) = some_fails p (x ∷ xs) k x l (h x) _ refl

-- one more item tested
pub tested_more : {A : Type 0} (p : A → Bool) (xs : List A) (i : ℕ) (d : A) → i < length xs → all p (take (i + 1) xs) ≡ (all p (take i xs) && p (get_or xs i d))
unfolding all
tested_more p xs i d h = rw (add-one, take-suc xs i d h, all_append, and-true)

-- the largest bound that a cell holds, where the bound is more
pub top_is : {E : Type 0} (l : ℕ) (r : Result ℕ E) → OkIff r (l < 65536) l → result_unwrap_or r 65535 ≡ min l 65535
top_is l (Ok x) (h, e) = omega arith
top_is l (Err e) h = omega arith

-- of a cell, the bound may be the largest number that one holds, where it is more
pub between-cell : (low high x : ℕ) → x ≤ 65535 → between low (min high 65535) x ≡ between low high x
between-cell low high x h =
    ap (λ b. leb low x && b)
    (⊎_elim
    (λ (within : x ≤ high). rw (le-leb x (min high 65535) (omega arith), le-leb x high within))
    (λ (over : high < x). rw (lt-leb x (min high 65535) (omega arith), lt-leb x high over))
    (le-or-lt x high))

pub queued_in-cell : (l x : ℕ) → x ≤ 65535 → queued_in (min l 65535) x ≡ queued_in l x
queued_in-cell = between-cell 1

-- the test of the first n cells, once those before the place i are tested: whether these have passed it, and those from there on pass it
module _ (p : ℕ → Bool) (n : ℕ) (cells : List ℕ) (i : ℕ) where
  abbrev pub tested : Bool → Bool
  tested each = each && all p (drop i (front 0 n cells))

  -- past the last cell
  pub tested-all : (each : Bool) → n ≤ i → tested each ≡ each
  unfolding all
  tested-all each h = rw (front-end 0 n cells i h) (and-true each)

-- a cell that passes, and one that does not
module _ (p : ℕ → Bool) (n : ℕ) (cells : List ℕ) (i : ℕ) (here : i < n) (each : Bool) where
  pub tested-passed : p (get_or cells i 0) ≡ true → tested p n cells (i + 1) each ≡ tested p n cells i each
  unfolding all
  tested-passed e = rw (front_at 0 n cells i here, e)

  pub tested-failed : p (get_or cells i 0) ≡ false → tested p n cells (i + 1) false ≡ tested p n cells i each
  unfolding all
  tested-failed e = rw (front_at 0 n cells i here, e, and-false)
