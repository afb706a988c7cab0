-- The first n cells of a row as a list: its laws for one cell more, the first cell, and the cells moved down.
use Rattle.std.specs.Prelude.{ℕ, zero, suc, ◌+◌, ◌-◌, ◌≤◌, ◌<◌, ◌≡◌, refl, List, [], ◌∷◌, ◌++◌, length, take, set}
use Rattle.std.proofs.Common.{add_comm, add-one, arith, sym, ◌∙◌, length-append, length-drop, take-suc, drop-cons, length-take-le}
use Rattle.std.proofs.Math.Path.{ap}
use Rattle.std.proofs.Math.ListN.{drop, get_or}
use Rattle.std.proofs.Math.Seq.{take-length, append_snoc, get_or-append-add, get_or-drop}
use Rattle.std.proofs.lemmas.List.{set_at}

-- ------------------------------------------------------------------------
-- front

-- the first n cells, and d where there are no more cells: so the list is as long as n says, whatever it says
unfoldable pub front : {A : Type 0} → A → ℕ → List A → List A
front d zero cells = []
front d (suc n) [] = d ∷ front d n []
front d (suc n) (c ∷ cells) = c ∷ front d n cells

pub front_length : {A : Type 0} (d : A) (n : ℕ) (cells : List A) → length (front d n cells) ≡ n
unfolding front
front_length d zero cells = refl
front_length d (suc n) [] = ap suc (front_length d n [])
front_length d (suc n) (c ∷ cells) = ap suc (front_length d n cells)

front-suc : {A : Type 0} (d : A) (n : ℕ) (cells : List A) (x : A) → n < length cells →
    front d (suc n) (set cells n x) ≡ front d n cells ++ (x ∷ [])
unfolding front
front-suc d zero [] x h = absurd (omega arith)
front-suc d zero (c ∷ cells) x h = refl
front-suc d (suc n) [] x h = absurd (omega arith)
front-suc d (suc n) (c ∷ cells) x h = ap (λ l. c ∷ l) (front-suc d n cells x (omega arith))

-- one cell more
pub front-push : {A : Type 0} (d : A) (n : ℕ) (cells : List A) (x : A) → n < length cells →
    front d (n + 1) (set cells n x) ≡ front d n cells ++ (x ∷ [])
front-push d n cells x h = rw add-one (front-suc d n cells x h)

-- the first cell, and those after it
pub front-first : {A : Type 0} (d : A) (n : ℕ) (cells : List A) → 0 < n → front d n cells ≡ get_or cells 0 d ∷ drop 1 (front d n cells)
unfolding front
front-first d zero cells h = absurd (omega arith)
front-first d (suc n) [] h = refl
front-first d (suc n) (c ∷ cells) h = refl

front-append : {A : Type 0} (d : A) (n : ℕ) (xs ys : List A) → n ≤ length xs → front d n (xs ++ ys) ≡ front d n xs
unfolding front
front-append d zero xs ys h = refl
front-append d (suc n) [] ys h = absurd (omega arith)
front-append d (suc n) (x ∷ xs) ys h = ap (λ l. x ∷ l) (front-append d n xs ys (omega arith))

-- ------------------------------------------------------------------------
-- moved

-- the cells after i turns of a loop that moves them down by k places: the first i are those from k on, and the others are as they were
unfoldable pub moved : {A : Type 0} → ℕ → ℕ → List A → List A
moved k i cells = take i (drop k cells) ++ drop i cells

module _ {A : Type 0} (cells : List A) (k i : ℕ) (h : i + k ≤ length cells) where
  head-length : length (take i (drop k cells)) ≡ i
  head-length = length-take-le i (drop k cells) (rw length-drop (omega arith))

  pub moved_length : length (moved k i cells) ≡ length cells
  unfolding moved
  moved_length = rw (length-append, head-length, length-drop) (omega arith)

  -- a cell from i on is as it was
  pub moved-get_or : (j : ℕ) (d : A) → get_or (moved k i cells) (i + j) d ≡ get_or cells (i + j) d
  unfolding moved
  moved-get_or j d =
      ap (λ (n : ℕ). get_or (take i (drop k cells) ++ drop i cells) (n + j) d) (sym head-length)
      ∙ get_or-append-add (take i (drop k cells)) (drop i cells) j d
      ∙ get_or-drop i cells j d

pub moved-turn : {A : Type 0} (cells : List A) (k i : ℕ) (d : A) → i + k < length cells →
    set (moved k i cells) i (get_or cells (i + k) d) ≡ moved k (suc i) cells
unfolding moved
moved-turn cells k i d h =
    let fits : i + k ≤ length cells = omega arith in
    let room : i < length (drop k cells) = rw length-drop (omega arith) in
    let here : i < length cells = omega arith in
    let at : get_or cells (i + k) d ≡ get_or (drop k cells) i d = rw (get_or-drop, add_comm k i) in
    rw (
      at,
      take-suc (drop k cells) i d room,
      append_snoc,
      drop-cons cells i d here,
      set_at _ _ _ _ i (head-length cells k i fits),
    )

-- moved down by one place up to the last, the cells below n are those after the first
pub front-moved : {A : Type 0} (d : A) (n i : ℕ) (cells : List A) → 0 < n → n ≤ length cells → length cells ≡ i + 1 →
    front d (n - 1) (moved 1 i cells) ≡ drop 1 (front d n cells)
unfolding front moved
front-moved d zero i cells h l e = absurd (omega arith)
front-moved d (suc n) i [] h l e = absurd (omega arith)
front-moved d (suc n) i (c ∷ cells) h l e =
    let one : suc n - 1 ≡ n = omega arith in
    let all : i ≡ length cells = omega arith in
    rw (one, all, take-length cells, front-append d n cells _ (omega arith))
