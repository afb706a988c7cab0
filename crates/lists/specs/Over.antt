-- A list written over another from a place on, and its laws.
use Rattle.std.specs.Prelude.{ℕ, suc, ◌+◌, ◌≤◌, ◌≡◌, refl, List, [], ◌∷◌, ◌++◌, length, take, drop, set}
use Rattle.std.proofs.Common.{arith, add-zero, zero-add, add_assoc, add-suc, add-one, ◌∙◌, append_assoc, append-nil, length-append, length-take, length-drop, take-append-drop, take_at, drop_at, drop-drop, take-take, length-take-le}
use Rattle.std.proofs.lemmas.List.Edits.{sets, sets-eq}
use Rattle.std.proofs.lemmas.List.{take-append-le}

-- the list s in place of what stands in `out` from a place on
unfoldable pub over : ℕ → List ℕ → List ℕ → List ℕ
over at s out = take at out ++ s ++ drop (at + length s) out

pub over_none : (at : ℕ) (out : List ℕ) → over at [] out ≡ out
unfolding over
over_none at out = simp (add-zero, append-nil) (take-append-drop at out)

pub over-front : (s out : List ℕ) → over 0 s out ≡ s ++ drop (length s) out
unfolding over
over-front s out = rw (zero-add (length s))

pub over-length : (at : ℕ) (s out : List ℕ) → at + length s ≤ length out → length (over at s out) ≡ length out
unfolding over
over-length at s out h = simp (length-append, length-take, length-drop) (omega arith)

-- a list written where another ends is both written at once
pub over-append : (at : ℕ) (a b out : List ℕ) → at ≤ length out → over (at + length a) b (over at a out) ≡ over at (a ++ b) out
unfolding over
over-append at a b out h =
    let front : List ℕ = take at out ++ a in
    let back : List ℕ = drop (at + length a) out in
    let n : length front ≡ at + length a = simp (length-append, length-take-le at out h) in
    let end : ℕ = at + length a in
    let after : drop (end + length b) (front ++ back) ≡ drop (end + length b) out
    = rw (← drop-drop (length b) end (front ++ back), drop_at front back end n) (drop-drop (length b) end out) in
    rw (take_at front back end n, after, length-append, ← add_assoc at (length a) (length b)) (simp append_assoc)

-- and so is a list written right before another
pub over-prepend : (at : ℕ) (a b out : List ℕ) → at + length a ≤ length out
    → over at a (over (at + length a) b out) ≡ over at (a ++ b) out
unfolding over
over-prepend at a b out h =
    let front : List ℕ = take (at + length a) out in
    let back : List ℕ = b ++ drop (at + length a + length b) out in
    let n : length front ≡ at + length a = length-take-le (at + length a) out h in
    let before : take at (front ++ back) ≡ take at out
    = take-append-le at front back (omega arith) ∙ take-take at (at + length a) out (omega arith) in
    simp append_assoc (rw (before, drop_at front back (at + length a) n, length-append, ← add_assoc at (length a) (length b)))

-- ------------------------------------------------------------------------
-- numbers stored one after another

-- the numbers stored at the k-th place after `at`, and at those that follow
abbrev pub stored_from : ℕ → ℕ → List ℕ → List ℕ → List ℕ
stored_from at k [] out = out
stored_from at k (x ∷ xs) out = stored_from at (suc k) xs (set out (at + k) x)

stored_from-sets : (at k : ℕ) (xs out : List ℕ) → stored_from at k xs out ≡ sets out (at + k) xs
stored_from-sets at k [] out = refl
stored_from-sets at k (x ∷ xs) out = stored_from-sets at (suc k) xs (set out (at + k) x) ∙ rw add-suc

-- `out[at] = x; out[at + 1] = ..`: the numbers are written over the list
pub over-stores : (at x : ℕ) (xs out : List ℕ) → at + suc (length xs) ≤ length out
    → stored_from at 1 xs (set out at x) ≡ over at (x ∷ xs) out
unfolding over
over-stores at x xs out h = rw (stored_from-sets at 1 xs (set out at x), add-one) (sets-eq (x ∷ xs) out at h)
