-- The cells of a row while those above x are moved to its front: `to` are kept, and those from the place `from` on are to be looked at.
use Prim.Native.Nat.{ℕ, ◌+◌, ◌≤◌, ◌<◌}
use native.Mathlib.Omega.{arith}
use mathlib.Core.Path.{◌≡◌}
use mathlib.Core.List.{List, ◌++◌, append-nil}
use lib.ListN.{length, drop, get_or, set}
use lib.Seq.{append_snoc, drop-set-lt}
use borrow.Author.Tests.{lt-ltb, le-ltb}
use Rattle.lists.specs.Above.{above}
use Rattle.lists.specs.Cells.{front, front-push}
use Rattle.queue.proofs.Laws.{front-drop, front_at, front-end}

-- those kept, and those above x of the rest
abbrev pub kept : ℕ → ℕ → ℕ → ℕ → List ℕ → List ℕ
kept x n to from cells = front 0 to cells ++ above x (drop from (front 0 n cells))

-- a store before the place leaves the rest as it is
front-later : (n k i y : ℕ) (cells : List ℕ) → i < k → drop k (front 0 n (set cells i y)) ≡ drop k (front 0 n cells)
front-later n k i y cells h = rw (front-drop 0 n (set cells i y) k, front-drop 0 n cells k, drop-set-lt k cells i y h)

module _ (x n to from : ℕ) (cells : List ℕ) where
  -- a cell above x is kept
  pub kept-moved : from < n → to ≤ from → to < length cells → x < get_or cells from 0 →
      kept x n (to + 1) (from + 1) (set cells to (get_or cells from 0)) ≡ kept x n to from cells
  unfolding above
  kept-moved here low room high =
      rw (
        front-push 0 to cells (get_or cells from 0) room,
        front-later n (from + 1) to (get_or cells from 0) cells (omega arith),
        front_at 0 n cells from here,
        lt-ltb x (get_or cells from 0) high,
        append_snoc,
      )

  -- any other is passed over
  pub kept-passed : from < n → get_or cells from 0 ≤ x → kept x n to (from + 1) cells ≡ kept x n to from cells
  unfolding above
  kept-passed here low = rw (front_at 0 n cells from here, le-ltb x (get_or cells from 0) low)

  -- at the end nothing is left to be looked at
  pub kept-all : n ≤ from → kept x n to from cells ≡ front 0 to cells
  unfolding above
  kept-all h = rw (front-end 0 n cells from h) (append-nil _)
