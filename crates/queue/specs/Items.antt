-- A row is its items, oldest first: the cells below its length. What stands past the length is in no list.
use Rattle.std.specs.Prelude.{ℕ, List, [], ◌∷◌, ◌++◌, Bool, cond, length, drop, replicate, leb, ltb}
use Rattle.lists.specs.Cells.{front}
use Rattle.lists.specs.Above.{above}
use Rattle.queue.specs.declared.Row.{Row}

-- the items of a row: as many as the length says, whatever it says, with d where there is no cell
unfoldable pub items_in : {A : Type 0} {n : ℕ} → A → Row A n → List A
unfolding front
items_in d r = front d r.len r.cells

-- queues, and the unacknowledged batches
abbrev pub Queue : Type 0
Queue = Row ℕ 128

abbrev pub Batches : Type 0
Batches = Row ℕ 8

-- their items, with zeros where there is no cell
abbrev pub items_of : Queue → List ℕ
items_of q = items_in 0 q

abbrev pub batches_of : Batches → List ℕ
batches_of b = items_in 0 b

-- a fresh row: d in every cell, and a length of 0
abbrev pub fresh_row : {A : Type 0} (n : ℕ) → A → Row A n
fresh_row n d = record { cells = replicate n d; len = 0 }

abbrev pub fresh_queue : Queue
fresh_queue = record { cells = replicate 128 0; len = 0 }

abbrev pub fresh_batches : Batches
fresh_batches = record { cells = replicate 8 0; len = 0 }

-- one more at the end of at most `size` items; unchanged where it is full
unfoldable pub pushed : {A : Type 0} → ℕ → A → List A → List A
pushed size x q = cond (ltb (length q) size) (q ++ (x ∷ [])) q

-- whether a queue's cell can hold a number: it has 16 bits
unfoldable pub fits_cell : ℕ → Bool
fits_cell x = leb x 65535

-- one more index at the end of a queue; unchanged where it is full, or where no cell can hold the index
abbrev pub queued : ℕ → List ℕ → List ℕ
queued x q = cond (fits_cell x) (pushed 128 x q) q

-- what f makes of at most `size` items; unchanged where there are more items than that
unfoldable pub where_fits : {A : Type 0} → ℕ → (List A → List A) → List A → List A
where_fits size f q = cond (leb (length q) size) (f q) q

-- without the first k of at most `size` items
abbrev pub skipped : {A : Type 0} → ℕ → ℕ → List A → List A
skipped size k q = where_fits size (drop k) q

-- those above x, in order, of at most `size` items
abbrev pub kept_above : ℕ → ℕ → List ℕ → List ℕ
kept_above size x q = where_fits size (above x) q
