-- Laws of the first n cells, and of the lists that the operations make.
use Rattle.std.specs.Prelude.{ℕ, zero, suc, ◌+◌, ◌-◌, ◌≤◌, ◌<◌, ◌≡◌, refl, List, [], ◌∷◌, ◌++◌, true, false, length, take, drop, get_or, set, min, leb}
use Rattle.std.specs.List.{copy_within}
use Rattle.std.proofs.Math.Seq.{paste}
use Rattle.std.proofs.Math.Nat.{zero-add}
use Rattle.std.proofs.lemmas.List.{drop_min}
use Rattle.std.proofs.lemmas.List.Edits.{length-paste, take-paste}
use Rattle.std.proofs.Common.{zero-le, le_of_suc-le-suc, not-suc-le-zero, add-one, arith, sym, ap, ◌∙◌, drop_of_length-le, length-drop, drop-cons, lt-ltb, le-ltb, le-leb, leb-true}
use Rattle.std.proofs.Math.Nat.{suc-sub-suc, sub-zero, zero-sub}
use Rattle.std.proofs.Math.ListN.{get_or-eq_default}
use Rattle.std.proofs.Math.Seq.{drop-nil}
use Rattle.std.proofs.lemmas.Bool.{lt-leb}
use Rattle.queue.specs.declared.Row.{Row}
use Rattle.queue.specs.Items.{items_in, items_of, batches_of, fresh_queue, fresh_batches, pushed, fits_cell, queued, where_fits, skipped}
use Rattle.lists.specs.Cells.{front, front_length, front-push, front-first}

-- front

module _ {A : Type 0} (d : A) where
  pub front-take : (n : ℕ) (cells : List A) → n ≤ length cells → front d n cells ≡ take n cells
  unfolding front
  front-take zero cells h = refl
  front-take (suc n) [] h = absurd (not-suc-le-zero h)
  front-take (suc n) (c ∷ cells) h = ap (λ (t : List A). c ∷ t) (front-take n cells (le_of_suc-le-suc h))

  pub front-drop : (n : ℕ) (cells : List A) (k : ℕ) → drop k (front d n cells) ≡ front d (n - k) (drop k cells)
  unfolding front
  front-drop n cells zero = rw sub-zero
  front-drop zero cells (suc k) = rw zero-sub
  front-drop (suc n) [] (suc k) = rw suc-sub-suc (rw drop-nil at (front-drop n [] k))
  front-drop (suc n) (c ∷ cells) (suc k) = rw suc-sub-suc (front-drop n cells k)

  pub front-get_or : (n : ℕ) (cells : List A) (k : ℕ) → k < n → get_or (front d n cells) k d ≡ get_or cells k d
  unfolding front
  front-get_or zero cells k h = absurd (not-suc-le-zero h)
  front-get_or (suc n) [] zero h = refl
  front-get_or (suc n) [] (suc k) h = front-get_or n [] k (le_of_suc-le-suc h)
  front-get_or (suc n) (c ∷ cells) zero h = refl
  front-get_or (suc n) (c ∷ cells) (suc k) h = front-get_or n cells k (le_of_suc-le-suc h)

  pub front-past : (n : ℕ) (cells : List A) (k : ℕ) → n ≤ k → get_or (front d n cells) k d ≡ d
  front-past n cells k h = get_or-eq_default (front d n cells) d (rw front_length h)

  pub front_out : (n : ℕ) (cells : List A) (k : ℕ) → length cells ≤ k → get_or (front d n cells) k d ≡ d
  unfolding front
  front_out zero cells k h = refl
  front_out (suc n) [] zero h = refl
  front_out (suc n) [] (suc k) h = front_out n [] k zero-le
  front_out (suc n) (c ∷ cells) zero h = absurd (not-suc-le-zero h)
  front_out (suc n) (c ∷ cells) (suc k) h = front_out n cells k (le_of_suc-le-suc h)

  take-paste_0 : (cells part : List A) (i : ℕ) → i ≤ length part → take i (paste cells 0 part i) ≡ take i part
  take-paste_0 cells part i h = ap (λ j. take j (paste cells 0 part i)) (sym (zero-add i)) ∙ take-paste cells 0 part i zero-le h

  -- the first n cells once those from the place k on are moved to the front
  pub front_moved : (n k : ℕ) (cells : List A) → n ≤ length cells → front d (n - min k n) (copy_within cells (min k n) n 0) ≡ drop k (front d n cells)
  front_moved n k cells h =
      let some : n - min k n ≤ length (drop (min k n) cells) = rw length-drop (omega arith) in
      let all : n - min k n ≤ length (paste cells 0 (drop (min k n) cells) (n - min k n)) =
      rw (length-paste cells 0 (drop (min k n) cells) (n - min k n) (rw zero-add (omega arith)) some) (omega arith) in
      front-take (n - min k n) _ all
      ∙ take-paste_0 cells (drop (min k n) cells) (n - min k n) some
      ∙ sym (front-take _ _ some)
      ∙ sym (front-drop n cells (min k n))
      ∙ rw front_length at (drop_min k (front d n cells))

  -- the test that there are at most `size` items
  pub front_fits : (size n : ℕ) (cells : List A) → n ≤ size → leb (length (front d n cells)) size ≡ true
  front_fits size n cells h = rw (front_length, le-leb n size h)

  pub front-over : (size n : ℕ) (cells : List A) → size < n → leb (length (front d n cells)) size ≡ false
  front-over size n cells h = rw (front_length, lt-leb n size h)

  -- the items from the place i on: the cell there and those after it
  pub front_at : (n : ℕ) (cells : List A) (i : ℕ) → i < n → drop i (front d n cells) ≡ get_or cells i d ∷ drop (i + 1) (front d n cells)
  front_at n cells i h = rw (add-one, drop-cons (front d n cells) i d (rw front_length h), front-get_or n cells i h)

  pub front-end : (n : ℕ) (cells : List A) (i : ℕ) → n ≤ i → drop i (front d n cells) ≡ []
  front-end n cells i h = drop_of_length-le (front d n cells) {i = i} (rw front_length h)

pub items_of-fresh : items_of fresh_queue ≡ []
unfolding items_in front
items_of-fresh = refl

pub batches_of-fresh : batches_of fresh_batches ≡ []
unfolding items_in front
batches_of-fresh = refl

-- pushed

module _ {A : Type 0} (size : ℕ) (x : A) where
  pub pushed_room : (q : List A) → length q < size → pushed size x q ≡ q ++ (x ∷ [])
  unfolding pushed
  pushed_room q h = rw (lt-ltb (length q) size h)

  pub pushed-full : (q : List A) → size ≤ length q → pushed size x q ≡ q
  unfolding pushed
  pushed-full q h = rw (le-ltb (length q) size h)

  -- the items that a store at the length makes, and those of a row with no room
  pub pushed-front-room : (d : A) (n : ℕ) (cells : List A) → length cells ≡ size → n < size
      → front d (n + 1) (set cells n x) ≡ pushed size x (front d n cells)
  pushed-front-room d n cells e h =
      let room : n < length cells = omega arith in
      rw (pushed_room (front d n cells) (rw front_length h), front-push d n cells x room)

  pub pushed-front-full : (d : A) (n : ℕ) (cells : List A) → size ≤ n → front d n cells ≡ pushed size x (front d n cells)
  pushed-front-full d n cells h = sym (pushed-full (front d n cells) (rw front_length h))

-- fits_cell, queued

-- an index of a journal in shape is at most 65,535
pub fits_cell-index : (x : ℕ) → x ≤ 65535 → fits_cell x ≡ true
unfolding fits_cell
fits_cell-index x h = le-leb x 65535 h

pub fits_cell-most : (x : ℕ) → fits_cell x ≡ true → x ≤ 65535
unfolding fits_cell
fits_cell-most x h = leb-true x 65535 h

pub queued-fits : (x : ℕ) (q : List ℕ) → fits_cell x ≡ true → queued x q ≡ pushed 128 x q
queued-fits x q h = rw h

pub queued-room : (x : ℕ) (q : List ℕ) → fits_cell x ≡ true → length q < 128 → queued x q ≡ q ++ (x ∷ [])
queued-room x q h l = queued-fits x q h ∙ pushed_room 128 x q l

pub queued-over : (x : ℕ) (q : List ℕ) → fits_cell x ≡ false → queued x q ≡ q
queued-over x q h = rw h

-- computed: 65,535 goes in, and the number after it does not
pub queued-last : queued 65535 (7 ∷ []) ≡ 7 ∷ 65535 ∷ []
unfolding pushed fits_cell
queued-last = refl

pub queued-past : queued 65536 (7 ∷ []) ≡ 7 ∷ []
unfolding fits_cell
queued-past = refl

-- where_fits

module _ {A : Type 0} (size : ℕ) (f : List A → List A) where
  pub where_fits-fits : (q : List A) → length q ≤ size → where_fits size f q ≡ f q
  unfolding where_fits
  where_fits-fits q h = rw (le-leb (length q) size h)

  pub where_fits-over : (q : List A) → size < length q → where_fits size f q ≡ q
  unfolding where_fits
  where_fits-over q h = rw (lt-leb (length q) size h)

  -- the items of a row that has more than it may
  pub where_fits-front-over : (d : A) (n : ℕ) (cells : List A) → size < n → front d n cells ≡ where_fits size f (front d n cells)
  where_fits-front-over d n cells h = sym (where_fits-over (front d n cells) (rw front_length h))

  -- what is made of the items of a row that has no more than it may
  pub where_fits-front-fits : (d : A) (n : ℕ) (cells : List A) → n ≤ size → where_fits size f (front d n cells) ≡ f (front d n cells)
  where_fits-front-fits d n cells h = where_fits-fits (front d n cells) (rw front_length h)

-- ------------------------------------------------------------------------
-- The items of a row of at most n, where there is room, and where there are no more than it may have

module _ {A : Type 0} {n : ℕ} (d : A) (r : Row A n) where
  pub items_in-length : length (items_in d r) ≡ r.len
  unfolding items_in
  items_in-length = front_length d r.len r.cells

  pub items_in-none : r.len ≡ 0 → items_in d r ≡ []
  unfolding items_in front
  items_in-none h = rw h

  -- the oldest, and those after it
  pub items_in-first : 0 < r.len → items_in d r ≡ get_or r.cells 0 d ∷ drop 1 (items_in d r)
  unfolding items_in
  items_in-first h = front-first d r.len r.cells h

  pub pushed-items : (x : A) → r.len < n → pushed n x (items_in d r) ≡ items_in d r ++ (x ∷ [])
  pushed-items x h = pushed_room n x (items_in d r) (rw items_in-length h)

  pub skipped-items : (k : ℕ) → r.len ≤ n → skipped n k (items_in d r) ≡ drop k (items_in d r)
  skipped-items k h = where_fits-fits n (drop k) (items_in d r) (rw items_in-length h)
