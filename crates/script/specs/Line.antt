-- A window's line as lists of entries and acks of `delivery`, and what its functions promise.
use Rattle.std.specs.Prelude.{ℕ, ◌+◌, ◌<◌, ◌≡◌, refl, List, [], ◌∷◌, ◌++◌, Bool, true, false, cond, length, get_or, drop, replicate, eqb}
use Rattle.std.proofs.Common.{arith}
use Rattle.journal.specs.Entry.{Placed, entry4, five_of}
use Rattle.rules.specs.declared.Term.{Term}
use Rattle.delivery.specs.World as W
use Rattle.queue.specs.declared.Row.{Row}
use Rattle.queue.specs.Items.{items_in}
use Rattle.queue.proofs.Laws.{items_in-length, items_in-none, items_in-first}
use Rattle.script.specs.declared.line.Sent.{Sent}
use Rattle.script.specs.declared.line.Ack.{Ack}
use Rattle.script.specs.declared.line.Line.{Line}

-- ------------------------------------------------------------------------
-- A line as a world has it

-- five numbers are an entry at its index
abbrev pub placed_of : List ℕ → Placed
placed_of ns = record { index = get_or ns 0 0; entry = entry4 (get_or ns 1 0) (get_or ns 2 0) (get_or ns 3 0) (get_or ns 4 0) }

abbrev pub world_sent : Sent → W.Sent
world_sent x = record { placed = placed_of x.numbers; term = x.term; ends = x.ends }

abbrev pub world_ack : Ack → W.Ack
world_ack x = record { term = x.term; index = x.index.0 }

-- what a cell holds that holds nothing
abbrev pub no_sent : Sent
no_sent = record { numbers = replicate 5 0; term = record { 0 = 0 }; ends = false }

abbrev pub no_ack : Ack
no_ack = record { term = record { 0 = 0 }; index = record { 0 = 0 } }

-- the entries on their way and the acks on their way back, oldest first: the cells below the length
abbrev pub Entries : Type 0
Entries = Row Sent 18

abbrev pub Acks : Type 0
Acks = Row Ack 9

abbrev pub sent_in : Entries → List Sent
sent_in e = items_in no_sent e

abbrev pub acks_in : Acks → List Ack
acks_in a = items_in no_ack a

-- an empty line
abbrev pub fresh_entries : Entries
fresh_entries = record { cells = replicate 18 no_sent; len = 0 }

abbrev pub fresh_acks : Acks
fresh_acks = record { cells = replicate 9 no_ack; len = 0 }

abbrev pub fresh_line : Line
fresh_line = record { entries = fresh_entries; acks = fresh_acks }

-- ------------------------------------------------------------------------
-- What the functions promise

-- five of some numbers, from a place on
abbrev pub five_at : ℕ → List ℕ → List ℕ
five_at at ns = get_or ns at 0 ∷ get_or ns (at + 1) 0 ∷ get_or ns (at + 2) 0 ∷ get_or ns (at + 3) 0 ∷ get_or ns (at + 4) 0 ∷ []

abbrev pub sent_as : List ℕ → Term → Bool → Sent
sent_as ns t ends = record { numbers = ns; term = t; ends = ends }

-- the batch that an output of ten numbers shows: of one entry where the second index is 0, else of two, the last marked
abbrev pub batch_shown : List ℕ → Term → List Sent
batch_shown out t =
    cond (eqb (get_or out 5 0) 0) (sent_as (five_at 0 out) t true ∷ [])
    (sent_as (five_at 0 out) t false ∷ sent_as (five_at 5 out) t true ∷ [])

-- the ack of a batch's last entry
abbrev pub ack_for : Sent → Ack
ack_for x = record { term = x.term; index = record { 0 = get_or x.numbers 0 0 } }

-- a batch more
pub record Grown (l : Line) (batch : List Sent) (r : Line) : Type 0 where
  pub entries : sent_in r.entries ≡ sent_in l.entries ++ batch
  pub acks : r.acks ≡ l.acks

-- the front entry taken: off the line, and an ack more where it was the last of its batch
pub record TakenOff (l : Line) (x : Sent) (r : Line) : Type 0 where
  pub entries : sent_in r.entries ≡ drop 1 (sent_in l.entries)
  pub acks : acks_in r.acks ≡ cond x.ends (acks_in l.acks ++ (ack_for x ∷ [])) (acks_in l.acks)

-- the front ack taken
pub record AckedOff (l r : Line) : Type 0 where
  pub entries : r.entries ≡ l.entries
  pub acks : acks_in r.acks ≡ drop 1 (acks_in l.acks)

-- ------------------------------------------------------------------------
-- placed_of

pub five_of-placed_of : (ns : List ℕ) → length ns ≡ 5 → five_of (placed_of ns) ≡ ns
five_of-placed_of [] e = absurd (omega arith)
five_of-placed_of (a ∷ []) e = absurd (omega arith)
five_of-placed_of (a ∷ b ∷ []) e = absurd (omega arith)
five_of-placed_of (a ∷ b ∷ c ∷ []) e = absurd (omega arith)
five_of-placed_of (a ∷ b ∷ c ∷ d ∷ []) e = absurd (omega arith)
five_of-placed_of (a ∷ b ∷ c ∷ d ∷ f ∷ []) e = refl
five_of-placed_of (a ∷ b ∷ c ∷ d ∷ f ∷ g ∷ ns) e = absurd (omega arith)

-- ------------------------------------------------------------------------
-- sent_in, acks_in

pub sent_in-none : (e : Entries) → e.len ≡ 0 → sent_in e ≡ []
sent_in-none e z = items_in-none no_sent e z

pub acks_in-none : (a : Acks) → a.len ≡ 0 → acks_in a ≡ []
acks_in-none a z = items_in-none no_ack a z

-- the front of a way that is not empty
pub sent_in-first : (e : Entries) (x : Sent) → 0 < e.len → x ≡ get_or e.cells 0 no_sent → sent_in e ≡ x ∷ drop 1 (sent_in e)
sent_in-first e x some is = rw is (items_in-first no_sent e some)

pub acks_in-first : (a : Acks) (x : Ack) → 0 < a.len → x ≡ get_or a.cells 0 no_ack → acks_in a ≡ x ∷ drop 1 (acks_in a)
acks_in-first a x some is = rw is (items_in-first no_ack a some)

pub sent_in-length : (e : Entries) → length (sent_in e) ≡ e.len
sent_in-length e = items_in-length no_sent e

pub acks_in-length : (a : Acks) → length (acks_in a) ≡ a.len
acks_in-length a = items_in-length no_ack a
