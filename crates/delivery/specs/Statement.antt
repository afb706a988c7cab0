-- Demand 3, stated. The file imports definitions alone. Document 01's words, section "Whole runs", stand beside each part.
use Rattle.std.specs.Prelude.{ℕ, suc, ◌+◌, ◌*◌, ◌≤◌, ◌<◌, ◌≡◌, List, [], ◌∷◌, map, Bool, true, cond, ◌&&◌, ◌||◌, length, replicate, take, eqb}
use Rattle.journal.specs.declared.Entry.{Entry}
use Rattle.journal.specs.Entry.{Placed, numbers_of}
use Rattle.journal.specs.Own.{own, is_own, own_of}
use Rattle.lists.specs.All.{all}
use Rattle.lists.specs.Elem.{last_or}
use Rattle.record.specs.Record.{new_record, take_all}
use Rattle.rules.specs.declared.Settings.{Settings}
use Rattle.rules.specs.View.{PlayerView}
use Rattle.rules.specs.Rules.{Outcome, speaks}
use Rattle.delivery.specs.Machine.{Machine, large}
use Rattle.delivery.specs.World.{Side, World, side_at, Step, Stepped, step_by, run_by, opened}
use Rattle.delivery.specs.Sorts.{is_done, sort_of, begins, joined_by, is_work}
use Rattle.delivery.specs.Same.{same_world}

-- Document 02, W5: kind NOTE, with set, race and value 0
abbrev pub is_tick : Placed → Bool
is_tick x = eqb x.entry.set 0 && (eqb x.entry.kind 4 && (eqb x.entry.race 0 && eqb x.entry.value 0))

-- What it has taken is the list of entries lent to its Takes that were answered 0. Some are its own, the others ticks. Read without ticks,
-- if these are k, the list equals the first k of its own entries. The record equals what Take makes of a new record lent the whole list,
-- ticks and all, one after another: its races are what those k from the journal give, its count is the number of all that was taken, and
-- its last the index of the last of it.
pub record Leading (j : List Entry) (w : ℕ) (p : Side) : Type 0 where
  pub k : ℕ
  pub list : own_of w p.taken ≡ take k (own j w)
  pub others : all (λ x. is_own w x || is_tick x) p.taken ≡ true
  pub folded : p.record' ≡ take_all p.taken new_record
  pub races : p.record'.races ≡ (take_all (take k (own j w)) new_record).races
  pub count : p.record'.count ≡ length p.taken
  pub last : p.record'.last.0 ≡ last_or 0 (map (λ x. x.index) p.taken)

-- The reports of W new windows: a new record's last index, 0, each.
abbrev pub new_reports : ℕ → List ℕ
new_reports count = replicate count 0

-- ------------------------------------------------------------------------
-- Of a world with any player

module _ (m : Machine) where
  -- The number of steps since the last fault or append that changed something: the player's state, a record or a line differs after it.
  -- n of them are counted before the list.
  unfoldable pub changes_by : ℕ → World → List Step → ℕ
  changes_by n wd [] = n
  changes_by n wd (s ∷ ss) =
      let r : Stepped = step_by m s wd in
      changes_by (cond (begins (sort_of s) (is_done r.reply)) 0 (cond (same_world wd r.world) n (suc n))) r.world ss

  -- whether window w is joined after the list, where it was or was not before
  unfoldable pub joined_after_by : ℕ → Bool → World → List Step → Bool
  joined_after_by w b wd [] = b
  joined_after_by w b wd (s ∷ ss) =
      let r : Stepped = step_by m s wd in
      joined_after_by w (joined_by w (sort_of s) (is_done r.reply) b) r.world ss

  -- all of W windows are joined after the list, from a Start answered 0 with this set of silent windows
  abbrev pub AllJoinedBy : (count silent : ℕ) → World → List Step → Type 0
  AllJoinedBy count silent wd steps = (w : ℕ) → w < count → joined_after_by w (speaks silent w) wd steps ≡ true

  -- "None can": no Main, Catch, Send, Written, Take or Ack that the list might go on with would change anything
  abbrev pub NoneCanBy : World → Type 0
  NoneCanBy wd = (s : Step) → is_work (sort_of s) ≡ true → same_world wd (step_by m s wd).world ≡ true

  -- the three results, for W windows, the set of those silent at the first Start, the world after it, and a list of steps from there
  pub record DeliversBy (count silent : ℕ) (wd : World) (steps : List Step) : Type 0 where
    -- every window has taken a leading part of its own entries, once each and in order, and ticks among them
    pub leading : (w : ℕ) → w < count → Leading (run_by m wd steps).journal w (side_at w (run_by m wd steps))
    -- with all windows joined, at most L × (1 + 5 × W) steps since the last fault or append changed anything
    pub bound : AllJoinedBy count silent wd steps → changes_by 0 wd steps ≤ length (run_by m wd steps).journal * (1 + 5 * count)
    -- with all windows joined, when none can, every window has taken all of its own entries
    pub finish : AllJoinedBy count silent wd steps → NoneCanBy (run_by m wd steps) →
        (w : ℕ) → w < count → own_of w (side_at w (run_by m wd steps)).taken ≡ own (run_by m wd steps).journal w

  -- The first Start: of W new windows, whatever the player held before.
  abbrev pub first_start_by : PlayerView → List Entry → (count : ℕ) → Settings → Outcome
  first_start_by before j count settings = m.start (numbers_of j) count settings (new_reports count) before

  -- the world after it
  abbrev pub first_world_by : PlayerView → List Entry → (count : ℕ) → Settings → World
  first_world_by before j count settings = opened j settings.first (first_start_by before j count settings)

  -- Demand 3. The list starts from new windows, empty lines, any journal and a Start answered 0. W, the batch limit, the spacing, the first
  -- term, the silent windows, the journal and the list are any that this Start takes.
  abbrev pub Demand3By : Type 0
  Demand3By =
      (before : PlayerView) (j : List Entry) (count : ℕ) (settings : Settings) (steps : List Step) →
      (first_start_by before j count settings).answer ≡ 0 → DeliversBy count settings.silent (first_world_by before j count settings) steps

-- ------------------------------------------------------------------------
-- With the large player

abbrev pub changes : ℕ → World → List Step → ℕ
changes n wd steps = changes_by large n wd steps

abbrev pub joined_after : ℕ → Bool → World → List Step → Bool
joined_after w b wd steps = joined_after_by large w b wd steps

abbrev pub AllJoined : (count silent : ℕ) → World → List Step → Type 0
AllJoined count silent wd steps = AllJoinedBy large count silent wd steps

abbrev pub NoneCan : World → Type 0
NoneCan wd = NoneCanBy large wd

abbrev pub Delivers : (count silent : ℕ) → World → List Step → Type 0
Delivers count silent wd steps = DeliversBy large count silent wd steps

abbrev pub first_start : PlayerView → List Entry → (count : ℕ) → Settings → Outcome
first_start before j count settings = first_start_by large before j count settings

abbrev pub first_world : PlayerView → List Entry → (count : ℕ) → Settings → World
first_world before j count settings = first_world_by large before j count settings

abbrev pub Demand3 : Type 0
Demand3 = Demand3By large
