-- How a host finds out whether none can: which steps it tries, one after another, and what they tell where none of them changed anything.
-- The file imports definitions alone.
use Rattle.std.specs.Prelude.{ℕ, suc, ◌+◌, ◌*◌, ◌≤◌, ◌≡◌, List, [], ◌∷◌, ◌++◌, Bool, true, false, not, length}
use Rattle.lists.specs.All.{all}
use Rattle.journal.specs.declared.Entry.{Entry}
use Rattle.rules.specs.declared.Settings.{Settings}
use Rattle.rules.specs.View.{Condition, normal, fetching, completed, suspended, WindowView, PlayerView}
use Rattle.delivery.specs.World.{World, player_in, Step, main, catch, written, send, take, ack, Reply, run, replies}
use Rattle.delivery.specs.Sorts.{is_done}
use Rattle.delivery.specs.Statement.{changes, NoneCan, first_start, first_world}

-- the index that a Catch is offered: next where the window is Fetching; elsewhere any, here 0
abbrev pub next_in : Condition → ℕ
next_in normal = 0
next_in (fetching n e) = n
next_in (completed e) = 0
next_in suspended = 0

-- the tests of window w, as the player holds it: a Catch of its term and its next index, a Send into this output, a Written of its term, a
-- Take and an Ack
abbrev pub tests_at : (out : List ℕ) → (w : ℕ) → WindowView → List Step
tests_at out w v = catch w v.term (next_in v.condition) ∷ send w out ∷ written w v.term ∷ take w false ∷ ack w ∷ []

-- of every window; the first is window w
unfoldable pub tests_from : (out : List ℕ) → (w : ℕ) → List WindowView → List Step
tests_from out w [] = []
tests_from out w (v ∷ vs) = tests_at out w v ++ tests_from out (suc w) vs

-- the tests of a player: a Main at `current` + 1, and then those of each window
abbrev pub tests_of : (out : List ℕ) → PlayerView → List Step
tests_of out p = main (p.current + 1) ∷ tests_from out 0 p.windows

-- of the player in a world
abbrev pub tests : (out : List ℕ) → World → List Step
tests out wd = tests_of out (player_in wd)

-- an output long enough for any batch: 5 numbers times the batch limit
abbrev pub Enough : (out : List ℕ) → (limit : ℕ) → Type 0
Enough out limit = 5 * limit ≤ length out

-- none of these is an answer 0
abbrev pub none_done : List Reply → Bool
none_done rs = all (λ r. not (is_done r)) rs

-- what the tests tell, for W windows, an output, and the world in which the first of them is made
pub record Told (count : ℕ) (out : List ℕ) (now : World) : Type 0 where
  -- there are 1 + 5 × W of them
  pub number : length (tests out now) ≡ 1 + 5 * count
  -- if none of them changed anything, none can
  pub tells : changes 0 now (tests out now) ≡ 0 → NoneCan now
  -- and if none can, none of them does
  pub only : NoneCan now → changes 0 now (tests out now) ≡ 0
  -- the answers show it: none of them was answered 0 exactly if none of them changed anything
  pub answers : none_done (replies now (tests out now)) ≡ true → changes 0 now (tests out now) ≡ 0
  pub unanswered : changes 0 now (tests out now) ≡ 0 → none_done (replies now (tests out now)) ≡ true

-- of whatever demand 3 speaks of
abbrev pub TestTells : Type 0
TestTells =
    (before : PlayerView) (j : List Entry) (count : ℕ) (settings : Settings) (steps : List Step) →
    (first_start before j count settings).answer ≡ 0 →
    let now : World = run (first_world before j count settings) steps in
    (out : List ℕ) → Enough out now.limit → Told count out now
