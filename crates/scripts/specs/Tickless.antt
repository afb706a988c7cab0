-- A script over a journal that is shorter than the spacing: no window gets a tick, so all that is queued, on a line or taken is the
-- window's own. What that says of a window and of a world; `proofs/Tickless` proves it of every script.
use Rattle.std.specs.Prelude.{ℕ, ◌<◌, ◌≡◌, List}
use Rattle.std.proofs.Math.Bool.{true}
use Rattle.std.proofs.Math.ListN.{length}
use Rattle.lists.specs.All.{all}
use Rattle.journal.specs.declared.Entry.{Entry}
use Rattle.journal.specs.Entry.{is_for}
use Rattle.journal.specs.Own.{is_own}
use Rattle.rules.specs.View.{WindowView}
use Rattle.delivery.specs.World.{Side, World, side_at}
use Rattle.delivery.proofs.Offers.{line_entries, Reached}

-- fewer entries than the spacing
abbrev pub Short : List Entry → (spacing : ℕ) → Type 0
Short j spacing = length j < spacing

-- all that is queued is the window's own
pub record OwnQueues (j : List Entry) (w : ℕ) (v : WindowView) : Type 0 where
  pub normal : all (is_for j w) v.normal_queue ≡ true
  pub catch_up : all (is_for j w) v.catch_queue ≡ true

-- and all that is on its line or taken
pub record OwnSide (j : List Entry) (w : ℕ) (p : Side) : Type 0 where
  pub queues : OwnQueues j w p.view
  pub line : all (is_own w) (line_entries p.line) ≡ true
  pub taken : all (is_own w) p.taken ≡ true

pub record Tickless (wd : World) : Type 0 where
  pub reached : Reached wd
  pub short : Short wd.journal wd.spacing
  pub each : (w : ℕ) → w < length wd.sides → OwnSide wd.journal w (side_at w wd)
