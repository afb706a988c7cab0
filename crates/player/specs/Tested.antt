-- The shape of a player as code tests it: its numbers and the journal, then one window after another.
use Rattle.std.specs.Prelude.{ℕ, ◌+◌, ◌≤◌, ◌<◌, ◌≡◌, List, Bool, true, false, not, ◌&&◌, length, drop, get_or, leb}
use Rattle.std.proofs.Common.{sym, ◌∙◌, leb-true}
use Rattle.std.proofs.Math.Bool.{and_assoc}
use Rattle.std.proofs.lemmas.Bool.{not-true, not-false}
use Rattle.journal.specs.Entry.{in_shape, count_of}
use Rattle.lists.specs.Cases.{and_left, and_right}
use Rattle.lists.specs.All.{all}
use Rattle.window.specs.declared.Window.{Window}
use Rattle.window.specs.View.{view_of}
use Rattle.rules.specs.Shape.{count_fits, limit_fits, spacing_fits, window_shape, shape}
use Rattle.player.specs.declared.Player.{Player}
use Rattle.player.specs.View.{first_windows, player_of}
use Rattle.player.specs.Promise.{numbers_fit}
use Rattle.journal.specs.EntryLaws.{in_shape-entries}
use Rattle.player.specs.FirstWindows.{first_windows-length, first_windows-end, first_windows-all}

-- the numbers of a player that code holds
abbrev fit_numbers : List ℕ → Player → Bool
fit_numbers ns p = numbers_fit ns p.count p.limit p.spacing p.current.0

-- the windows from a place on are in shape
abbrev fit_from : List ℕ → Player → ℕ → Bool
fit_from ns p at = all (window_shape (count_of ns) p.current.0) (drop at (first_windows p.count p.windows))

-- what is known where the numbers fit and the windows before a place are in shape
pub record Tested (ns : List ℕ) (p : Player) (at : ℕ) : Type 0 where
  pub long : length p.windows ≡ 16
  pub few : p.count ≤ 16
  pub entries : count_of ns ≤ 65535
  pub rest : shape ns (player_of p) ≡ fit_from ns p at

pub shape-tested : (ns : List ℕ) (p : Player) → shape ns (player_of p) ≡ (fit_numbers ns p && fit_from ns p 0)
unfolding shape player_of
shape-tested ns p = simp (first_windows-length, and_assoc)

-- the numbers are tested, and the answer is b
module _ (ns : List ℕ) (p : Player) {b : Bool} (s : b ≡ fit_numbers ns p) where
  pub tested-unfit : not b ≡ true → shape ns (player_of p) ≡ false
  tested-unfit h = rw (shape-tested ns p, sym s, not-true b h)

  pub tested-fit : length p.windows ≡ 16 → not b ≡ false → Tested ns p 0
  tested-fit long h =
      let fits = sym s ∙ not-false b h in
      let count = and_left (count_fits p.count) _ fits in
      let more =
      and_right (spacing_fits p.spacing) _ (and_right (limit_fits p.limit) _ (and_right (count_fits p.count) _ fits)) in
      record {
        long = long;
        few = leb-true _ _ (and_right (leb 1 p.count) _ count);
        entries = in_shape-entries ns (and_left (in_shape ns) _ more);
        rest = rw (shape-tested ns p, fits);
      }

-- window `at` is tested, and the answer is b
module _ {ns : List ℕ} {p : Player} {at : ℕ} {l : ℕ} {b : Bool} (t : Tested ns p at) (i : at < p.count) (e : l ≡ count_of ns)
    (d : Window) (s : b ≡ window_shape l p.current.0 (view_of (get_or p.windows at d))) where
  next : shape ns (player_of p) ≡ (b && fit_from ns p (at + 1))
  next = t.rest ∙ first_windows-all _ _ _ _ d b i (rw t.long t.few) (rw e at s)

  pub tested-out : not b ≡ true → shape ns (player_of p) ≡ false
  tested-out h = rw (next, not-true b h)

  pub tested-more : not b ≡ false → Tested ns p (at + 1)
  tested-more h = record { long = t.long; few = t.few; entries = t.entries; rest = rw (next, not-false b h) }

pub tested-all : {ns : List ℕ} {p : Player} {at : ℕ} → Tested ns p at → p.count ≤ at → shape ns (player_of p) ≡ true
unfolding all
tested-all t h = rw (t.rest, first_windows-end _ _ _ h)
