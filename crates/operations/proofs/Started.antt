-- What Start makes of the player, for each way out.
use Prim.Native.Nat.{ℕ, ◌≤◌}
use mathlib.Core.Path.{◌≡◌, refl, ap₂, ◌∙◌}
use mathlib.Core.List.{List}
use mathlib.Core.Bool.{true, false}
use native.Mathlib.Omega.{arith}
use borrow.Author.Tests.{leb-true, eqb-true}
use lib.ListN.{length}
use lib.Dec.{leb}
use Rattle.journal.specs.declared.Index.{Index}
use Rattle.journal.specs.Entry.{in_shape, count_of}
use Rattle.journal.specs.EntryLaws.{in_shape-entries}
use Rattle.lists.specs.All.{all}
use Rattle.lists.specs.Cases.{and_left, and_right}
use Rattle.std.specs.Prelude.{Ok, Err}
use Rattle.window.specs.declared.Refusal.TheVariants.{OutOfShape, BadReport, BadSpacing}
use Rattle.window.specs.declared.Window.{Window}
use Rattle.player.specs.declared.Player.{Player}
use Rattle.player.specs.View.{player_of}
use Rattle.rules.specs.declared.Settings.{Settings}
use Rattle.rules.specs.Shape.{count_fits, limit_fits, spacing_fits}
use Rattle.rules.specs.Window.{Report}
use Rattle.rules.specs.Rules.{refuse, said, is_start_report, first_fits, start_fits, start_rule}
use Rattle.rules.proofs.Offers.{reports-le}
use Rattle.player.specs.Promise.{fresh_windows, fresh_player, Starts}
use Rattle.window.specs.Promise.{Answer, number_of}
use Rattle.operations.specs.Starting.{lowest, lowest-least, fresh_player-shown}

-- as many reports as windows and sixteen at most, and a journal in shape
pub record Counted (ns : List ℕ) (count : ℕ) (reports : List ℕ) : Type 0 where
  pub few : length reports ≤ 16
  pub same : length reports ≡ count
  pub entries : count_of ns ≤ 65535

module _ (ns : List ℕ) (count : ℕ) (settings : Settings) (reports : List ℕ) where
  pub counted : start_fits ns count settings reports ≡ true → Counted ns count reports
  counted h =
      let a = and_left (count_fits count) _ h in
      let b =
      and_right (first_fits settings.first) _ (and_right (limit_fits settings.limit) _ (and_right (count_fits count) _ h)) in
      let e = eqb-true (length reports) count (and_right (in_shape ns) _ b) in
      let high = leb-true count 16 (and_right (leb 1 count) _ a) in
      record { few = omega arith; same = e; entries = in_shape-entries ns (and_left (in_shape ns) _ b) }

  abbrev heard : List Report
  heard = said settings.silent reports

  module _ (p : Player) where
    -- what Start promises of an answer beside a player
    abbrev Gives : Answer → Player → Type 0
    Gives a r =
        Starts p (count_of ns) count settings reports (record { answer = a; player = r })
        (start_rule ns count settings reports (player_of p))

    -- a refusal
    refused : (a : Answer) → start_rule ns count settings reports (player_of p) ≡ refuse (number_of a) (player_of p) →
        (number_of a ≡ 0 → ⊥) → Gives a p
    refused a e n = rw e (record { answer = refl; next = refl; fresh = λ z. absurd (n z); unchanged = λ h. refl })

    pub start-shapeless : start_fits ns count settings reports ≡ false → Gives (Err OutOfShape) p
    unfolding start_rule
    start-shapeless h = refused (Err OutOfShape) (rw h) (λ z. omega arith)

    module _ (h : start_fits ns count settings reports ≡ true) where
      pub start-unspaced : spacing_fits settings.spacing ≡ false → Gives (Err BadSpacing) p
      unfolding start_rule
      start-unspaced s = refused (Err BadSpacing) (rw (h, s)) (λ z. omega arith)

      module _ (s : spacing_fits settings.spacing ≡ true) where
        pub start-refused : all (is_start_report (count_of ns)) heard ≡ false → Gives (Err BadReport) p
        unfolding start_rule
        start-refused b = refused (Err BadReport) (rw (h, s, b)) (λ z. omega arith)

        pub start-done : all (is_start_report (count_of ns)) heard ≡ true → (r : Player) →
            r ≡ fresh_player (count_of ns) count settings reports → Gives (Ok tt) r
        unfolding start_rule
        start-done b r e =
            rw (h, s, b, e)
            (record {
              answer = refl;
              next = fresh_player-shown (count_of ns) count settings reports (counted h).same;
              fresh = λ z. refl;
              unchanged = λ x. absurd (x refl);
            })

  -- `current` and the windows that code makes are a fresh player's, where the reports are right
  pub started-player : (current : Index) (windows : List Window) → all (is_start_report (count_of ns)) heard ≡ true →
      current.0 ≡ lowest (count_of ns) heard → windows ≡ fresh_windows settings.first (count_of ns) heard →
      record {
        count = count;
        limit = settings.limit;
        spacing = settings.spacing;
        current = current;
        windows = windows;
      } ≡ fresh_player (count_of ns) count settings reports
  started-player current windows b l w =
      ap₂ (λ i ws.
      record { count = count; limit = settings.limit; spacing = settings.spacing; current = record { 0 = i }; windows = ws })
      (l ∙ lowest-least (count_of ns) heard (reports-le (count_of ns) heard b)) w
