-- With the empty set of silent windows, Start is one that takes a report from each window and knows no silence, which stands here for that.
use Rattle.std.specs.Prelude.{ℕ, ◌≤◌, min, ◌≡◌, List, [], ◌∷◌, map, Bool, not, ◌&&◌, length}
use Rattle.std.proofs.Math.Path.{refl}
use Rattle.std.proofs.Common.{ap, arith, eqb-true, leb-true}
use Rattle.std.proofs.lemmas.Simd.{map-map}
use Rattle.std.proofs.Math.Bool.{true, false, cond}
use Rattle.std.proofs.Math.Dec.{leb}
use Rattle.journal.specs.Entry.{in_shape, count_of}
use Rattle.lists.specs.Cases.{and_left, and_right}
use Rattle.lists.specs.All.{all}
use Rattle.rules.specs.declared.Settings.{Settings}
use Rattle.rules.specs.View.{PlayerView}
use Rattle.rules.specs.Shape.{count_fits, limit_fits, spacing_fits}
use Rattle.rules.specs.Window.{told, started, started_by}
use Rattle.rules.specs.Rules.{Outcome, refuse, is_start_report, least, first_fits, start_fits, start_rule}
use Rattle.rules.proofs.Said.{said-none, spoken-told}

-- the least of some numbers
unfoldable pub base_least : List ℕ → ℕ
base_least [] = 0
base_least (r ∷ []) = r
base_least (r ∷ s ∷ rs) = min r (base_least (s ∷ rs))

-- Start of a report from each window; of the settings it reads no set of silent windows
unfoldable pub base_start : List ℕ → (count : ℕ) → Settings → (reports : List ℕ) → PlayerView → Outcome
base_start ns count settings reports p =
    cond (not (start_fits ns count settings reports)) (refuse 1 p)
    (cond (not (spacing_fits settings.spacing)) (refuse 18 p)
    (cond (not (all (λ r. leb r (count_of ns)) reports)) (refuse 13 p)
    (record {
      answer = 0;
      next = record {
        limit = settings.limit;
        spacing = settings.spacing;
        current = base_least reports;
        windows = map (started settings.first) reports;
      };
    })))

reports-told : (l : ℕ) (rs : List ℕ) → all (is_start_report l) (map told rs) ≡ all (λ r. leb r l) rs
unfolding all
reports-told l [] = refl
reports-told l (r ∷ rs) = ap (λ b. leb r l && b) (reports-told l rs)

least-told : (l : ℕ) (rs : List ℕ) → 1 ≤ length rs → least l rs ≡ base_least rs
unfolding least base_least
least-told l [] h = absurd (omega arith)
least-told l (r ∷ []) h = refl
least-told l (r ∷ s ∷ rs) h = ap (min r) (least-told l (s ∷ rs) (omega arith))

module _ (ns : List ℕ) (count : ℕ) (settings : Settings) (reports : List ℕ) (p : PlayerView) where
  -- there is a report at least
  fits-some : start_fits ns count settings reports ≡ true → 1 ≤ length reports
  fits-some h =
      let n = eqb-true (length reports) count
      (and_right (in_shape ns) _
      (and_right (first_fits settings.first) _ (and_right (limit_fits settings.limit) _ (and_right (count_fits count) _ h)))) in
      omega (arith, leb-true 1 count (and_left (leb 1 count) _ (and_left (count_fits count) _ h)))

  -- the player that it makes, from a number as `current`
  abbrev begun : ℕ → Outcome
  begun c = record {
    answer = 0;
    next = record {
      limit = settings.limit;
      spacing = settings.spacing;
      current = c;
      windows = map (started settings.first) reports;
    };
  }

  -- A result to be read: no window is silent, and each begins from its report.
  pub start_rule-speaking : settings.silent ≡ 0 → start_rule ns count settings reports p ≡ base_start ns count settings reports p
  unfolding start_rule base_start
  start_rule-speaking none =
      rw (none, said-none reports, reports-told (count_of ns) reports, spoken-told reports)
      (rw (map-map (started_by settings.first (count_of ns)) told reports) (by (start_fits ns count settings reports) refl))
    where
      by : (s : Bool) → start_fits ns count settings reports ≡ s →
          cond (not s) (refuse 1 p)
          (cond (not (spacing_fits settings.spacing)) (refuse 18 p)
          (cond (not (all (λ r. leb r (count_of ns)) reports)) (refuse 13 p) (begun (least (count_of ns) reports))))
          ≡ cond (not s) (refuse 1 p)
          (cond (not (spacing_fits settings.spacing)) (refuse 18 p)
          (cond (not (all (λ r. leb r (count_of ns)) reports)) (refuse 13 p) (begun (base_least reports))))
      by true e = rw (least-told (count_of ns) reports (fits-some e))
      by false e = refl
