-- The laws of Start: its refusals, a window as it leaves it, and the rule.
use Rattle.std.specs.Prelude.{ℕ, zero, suc, ◌≤◌, ◌<◌, ◌≡◌, List, [], ◌∷◌, map, Bool, not, cond, ◌||◌, length, get_or, leb, eqb, ltb}
use Rattle.std.proofs.Math.Path.{refl}
use Rattle.std.proofs.Common.{ap, ◌∙◌, arith}
use Rattle.std.proofs.Math.Bool.{true, false}
use borrow.Author.Tests.{eqb-true, leb-true, le-leb, ne_eqb}
use Rattle.std.proofs.lemmas.List.{length-map}
use Rattle.lists.specs.Cases.{cond-ap, and_left, and_right, not-and, not-leb}
use Rattle.lists.specs.Refusal.{◌when◌, first_of}
use Rattle.journal.specs.Entry.{in_shape, count_of}
use Rattle.lists.specs.All.{all}
use Rattle.rules.specs.declared.Term.{Term}
use Rattle.rules.specs.declared.Settings.{Settings}
use Rattle.rules.specs.View.{PlayerView, no_window}
use Rattle.rules.specs.Shape.{count_fits, limit_fits, spacing_fits, shape}
use Rattle.rules.specs.Window.{Report, told, silence, started_silent, started_by}
use Rattle.rules.specs.Rules.{Outcome, refuse, window_at, speaks, said_by, said, is_start_report, spoken, least, first_fits, start_fits, start_rule}
use Rattle.rules.proofs.Shaped.{WindowShaped, shape_of}
use Rattle.rules.proofs.Parts.{queued-none, normal-shaped, here-shaped, away-shaped}
use Rattle.rules.proofs.Said.{said-length, said_at, reports-le, reports-least, least-le, said-unread}

-- ------------------------------------------------------------------------
-- the refusals in the papers' order

-- 1: W, the batch limit, the first term or the journal outside its limits, or not exactly W reports
abbrev pub start_out_of_shape : List ℕ → (count : ℕ) → Settings → (reports : List ℕ) → Bool
start_out_of_shape ns count settings reports =
    not (count_fits count)
    || (not (limit_fits settings.limit)
    || (eqb settings.first.0 0 || (not (in_shape ns) || not (eqb (length reports) count))))

-- 18: the spacing is 0, or above 65,535
abbrev pub bad_spacing : ℕ → Bool
bad_spacing e = ltb e 1 || ltb 65535 e

-- 13: some report is above L, l here
abbrev pub some_bad_report : ℕ → List Report → Bool
some_bad_report l [] = false
some_bad_report l (told r ∷ rs) = ltb l r || some_bad_report l rs
some_bad_report l (silence ∷ rs) = some_bad_report l rs

some_bad_report-is : (l : ℕ) (rs : List Report) → not (all (is_start_report l) rs) ≡ some_bad_report l rs
unfolding all
some_bad_report-is l [] = refl
some_bad_report-is l (told r ∷ rs) = simp (not-and, not-leb, some_bad_report-is l rs)
some_bad_report-is l (silence ∷ rs) = some_bad_report-is l rs

-- a first term that does not fit is 0
no_first-is : (first : Term) → not (first_fits first) ≡ eqb first.0 0
no_first-is first = by first.0
  where
    by : (n : ℕ) → not (leb 1 n) ≡ eqb n 0
    by zero = refl
    by (suc n) = rw (le-leb 1 (suc n) (omega arith), ne_eqb (suc n) 0 (λ e. omega arith))

bad_spacing-is : (e : ℕ) → not (spacing_fits e) ≡ bad_spacing e
bad_spacing-is e = simp (not-and, not-leb)

-- A result to be read: 1, also if the first term is 0, or if there are not exactly W reports; 18; 13
pub start_rule-refusals : (ns : List ℕ) (count : ℕ) (settings : Settings) (reports : List ℕ) (p : PlayerView) →
    (start_rule ns count settings reports p).answer ≡ first_of
    (1 when start_out_of_shape ns count settings reports
    ∷ 18 when bad_spacing settings.spacing
    ∷ 13 when some_bad_report (count_of ns) (said settings.silent reports)
    ∷ [])
unfolding start_rule
start_rule-refusals ns count settings reports p =
    simp (cond-ap (λ (o : Outcome). o.answer), bad_spacing-is, not-and, no_first-is, some_bad_report-is)

-- ------------------------------------------------------------------------
-- at one window

started_by-shaped : (first : Term) (l c : ℕ) (r : Report) → ((n : ℕ) → r ≡ told n → n ≤ l) → WindowShaped l c (started_by first l r)
unfolding all
started_by-shaped first l c (told n) h =
    let k : n ≤ l = h n refl in
    here-shaped queued-none queued-none (record { acked_in = k; sent_in = k; fits = omega arith; within = refl }) (normal-shaped refl)
started_by-shaped first l c silence h = away-shaped (started_silent first l) (omega arith) (omega arith)

-- ------------------------------------------------------------------------
-- the player after a Start that is answered 0

abbrev pub start_next : (l : ℕ) → Settings → (reports : List ℕ) → PlayerView
start_next l settings reports = record {
  limit = settings.limit;
  spacing = settings.spacing;
  current = least l (spoken (said settings.silent reports));
  windows = map (started_by settings.first l) (said settings.silent reports);
}

module _ (l : ℕ) (settings : Settings) (reports : List ℕ) where
  pub start_next-count : length (start_next l settings reports).windows ≡ length reports
  start_next-count = length-map (said settings.silent reports) (started_by settings.first l) ∙ said-length settings.silent reports

  -- a window is as what is said of it makes it
  pub start_next-at : (w : ℕ) → w < length reports →
      window_at w (start_next l settings reports) ≡ started_by settings.first l (said_by settings.silent w (get_or reports w 0))
  start_next-at w h =
      at (said settings.silent reports) w (rw (said-length settings.silent reports) h)
      ∙ ap (started_by settings.first l) (said_at settings.silent reports w h)
    where
      at : (rs : List Report) (w : ℕ) → w < length rs →
          get_or (map (started_by settings.first l) rs) w no_window ≡ started_by settings.first l (get_or rs w silence)
      at [] w h = absurd (omega arith)
      at (r ∷ rs) zero h = refl
      at (r ∷ rs) (suc w) h = at rs w (omega arith)

  -- `current` is at most the report of each window that speaks
  pub start_next-current : (w : ℕ) → w < length reports → speaks settings.silent w ≡ true →
      (start_next l settings reports).current ≤ get_or reports w 0
  start_next-current w h speaking =
      least-le l (said settings.silent reports) w _ (said_at settings.silent reports w h ∙ rw speaking)

-- ------------------------------------------------------------------------
-- the rule

-- what a Start that can be answered 0 is given
pub record Startable (ns : List ℕ) (count : ℕ) (settings : Settings) (reports : List ℕ) : Type 0 where
  pub some : 1 ≤ count
  pub most : count ≤ 16
  pub limit_some : 1 ≤ settings.limit
  pub limit_most : settings.limit ≤ 32
  pub first_some : 1 ≤ settings.first.0
  pub journal : in_shape ns ≡ true
  pub each : length reports ≡ count
  pub spaced : spacing_fits settings.spacing ≡ true
  pub right : all (is_start_report (count_of ns)) (said settings.silent reports) ≡ true

pub record StartDone (ns : List ℕ) (count : ℕ) (settings : Settings) (reports : List ℕ) (o : Outcome) : Type 0 where
  pub given : Startable ns count settings reports
  pub next : o.next ≡ start_next (count_of ns) settings reports
  pub windows : length o.next.windows ≡ count

module _ (ns : List ℕ) (count : ℕ) (settings : Settings) (reports : List ℕ) (p : PlayerView) where
  abbrev heard : List Report
  heard = said settings.silent reports

  abbrev begun : Outcome
  begun = record { answer = 0; next = start_next (count_of ns) settings reports }

  pub start_rule-cases : (P : Outcome → Type 0) → P (refuse 1 p) → P (refuse 18 p) → P (refuse 13 p) →
      (Startable ns count settings reports → P begun) → P (start_rule ns count settings reports p)
  unfolding start_rule
  start_rule-cases P one eighteen thirteen done =
      go (start_fits ns count settings reports) refl
      (spacing_fits settings.spacing) refl
      (all (is_start_report (count_of ns)) heard) refl
    where
      go : (s : Bool) → start_fits ns count settings reports ≡ s → (t : Bool) → spacing_fits settings.spacing ≡ t →
          (b : Bool) → all (is_start_report (count_of ns)) heard ≡ b →
          P (cond (not s) (refuse 1 p) (cond (not t) (refuse 18 p) (cond (not b) (refuse 13 p) begun)))
      go true s true t true b =
          let c = and_left (count_fits count) _ s in
          let s₁ = and_right (count_fits count) _ s in
          let l = and_left (limit_fits settings.limit) _ s₁ in
          let s₂ = and_right (limit_fits settings.limit) _ s₁ in
          let s₃ = and_right (first_fits settings.first) _ s₂ in
          done
          (record {
            some = leb-true _ _ (and_left (leb 1 count) _ c);
            most = leb-true _ _ (and_right (leb 1 count) _ c);
            limit_some = leb-true _ _ (and_left (leb 1 settings.limit) _ l);
            limit_most = leb-true _ _ (and_right (leb 1 settings.limit) _ l);
            first_some = leb-true _ _ (and_left (first_fits settings.first) _ s₂);
            journal = and_left (in_shape ns) _ s₃;
            each = eqb-true _ _ (and_right (in_shape ns) _ s₃);
            spaced = t;
            right = b;
          })
      go true s true t false b = thirteen
      go true s false t u b = eighteen
      go false s t u v b = one

  pub start_rule-done : (start_rule ns count settings reports p).answer ≡ 0 →
      StartDone ns count settings reports (start_rule ns count settings reports p)
  start_rule-done =
      start_rule-cases (λ o. o.answer ≡ 0 → StartDone ns count settings reports o)
      (λ e. absurd (omega arith))
      (λ e. absurd (omega arith))
      (λ e. absurd (omega arith))
      (λ g e. record { given = g; next = refl; windows = start_next-count (count_of ns) settings reports ∙ g.each })

  pub start_rule-refuses : ((start_rule ns count settings reports p).answer ≡ 0 → ⊥) → (start_rule ns count settings reports p).next ≡ p
  start_rule-refuses =
      start_rule-cases (λ o. (o.answer ≡ 0 → ⊥) → o.next ≡ p) (λ n. refl) (λ n. refl) (λ n. refl) (λ g n. absurd (n refl))

  pub start-shaped : (start_rule ns count settings reports p).answer ≡ 0 → shape ns (start_rule ns count settings reports p).next ≡ true
  start-shaped e =
      let d = start_rule-done e in
      let g = d.given in
      let l : ℕ = count_of ns in
      let n = start_next-count l settings reports in
      rw d.next
      (shape_of ns (start_next l settings reports)
      (record {
        some = omega (arith, g.some, g.each);
        most = omega (arith, g.most, g.each);
        limit_some = g.limit_some;
        limit_most = g.limit_most;
        spacing = g.spaced;
        journal = g.journal;
        current_in = reports-least l heard g.right;
        windows = λ w h.
            let k : w < length reports = rw n at h in
            rw (start_next-at l settings reports w k)
            (started_by-shaped settings.first l _ _ (λ r is.
            reports-le l heard g.right w r (said_at settings.silent reports w k ∙ is)));
      }))

-- A result to be read: the report of a silent window is not looked at.
pub start_rule-unread : (ns : List ℕ) (count : ℕ) (settings : Settings) (reports others : List ℕ) (p : PlayerView) →
    length reports ≡ length others →
    ((w : ℕ) → w < length reports → speaks settings.silent w ≡ true → get_or reports w 0 ≡ get_or others w 0) →
    start_rule ns count settings reports p ≡ start_rule ns count settings others p
unfolding start_rule
start_rule-unread ns count settings reports others p n same = rw (said-unread settings.silent reports others n same, n)
