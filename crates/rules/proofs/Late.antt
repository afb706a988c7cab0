-- A window that was silent at a Start: what the player holds for it, and that it joins like any window.
use Rattle.std.specs.Prelude.{ℕ, ◌≤◌, ◌<◌, ◌≡◌, refl, List, true, length}
use Rattle.std.proofs.Common.{ap, ◌∙◌, arith}
use Rattle.std.proofs.Math.Path.{subst⁻¹}
use Rattle.journal.specs.Entry.{count_of, has_window}
use Rattle.rules.specs.declared.Term.{Term}
use Rattle.rules.specs.declared.Settings.{Settings}
use Rattle.rules.specs.View.{suspended, WindowView, PlayerView}
use Rattle.rules.specs.Shape.{shape}
use Rattle.rules.specs.Window.{is_suspended, at_start}
use Rattle.rules.specs.Rules.{window_at, join_rule, start_rule}
use Rattle.rules.proofs.Join.{join_rule-can}
use Rattle.rules.proofs.Start.{start_next-at, start_rule-done}

-- A result to be read: on the first term, Suspended, acknowledged 0 and sent L.
pub silent-held : (ns : List ℕ) (count : ℕ) (settings : Settings) (reports : List ℕ) (p : PlayerView) →
    (start_rule ns count settings reports p).answer ≡ 0 → (w : ℕ) → w < count → has_window w settings.silent ≡ true →
    window_at w (start_rule ns count settings reports p).next ≡ at_start settings.first 0 (count_of ns) suspended
silent-held ns count settings reports p done w within quiet =
    let d = start_rule-done ns count settings reports p done in
    ap (window_at w) d.next ∙ start_next-at (count_of ns) settings reports w (omega (arith, d.given.each)) ∙ rw quiet

-- A result to be read: while that is held and the term can go up, a Join is answered 0 at every report up to sent.
pub silent-joins : (ns : List ℕ) (w : ℕ) (first : Term) (l : ℕ) (p : PlayerView) → first.0 < 4294967295 →
    shape ns p ≡ true → w < length p.windows →
    window_at w p ≡ at_start first 0 l suspended → (r : ℕ) → r ≤ l → (join_rule ns w r p).answer ≡ 0
silent-joins ns w first l p below shaped within is r most =
    join_rule-can ns w p shaped within r (held (λ v. is_suspended v.condition ≡ true) refl)
    (held (λ v. v.term.0 < 4294967295) below) (held (λ v. v.acked ≤ r) (omega arith)) (held (λ v. r ≤ v.sent) most)
  where
    held : (P : WindowView → Type 0) → P (at_start first 0 l suspended) → P (window_at w p)
    held P = subst⁻¹ P is
