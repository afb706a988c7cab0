-- Stragglers hold. Every term that a window has held is at most the greatest, a Start answered 0 gives every window a term above that, and
-- from then on no window's term is below it: an offer with an older term finds no window that holds it.
use Rattle.std.specs.Prelude.{ℕ, suc, ◌+◌, ◌≤◌, ◌<◌, ◌≡◌, refl, List, [], ◌∷◌, true, length}
use Rattle.std.proofs.Common.{ap, ◌∙◌, ⊎_elim, arith, le_refl, lt-ltb, le-leb}
use Rattle.std.proofs.lemmas.Bool.{lt-leb}
use Rattle.journal.specs.declared.Entry.{Entry}
use Rattle.lists.specs.Cases.{le-or-lt}
use Rattle.rules.specs.declared.Settings.{Settings}
use Rattle.rules.specs.declared.Term.{Term}
use Rattle.rules.specs.View.{PlayerView}
use Rattle.rules.specs.Window.{batch_of, Report, told, silence, started_by}
use Rattle.rules.specs.Rules.{said_by}
use Rattle.rules.proofs.Offers.{main_at-untouched, fetched-untouched, batch_of-untouched, launched-is}
use Rattle.delivery.specs.World.{Side, World, side_at, take_front, Step, start, Reply, Stepped, is_late, step, run, run_by, opened}
use Rattle.delivery.specs.Sorts.{is_done}
use Rattle.delivery.specs.Statement.{first_start, first_world}
use Rattle.delivery.specs.Stragglers.{Unmoved, Stragglers}
use Rattle.delivery.proofs.Invariant.{Reached}
use Rattle.delivery.proofs.Effects.{Worked, caught, sent, written, took, acked, Restarted}
use Rattle.delivery.proofs.Stepped.{catch-turned, written-turned, late_turned}
use Rattle.delivery.proofs.SteppedAll.{start-restarts}
use Rattle.delivery.proofs.Moves.{Moved, still, appended, mained, worked, dropped-here, joined-here, started-here, step_count, step-greatest, side-moves}
use Rattle.delivery.proofs.Reach.{reached-step, reached-run, run-count}
use Rattle.delivery.proofs.Demand3.{opened-reached, opened-count, opened-side}

-- the term of a window
abbrev pub term_at : ℕ → World → ℕ
term_at w wd = (side_at w wd).view.term.0

-- ------------------------------------------------------------------------
-- work leaves the terms

worked-term : {s : Step} {reply : Reply} {j : List Entry} {limit w : ℕ} {p p' : Side} → Worked j limit w s reply p p' →
    p'.view.term ≡ p.view.term
unfolding take_front
worked-term {p = p} (caught k) = ap (λ q. q.view.term) k.side ∙ (fetched-untouched _ k.index k.tells.upto p.view).term
worked-term {limit = limit} {p = p} (sent k) =
    ap (λ q. q.view.term) k.side
    ∙ ap (λ v. v.term) (launched-is (batch_of limit p.view).indices (batch_of limit p.view).rest)
    ∙ (batch_of-untouched limit p.view).term
worked-term (written k) = ap (λ q. q.view.term) k.side
worked-term (took k) = ap (λ q. q.view.term) k.side
worked-term (acked k) = ap (λ q. q.view.term) k.side

started_by-term : (first : Term) (l : ℕ) (r : Report) → (started_by first l r).term ≡ first
started_by-term first l (told r) = refl
started_by-term first l silence = refl

-- ------------------------------------------------------------------------
-- the terms of a world

abbrev Between : ℕ → ℕ → ℕ → Type 0
Between low high n = (low ≤ n) × (n ≤ high)

-- `low` is at most `used`, and that at most the greatest; every window's term is from `low` to the greatest
record Terms (low used : ℕ) (wd : World) : Type 0 where
  least : low ≤ used
  most : used ≤ wd.greatest
  each : (w : ℕ) → w < length wd.sides → Between low wd.greatest (term_at w wd)

-- every window on one term
terms-level : (n : ℕ) (wd : World) → n ≤ wd.greatest → ((w : ℕ) → w < length wd.sides → term_at w wd ≡ n) → Terms n n wd
terms-level n wd most is = record { least = le_refl n; most = most; each = λ w h. let e = is w h in (omega arith, omega arith) }

-- after a Start that is the first term
restarted-terms : {settings : Settings} {wd wd' : World} → Restarted settings wd wd' → Terms settings.first.0 settings.first.0 wd'
restarted-terms {settings} {wd} {wd'} m =
    terms-level settings.first.0 wd' (omega (arith, m.greatest))
    (λ w h.
    ap (λ p. p.view.term.0) (m.each w (omega (arith, m.count)))
    ∙ ap (λ t. t.0) (started_by-term settings.first _ (said_by settings.silent w _)))

terms-step : (low used : ℕ) (wd : World) (s : Step) → Reached wd → Terms low used wd → Terms low used (step s wd).world
terms-step low used wd s r k =
    let up : wd.greatest ≤ (step s wd).world.greatest = step-greatest wd s r.in_shape in
    record {
      least = k.least;
      most = omega (arith, k.most);
      each = λ w h.
          let within : w < length wd.sides = omega (arith, step_count wd s r.in_shape) in
          by w up (k.each w within) (side-moves wd s r.in_shape w within);
    }
  where
    by : (w : ℕ) → wd.greatest ≤ (step s wd).world.greatest → Between low wd.greatest (term_at w wd) →
        Moved s wd w (side_at w wd) (side_at w (step s wd).world) →
        Between low (step s wd).world.greatest (term_at w (step s wd).world)
    by w up (a, b) moved = kept moved
      where
        -- a term that stays
        stays : {p : Side} → side_at w (step s wd).world ≡ p → p.view.term.0 ≡ term_at w wd →
            Between low (step s wd).world.greatest (term_at w (step s wd).world)
        stays is same =
            let e : term_at w (step s wd).world ≡ term_at w wd = ap (λ p. p.view.term.0) is ∙ same in
            (omega arith, omega arith)

        kept : Moved s wd w (side_at w wd) (side_at w (step s wd).world) →
            Between low (step s wd).world.greatest (term_at w (step s wd).world)
        kept (still k) = stays k.side refl
        kept (appended k) = stays k.side refl
        kept (mained k) =
            stays k.side
            (ap (λ t. t.0) (main_at-untouched wd.journal w wd.spacing (suc wd.current) (side_at w wd).view).term)
        kept (worked k) = stays refl (ap (λ t. t.0) (worked-term k.work))
        kept (dropped-here k) = stays k.side refl
        kept (joined-here k) =
            let e : term_at w (step s wd).world ≡ term_at w wd + 1 = ap (λ p. p.view.term.0) k.side in
            (omega arith, omega (arith, k.greatest))
        kept (started-here m) =
            let e : term_at w (step s wd).world ≡ m.by.settings.first.0
            = ap (λ p. p.view.term.0) m.side ∙ ap (λ t. t.0) (started_by-term m.by.settings.first _ (said_by _ w _)) in
            (omega (arith, k.least, k.most, m.by.restarted.above), omega (arith, m.by.restarted.greatest))

terms-run : (low used : ℕ) (wd : World) (ss : List Step) → Reached wd → Terms low used wd → Terms low used (run wd ss)
unfolding run_by
terms-run low used wd [] r k = k
terms-run low used wd (s ∷ ss) r k = terms-run low used (step s wd).world ss (reached-step wd s r) (terms-step low used wd s r k)

-- ------------------------------------------------------------------------
-- offers with a term below every window's

module _ (t : Term) (w : ℕ) (wd : World) (older : (u : ℕ) → u < length wd.sides → t.0 < term_at u wd) where
  other : w < length wd.sides → t.0 ≡ term_at w wd → ⊥
  other h e = omega (arith, older w h)

  -- an Ack of it is a late one
  pub older-late : is_late w t wd ≡ true
  older-late =
      ⊎_elim
      (λ (h : length wd.sides ≤ w). rw (le-leb (length wd.sides) w h))
      (λ (h : w < length wd.sides). rw (lt-leb (length wd.sides) w h, lt-ltb t.0 (term_at w wd) (older w h)))
      (le-or-lt (length wd.sides) w)

  older-unmoved : Reached wd → (i : ℕ) → Unmoved t w i wd
  older-unmoved r i = record {
    caught = catch-turned wd r.in_shape w t other i;
    wrote = written-turned wd r.in_shape w t other;
    acked = late_turned wd r.in_shape w t i older-late;
  }

-- ------------------------------------------------------------------------
-- the theorem

-- the first Start
opened-terms : (before : PlayerView) (j : List Entry) (count : ℕ) (settings : Settings) → (first_start before j count settings).answer ≡ 0 →
    Terms settings.first.0 settings.first.0 (first_world before j count settings)
unfolding opened
opened-terms before j count settings done =
    terms-level settings.first.0 (first_world before j count settings) (le_refl settings.first.0)
    (λ w h.
    ap (λ p. p.view.term.0)
    (opened-side before j count settings done w (omega (arith, opened-count before j count settings done)))
    ∙ ap (λ t. t.0) (started_by-term settings.first (length j) (said_by settings.silent w 0)))

-- A result to be read: after a Start every window's term is above every term that a window had before it.
pub terms-above : (before : PlayerView) (j : List Entry) (count : ℕ) (settings : Settings) (early between : List Step) (again : Settings)
    (later : List Step) →
    let had : World = run (first_world before j count settings) early in
    let started : Stepped = step (start again) (run had between) in
    let now : World = run started.world later in
    (first_start before j count settings).answer ≡ 0 → is_done started.reply ≡ true →
    (u : ℕ) → u < count → (v : ℕ) → v < length now.sides → term_at u had < term_at v now
terms-above before j count settings early between again later done restarts u h v l =
    let wd₀ : World = first_world before j count settings in
    let reached₀ : Reached wd₀ = opened-reached before j count settings done in
    let had : World = run wd₀ early in
    let reached₁ : Reached had = reached-run wd₀ early reached₀ in
    let within : u < length had.sides
    = omega (arith, run-count wd₀ early reached₀, opened-count before j count settings done) in
    let terms₁ = terms-run _ _ wd₀ early reached₀ (opened-terms before j count settings done) in
    let used : Terms 0 (term_at u had) had
    = record { least = omega arith; most = (terms₁.each u within).1; each = λ v l. (omega arith, (terms₁.each v l).1) } in
    let wd₂ : World = run had between in
    let reached₂ : Reached wd₂ = reached-run had between reached₁ in
    let m = start-restarts wd₂ reached₂.in_shape again restarts in
    let wd₃ : World = (step (start again) wd₂).world in
    let now = terms-run _ _ wd₃ later (reached-step wd₂ _ reached₂) (restarted-terms m) in
    omega (arith, (now.each v l).0, m.above, (terms-run _ _ had between reached₁ used).most)

-- Stragglers, for every list of steps, every Start in it and every term that a window had before that
pub stragglers : Stragglers
stragglers before j count settings early between again later done restarts u h w i =
    let wd₀ : World = first_world before j count settings in
    let had : World = run wd₀ early in
    let wd₃ : World = (step (start again) (run had between)).world in
    let reached : Reached (run had between)
    = reached-run had between (reached-run wd₀ early (opened-reached before j count settings done)) in
    older-unmoved (side_at u had).view.term w (run wd₃ later)
    (terms-above before j count settings early between again later done (ap is_done restarts) u h)
    (reached-run wd₃ later (reached-step (run had between) _ reached)) i
