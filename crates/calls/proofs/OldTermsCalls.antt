-- Stragglers hold of the calls: after a Start the player holds for every window a term above those that it held for any before.
use Rattle.std.specs.Prelude.{ℕ, ◌<◌, ◌≡◌, map, true, length}
use Rattle.std.proofs.Math.Path.{refl}
use Rattle.std.proofs.Common.{sym, ap, ap₂, subst, ◌∙◌, arith, eq-eqb}
use Rattle.journal.specs.declared.Index.{Index}
use Rattle.journal.specs.Entry.{entries_of}
use Rattle.rules.specs.declared.Term.{Term}
use Rattle.rules.specs.View.{PlayerView}
use Rattle.rules.specs.Shape.{shape}
use Rattle.rules.specs.Rules.{Outcome, refuse, window_at}
use Rattle.rules.specs.Refusals.{turned_away}
use Rattle.rules.proofs.Offers.{turned_away-some, catch_rule-turned, written_rule-turned, ack_rule-turned}
use Rattle.window.specs.Promise.{number_of}
use Rattle.player.specs.declared.Played.{Played}
use Rattle.player.specs.View.{player_of}
use Rattle.player.specs.Promise.{Meets}
use Rattle.delivery.specs.World.{World, step, run}
use Rattle.delivery.specs.World as W
use Rattle.delivery.specs.Statement.{first_world}
use Rattle.delivery.proofs.Offers.{Reached, reached-step, reached-run, opened-reached, term_at, older-late, terms-above, windows-in}
use Rattle.calls.specs.Host.{Host, with_player, Call, catch, written, late-ack, start, call_step, after}
use Rattle.calls.specs.Stragglers.{TurnedAway, Unmoved, StragglersCalls}
use Rattle.calls.proofs.Shows.{Shows, shows-held, shows-late}
use Rattle.calls.proofs.Runs.{follows, host_after-shows}
use Rattle.calls.proofs.Demand3Calls.{opened-shows, first_done}

module _ (t : Term) (w : ℕ) (i : Index) {h : Host} {wd : World} (is : Shows h wd) (r : Reached wd)
    (older : (v : ℕ) → v < length wd.sides → t.0 < term_at v wd) where
  abbrev held : PlayerView
  held = player_of h.player

  shaped : shape h.journal held ≡ true
  shaped = ap₂ shape is.journal is.player ∙ r.in_shape

  other : w < length held.windows → t.0 ≡ (window_at w held).term.0 → ⊥
  other l e =
      let within : w < length wd.sides = omega (arith, ap (λ p. length p.windows) is.player, windows-in wd) in
      omega (arith, older w within, ap (λ v. v.term.0) (shows-held is w))

  -- a call that is turned away gives the player back
  gave-back : (c : Call) (g : Played) (o : Outcome) → after c h ≡ with_player g.player h → Meets h.player g o →
      o ≡ refuse (turned_away w held) held → TurnedAway w c g h
  gave-back c g o is meets e =
      let m : Meets h.player g (refuse (turned_away w held) held) = subst (Meets h.player g) e meets in
      record { number = m.answer; same = is ∙ ap (λ p. with_player p h) (m.unchanged (turned_away-some w held)) }

  unmoved : Unmoved t w i h
  unfolding after
  unmoved = record {
    caught = λ g made. gave-back (catch w t i g) g _ refl made (catch_rule-turned h.journal w t held shaped other i.0);
    wrote = λ g made. gave-back (written w t g) g _ refl made (written_rule-turned h.journal w t held shaped other);
    late = shows-late is w t ∙ older-late t w wd older;
    acked = λ g made. gave-back (late-ack w t i g) g _ refl made.1 (ack_rule-turned h.journal w t held shaped other i.0);
  }

-- Document 02's stragglers of the calls, for every list of calls, every Start in it and every term held before that
pub stragglers-calls : StragglersCalls
stragglers-calls before ns count settings r made done early between again r' later made₁ made₂ made₃ restarts made₄ u l w i =
    let p : PlayerView = player_of before in
    let wd₀ : World = first_world p (entries_of ns) count settings in
    let begun = first_done before ns count settings r made done in
    let reached₀ : Reached wd₀ = opened-reached p (entries_of ns) count settings begun in
    let shows₁ = host_after-shows (opened-shows before ns count settings r made done) reached₀ early made₁ in
    let had : World = run wd₀ (map call_step early) in
    let reached₁ : Reached had = reached-run wd₀ (map call_step early) reached₀ in
    let shows₂ = host_after-shows shows₁ reached₁ between made₂ in
    let wd₂ : World = run had (map call_step between) in
    let reached₂ : Reached wd₂ = reached-run had (map call_step between) reached₁ in
    let f = follows shows₂ reached₂ (start again r') made₃ in
    let wd₃ : World = (step (W.start again) wd₂).world in
    let reached₃ : Reached wd₃ = reached-step wd₂ (W.start again) reached₂ in
    let now : World = run wd₃ (map call_step later) in
    let shows₄ = host_after-shows f.shows reached₃ later made₄ in
    let above = terms-above p (entries_of ns) count settings (map call_step early) (map call_step between) again (map call_step later) begun
    (f.done ∙ eq-eqb (number_of r'.answer) 0 restarts) u l in
    unmoved _ w i shows₄ (reached-run wd₃ (map call_step later) reached₃)
    (λ v k. subst (λ x. x.term.0 < term_at v now) (sym (shows-held shows₁ u)) (above v k))
