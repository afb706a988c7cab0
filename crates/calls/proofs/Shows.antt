-- The relation between a host and a world of `delivery`: the host's values are the world's, the entries in it as five numbers each.
use Rattle.std.specs.Prelude.{ℕ, max, ◌≡◌, refl, List, [], ◌∷◌, map, Bool, true, false, cond, length, get_or, set, eqb}
use Rattle.std.proofs.Math.Path.{sym}
use Rattle.std.proofs.Common.{ap, ap₂, subst₂, ◌∙◌, arith, eqb-true}
use Rattle.std.proofs.lemmas.List.{length-map}
use Rattle.std.proofs.Math.ListN.{get_or-map}
use Rattle.journal.specs.Entry.{five_of}
use Rattle.lists.specs.Set.{map-set}
use Rattle.rules.specs.declared.Term.{Term}
use Rattle.rules.specs.View.{WindowView, PlayerView}
use Rattle.rules.specs.Rules.{Outcome, window_at, with_window}
use Rattle.window.specs.Promise.{number_of}
use Rattle.player.specs.declared.Player.{Player}
use Rattle.player.specs.declared.Played.{Played}
use Rattle.player.specs.View.{player_of}
use Rattle.player.specs.Promise.{Meets}
use Rattle.delivery.specs.World.{Side, World, no_side, side_at, numbers_in, player_in, with_views, with_side, called_then}
use Rattle.delivery.specs.World as W
use Rattle.delivery.proofs.Offers.{window-in, with_player-player, with_side-player, with_window-same}
use Rattle.calls.specs.Host.{Sent, WindowEnd, Host, end_at, held_for, is_late, with_player, with_end, changed, raised, called}

-- an entry on a world's line in five numbers, as the host holds it
abbrev pub in_numbers : W.Sent → Sent
in_numbers s = record { numbers = five_of s.placed; term = s.term; ends = s.ends }

-- a window's side of a world, but for what the player holds for it
abbrev pub end_of : Side → WindowEnd
end_of p = record { record' = p.record'; line = map in_numbers p.line; back = p.back; taken = map five_of p.taken }

pub record Shows (h : Host) (wd : World) : Type 0 where
  pub player : player_of h.player ≡ player_in wd
  pub journal : h.journal ≡ numbers_in wd
  pub windows : h.windows ≡ map end_of wd.sides
  pub greatest : h.greatest ≡ wd.greatest

-- what a call of the player gave, as far as the world goes: the rule's answer and next state
pub record Gives (r : Played) (o : Outcome) : Type 0 where
  pub answer : number_of r.answer ≡ o.answer
  pub next : player_of r.player ≡ o.next

-- ------------------------------------------------------------------------
-- Parts of a host that shows a world

module _ {h : Host} {wd : World} (is : Shows h wd) where
  pub shows-count : length h.windows ≡ length wd.sides
  shows-count = ap length is.windows ∙ length-map wd.sides end_of

  pub shows-end : (w : ℕ) → end_at w h ≡ end_of (side_at w wd)
  shows-end w = ap (λ ds. get_or ds w (end_of no_side)) is.windows ∙ get_or-map end_of wd.sides w no_side

  pub shows-held : (w : ℕ) → held_for w h.player ≡ (side_at w wd).view
  shows-held w = ap (window_at w) is.player ∙ window-in w wd

  pub shows-late : (w : ℕ) (t : Term) → is_late w t h ≡ W.is_late w t wd
  shows-late w t = rw (shows-count, shows-held w)

  -- the promise of a call of the player is of what the world has
  pub shows-rule : {r : Played} (rule : List ℕ → PlayerView → Outcome) → Gives r (rule h.journal (player_of h.player)) →
      Gives r (rule (numbers_in wd) (player_in wd))
  shows-rule {r} rule = subst₂ (λ ns p. Gives r (rule ns p)) is.journal is.player

  pub shows-meets : {r : Played} (rule : List ℕ → PlayerView → Outcome) → Meets h.player r (rule h.journal (player_of h.player)) →
      Gives r (rule (numbers_in wd) (player_in wd))
  shows-meets rule made = shows-rule rule (record { answer = made.answer; next = made.next })

-- ------------------------------------------------------------------------
-- A host and a world of which the same part is replaced

with_views-ends : (vs : List WindowView) (ps : List Side) → length vs ≡ length ps → map end_of (with_views vs ps) ≡ map end_of ps
unfolding with_views
with_views-ends [] [] e = refl
with_views-ends [] (p ∷ ps) e = absurd (omega arith)
with_views-ends (v ∷ vs) [] e = absurd (omega arith)
with_views-ends (v ∷ vs) (p ∷ ps) e = ap (λ ds. end_of p ∷ ds) (with_views-ends vs ps (omega arith))

module _ {h : Host} {wd : World} (is : Shows h wd) where
  -- the player that a call gave back
  pub shows-player : (p : Player) (q : PlayerView) → player_of p ≡ q → length q.windows ≡ length wd.sides →
      Shows (with_player p h) (W.with_player q wd)
  unfolding W.with_player
  shows-player p q e n = record {
    player = e ∙ sym (with_player-player wd q n);
    journal = is.journal;
    windows = is.windows ∙ sym (with_views-ends q.windows wd.sides n);
    greatest = is.greatest;
  }

  -- a window's end and its side
  pub shows-side : (w : ℕ) (d : WindowEnd) (p : Side) → d ≡ end_of p → p.view ≡ (side_at w wd).view →
      Shows (with_end w d h) (with_side w p wd)
  shows-side w d p e same = record {
    player =
        is.player ∙ sym (with_side-player w p wd ∙ ap (λ v. with_window w v (player_in wd)) same ∙ with_window-same w wd);
    journal = is.journal;
    windows = ap₂ (λ ds d. set ds w d) is.windows e ∙ sym (map-set end_of wd.sides w p);
    greatest = is.greatest;
  }

  -- a term used
  pub shows-raised : (t t' : Term) → t ≡ t' → Shows (raised t h) (W.raised t' wd)
  shows-raised t t' e = record {
    player = is.player;
    journal = is.journal;
    windows = is.windows;
    greatest = ap₂ (λ n t. max n t.0) is.greatest e;
  }

-- ------------------------------------------------------------------------
-- A call of the player

module _ {h : Host} {wd : World} (is : Shows h wd) where
  -- where it is answered 0, a change after it
  pub shows-called : (r : Played) (o : Outcome) (f : Host → Host) (g : World → World) → Gives r o →
      length o.next.windows ≡ length wd.sides →
      (o.answer ≡ 0 → Shows (with_player r.player h) (W.with_player o.next wd) →
      Shows (f (with_player r.player h)) (g (W.with_player o.next wd))) →
      Shows (called r f h) (called_then o g wd).world
  shows-called r o f g k n more = rw k.answer (by (eqb o.answer 0) refl)
    where
      by : (b : Bool) → eqb o.answer 0 ≡ b →
          Shows (cond b (f (with_player r.player h)) (with_player r.player h))
          (cond b (g (W.with_player o.next wd)) (W.with_player o.next wd))
      by true e = more (eqb-true _ _ e) (shows-player is r.player o.next k.next n)
      by false e = shows-player is r.player o.next k.next n

  -- a change of one window's lines
  pub shows-lines : (w : ℕ) (f : WindowEnd → WindowEnd) (g : Side → Side) → ((p : Side) → f (end_of p) ≡ end_of (g p)) →
      ((p : Side) → (g p).view ≡ p.view) → Shows (changed w f h) (with_side w (g (side_at w wd)) wd)
  shows-lines w f g same views =
      let p : Side = side_at w wd in
      shows-side is w _ (g p) (ap f (shows-end is w) ∙ same p) (views p)

module _ {h : Host} {wd : World} (is : Shows h wd) where
  -- a call, and where it is answered 0 that change after it
  pub shows-changed : (w : ℕ) (r : Played) (o : Outcome) (f : WindowEnd → WindowEnd) (g : Side → Side) → Gives r o →
      length o.next.windows ≡ length wd.sides → (o.answer ≡ 0 → (p : Side) → f (end_of p) ≡ end_of (g p)) →
      ((p : Side) → (g p).view ≡ p.view) →
      Shows (called r (changed w f) h) (called_then o (λ wd'. with_side w (g (side_at w wd')) wd') wd).world
  shows-changed w r o f g k n same views =
      shows-called is r o (changed w f) (λ wd'. with_side w (g (side_at w wd')) wd') k n (λ z is'. shows-lines is' w f g (same z) views)
