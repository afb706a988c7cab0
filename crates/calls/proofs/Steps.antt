-- Each call is a step of the world that its host shows: the calls that change no line.
use Rattle.std.specs.Prelude.{ℕ, ◌<◌, ◌≡◌, List, [], ◌∷◌, ◌++◌, eqb}
use Rattle.std.proofs.Math.Path.{refl, sym, ap}
use Rattle.std.proofs.Common.{◌∙◌, ⊎_elim, lt-ltb, length-set}
use Rattle.std.proofs.Math.ListN.{length}
use Rattle.lists.specs.Cases.{eq-or-ne}
use Rattle.journal.specs.declared.Entry.{Entry}
use Rattle.journal.specs.declared.Index.{Index}
use Rattle.journal.specs.Entry.{numbers_of}
use Rattle.journal.specs.EntryLaws.{numbers_of-append}
use Rattle.rules.specs.declared.Term.{Term}
use Rattle.rules.specs.View.{PlayerView}
use Rattle.rules.specs.Rules.{Outcome, main_rule, catch_rule, written_rule, ack_rule, drop_rule}
use Rattle.rules.proofs.Offers.{Effect, LawfulRule, main_rule-count, catch_rule-lawful, written_rule-lawful, ack_rule-lawful, drop_rule-lawful}
use Rattle.player.specs.declared.Played.{Played}
use Rattle.delivery.specs.World.{World, numbers_in, player_in, step}
use Rattle.delivery.specs.World as W
use Rattle.delivery.specs.Sorts as Delivery
use Rattle.delivery.proofs.Offers.{count-in, windows-in}
use Rattle.calls.specs.Host.{Host, with_player, Call, main, catch, written, late-ack, drop, append, call_step, Made, is_done, done_in, after}
use Rattle.calls.proofs.Shows.{Shows, Gives, shows-late, shows-meets, shows-player}

-- after a call the host shows the world after its step, and both are answered 0 or neither
pub record Follows (c : Call) (h : Host) (wd : World) : Type 0 where
  pub shows : Shows (after c h) (step (call_step c) wd).world
  pub done : Delivery.is_done (step (call_step c) wd).reply ≡ done_in h c

-- ------------------------------------------------------------------------
-- The number of windows

-- an operation on a window leaves as many windows
pub lawful-count : {ns : List ℕ} {w : ℕ} {p : PlayerView} {o : Outcome} {x : Effect} → LawfulRule ns w p o x →
    length o.next.windows ≡ length p.windows
lawful-count {w = w} {p = p} {o = o} law =
    ⊎_elim
    (λ (e : o.answer ≡ 0). ap (λ q. length q.windows) (law.does e).next ∙ length-set p.windows w _)
    (λ (n : o.answer ≡ 0 → ⊥). ap (λ q. length q.windows) (law.refuses n))
    (eq-or-ne o.answer 0)

-- ------------------------------------------------------------------------
-- Main, Catch, Written, a late Ack, Drop

module _ {h : Host} {wd : World} (is : Shows h wd) where
  pub count-sides : {w : ℕ} {o : Outcome} {x : Effect} → LawfulRule (numbers_in wd) w (player_in wd) o x →
      length o.next.windows ≡ length wd.sides
  count-sides law = lawful-count law ∙ windows-in wd

  -- answered 0 in both
  pub answer-same : {r : Played} (o : Outcome) → Gives r o → eqb o.answer 0 ≡ is_done r
  answer-same o k = ap (λ n. eqb n 0) (sym k.answer)

  -- a call of the player alone, by its rule
  called-follows : (c : Call) (r : Played) (o : Outcome) → Gives r o → length o.next.windows ≡ length wd.sides →
      after c h ≡ with_player r.player h → done_in h c ≡ is_done r → step (call_step c) wd ≡ W.called o wd → Follows c h wd
  called-follows c r o k n host done same = record {
    shows = rw (host, same) (shows-player is r.player o.next k.next n);
    done = ap (λ x. Delivery.is_done x.reply) same ∙ answer-same o k ∙ sym done;
  }

  pub follows-main : (i : Index) (r : Played) → Made h (main i r) → Follows (main i r) h wd
  unfolding W.step_by after
  follows-main i r made =
      called-follows (main i r) r _ (shows-meets is (λ ns p. main_rule ns i.0 p) made)
      (main_rule-count (numbers_in wd) i.0 (player_in wd) ∙ windows-in wd) refl refl refl

  pub follows-catch : (w : ℕ) (t : Term) (i : Index) (r : Played) → Made h (catch w t i r) → Follows (catch w t i r) h wd
  unfolding W.step_by after
  follows-catch w t i r made =
      called-follows (catch w t i r) r _ (shows-meets is (λ ns p. catch_rule ns w t i.0 p) made)
      (count-sides (catch_rule-lawful (numbers_in wd) w t i.0 (player_in wd))) refl refl refl

  pub follows-written : (w : ℕ) (t : Term) (r : Played) → Made h (written w t r) → Follows (written w t r) h wd
  unfolding W.step_by after
  follows-written w t r made =
      called-follows (written w t r) r _ (shows-meets is (λ ns p. written_rule ns w t p) made)
      (count-sides (written_rule-lawful (numbers_in wd) w t (player_in wd))) refl refl refl

  pub follows-late : (w : ℕ) (t : Term) (i : Index) (r : Played) → Made h (late-ack w t i r) → Follows (late-ack w t i r) h wd
  unfolding W.step_by after
  follows-late w t i r (late, made) =
      called-follows (late-ack w t i r) r _ (shows-meets is (λ ns p. ack_rule ns w t i.0 p) made)
      (count-sides (ack_rule-lawful (numbers_in wd) w t i.0 (player_in wd))) refl refl (rw (sym (shows-late is w t) ∙ late))

  pub follows-drop : (w : ℕ) (r : Played) → Made h (drop w r) → Follows (drop w r) h wd
  unfolding W.step_by after
  follows-drop w r made =
      called-follows (drop w r) r _ (shows-meets is (λ ns p. drop_rule ns w p) made)
      (count-sides (drop_rule-lawful (numbers_in wd) w (player_in wd))) refl refl refl

  -- ------------------------------------------------------------------------
  -- An append

  pub follows-append : (e : Entry) → Made h (append e) → Follows (append e) h wd
  unfolding W.step_by after
  follows-append e made =
      let room : length wd.journal < 65535 = rw (is.journal, count-in wd) at made in
      record {
        shows =
            rw (lt-ltb (length wd.journal) 65535 room)
            (record {
              player = is.player;
              journal = ap (λ ns. ns ++ numbers_of (e ∷ [])) is.journal ∙ sym (numbers_of-append wd.journal e);
              windows = is.windows;
              greatest = is.greatest;
            });
        done = rw (lt-ltb (length wd.journal) 65535 room);
      }
