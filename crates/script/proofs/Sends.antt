-- The step Send: the numbers that it wrote are those of the entries that the world puts on the line.
use Rattle.std.specs.Prelude.{ℕ, ◌≤◌, ◌≡◌, refl, List, [], ◌∷◌, ◌++◌, map, true, false, length, drop, replicate, leb}
use Rattle.std.proofs.Common.{sym, ap₂, ◌∙◌, true≢false, arith, eq-eqb, ne_eqb, leb-true}
use Rattle.std.proofs.Math.Path.{ap}
use Rattle.std.proofs.lemmas.List.{map-append}
use Rattle.journal.specs.declared.Entry.{Entry}
use Rattle.lists.specs.Cases.{and_left, and_right}
use Rattle.journal.specs.Entry.{in_shape, count_of, entries_of}
use Rattle.lists.specs.All.{all, queued_in}
use Rattle.rules.specs.declared.Term.{Term}
use Rattle.rules.specs.View.{PlayerView}
use Rattle.rules.specs.Shape.{is_empty}
use Rattle.rules.proofs.Offers.{shaped, batch_of-most, batch_of-queued, sent_for-index, send_rule-done}
use Rattle.rules.specs.Rules.{window_at, send_rule, sent_for, batch_numbers, batch_at, send_output}
use Rattle.player.specs.declared.Played.{Played}
use Rattle.player.specs.View.{player_of}
use Rattle.player.specs.Promise.{Meets}
use Rattle.window.specs.Promise.{number_of}
use Rattle.delivery.specs.World.{Side, World, side_at, player_in, with_lines, on_line, called_then}
use Rattle.delivery.specs.World as W
use Rattle.script_line.specs.declared.Step.TheVariants.{At}
use Rattle.script_line.specs.declared.Verb.TheVariants.{Send}
use Rattle.script.specs.declared.settle.Settled.{Settled}
use Rattle.script.specs.declared.Stage.{Stage}
use Rattle.script.specs.Line.{world_sent, world_ack, sent_in, acks_in, batch_shown, Grown}
use Rattle.script.specs.Stage.{world_of, step_in, line_in}
use Rattle.script.specs.Promise.{Steps}
use Rattle.script.specs.Stored.{slot_in, outcome_at, output_at, Relined, stored_by}
use Rattle.script.proofs.Worlds.{player_of-count, changed, Staged, world_of-player, world_of-side}
use Rattle.script.proofs.Calls.{rule-here}
use Rattle.script.proofs.Settled.{line-here, back-here, lines-side, turned-steps}

-- ------------------------------------------------------------------------
-- send_output

-- an output of ten numbers that starts with those of a batch of one or two shows that batch
batch-shown : (j : List Entry) (w l : ℕ) (t : Term) (is : List ℕ) → is_empty is ≡ false → length is ≤ 2 → all (queued_in l) is ≡ true →
    map world_sent (batch_shown (batch_numbers j w is ++ drop (length (batch_numbers j w is)) (replicate 10 0)) t) ≡ on_line j w t is
unfolding batch_numbers all on_line
batch-shown j w l t [] some few each = absurd (true≢false some)
batch-shown j w l t (a ∷ []) some few each = refl
batch-shown j w l t (a ∷ b ∷ []) some few each =
    let second = and_left (queued_in l b) _ (and_right (queued_in l a) _ each) in
    let positive = leb-true 1 b (and_left (leb 1 b) _ second) in
    rw (ne_eqb (sent_for j w b).index 0 (λ z. omega (arith, sent_for-index j w b)))
batch-shown j w l t (a ∷ b ∷ c ∷ is) some few each = absurd (omega arith)

-- Send answered 0 has written the numbers of the entries that the world puts on the line
pub send_output-shown : (ns : List ℕ) (w : ℕ) (p : PlayerView) (t : Term) → (send_rule ns w 10 p).answer ≡ 0 →
    map world_sent (batch_shown (send_output ns w (replicate 10 0) p) t) ≡ on_line (entries_of ns) w t (batch_at w p)
unfolding send_output
send_output-shown ns w p t z =
    let d = send_rule-done ns w 10 p z in
    let v = (shaped ns p d.shaped).windows w d.within in
    rw (eq-eqb _ 0 z)
    (batch-shown (entries_of ns) w (count_of ns) t (batch_at w p) d.turn.some
    (omega (arith, batch_of-most p.limit (window_at w p), d.turn.room))
    (batch_of-queued (queued_in (count_of ns)) p.limit (window_at w p) v.normal_in v.catch_in))

-- ------------------------------------------------------------------------
-- Send

module _ (ns : List ℕ) (s : Stage) (h : Staged s) (e : in_shape ns ≡ true) (w : ℕ) where
  abbrev j : List Entry
  j = entries_of ns

  abbrev wd : World
  wd = world_of j s

  abbrev player : PlayerView
  player = player_of s.player

  -- what the world puts on the line
  abbrev batch : List W.Sent
  batch = on_line j w (side_at w wd).view.term (batch_at w (player_in wd))

  abbrev pub with_batch : Side → Side
  with_batch p = with_lines (p.line ++ batch) p.back p

  pub send-calls : W.step (step_in wd (At Send w)) wd
      ≡ called_then (outcome_at ns s.player (slot_in w s) (At Send w)) (changed w with_batch) wd
  unfolding W.step_by world_of
  send-calls = ap (λ o. called_then o (changed w with_batch) wd) (rule-here ns s h e (λ n p. send_rule n w 10 p))

  pub send-steps : (r : Played) (x : Settled) (out : List ℕ) → Meets s.player r (outcome_at ns s.player (slot_in w s) (At Send w)) →
      number_of r.answer ≡ 0 → out ≡ output_at ns s.player (At Send w) →
      Relined (slot_in w s) (Grown (line_in w s) (batch_shown out (window_at w player).term)) x →
      Steps j s (At Send w) (stored_by s w r.player x)
  send-steps r x out k done written own =
      let t : Term = (window_at w player).term in
      let z : (send_rule ns w 10 player).answer ≡ 0 = sym k.answer ∙ done in
      let d = send_rule-done ns w 10 player z in
      let shown : map world_sent (batch_shown out t) ≡ batch
      = ap (λ out. map world_sent (batch_shown out t)) written
      ∙ send_output-shown ns w player t z
      ∙ ap₂ (on_line j w) (sym (ap (λ p. p.view.term) (world_of-side j s h w))) (sym (ap (batch_at w) (world_of-player j s h))) in
      turned-steps j s h (At Send w) w r _ x with_batch (changed w with_batch) (λ y. refl) send-calls k done own.is
      (record {
        within = omega (arith, d.within, player_of-count s.player);
        view = _;
        next = d.next;
        side = lines-side j s h w _ x.line ((side_at w wd).line ++ batch) (side_at w wd).back
            (ap (map world_sent) own.line.entries ∙ map-append world_sent (sent_in (line_in w s).entries) (batch_shown out t)
            ∙ ap₂ ◌++◌ (sym (line-here j s h w)) shown)
            (ap (λ a. map world_ack (acks_in a)) own.line.acks ∙ sym (back-here j s h w));
      })
