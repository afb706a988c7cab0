-- The step Take: the front entry goes off the line, and the last of a batch puts an ack on the way back.
use Rattle.std.specs.Prelude.{ℕ, ◌<◌, ◌≡◌, refl, List, [], ◌∷◌, ◌++◌, map, Bool, true, false, cond, length, get_or, drop}
use Rattle.std.proofs.Common.{sym, ap, ap₂, ◌∙◌, arith, lt-ltb}
use Rattle.std.proofs.lemmas.List.{map-append, set-get_or}
use Rattle.journal.specs.declared.Entry.{Entry}
use Rattle.journal.specs.Entry.{five_of}
use Rattle.record.specs.declared.Record.{Record}
use Rattle.record.specs.Record.{take_numbers}
use Rattle.rules.specs.View.{WindowView, PlayerView, no_window}
use Rattle.rules.specs.Rules.{window_at, with_window}
use Rattle.player.specs.declared.Player.{Player}
use Rattle.player.specs.View.{player_of}
use Rattle.delivery.specs.World.{World, side_at, with_side, take_front, answered, take_at_line}
use Rattle.delivery.specs.World as W
use Rattle.delivery.proofs.Offers.{with_windows}
use Rattle.script_line.specs.declared.Step.TheVariants.{At}
use Rattle.script_line.specs.declared.Verb.TheVariants.{Take}
use Rattle.script.specs.declared.line.Sent.{Sent}
use Rattle.script.specs.declared.line.Ack.{Ack}
use Rattle.script.specs.declared.line.Line.{Line}
use Rattle.script.specs.declared.slot.Slot.{Slot}
use Rattle.script.specs.declared.settle.Settled.{Settled}
use Rattle.script.specs.declared.Stage.{Stage}
use Rattle.script.specs.Line.{placed_of, no_sent, world_sent, world_ack, sent_in, acks_in, ack_for, TakenOff, sent_in-first}
use Rattle.script.specs.Stage.{side_of, world_of, forget, reply_of, line_in}
use Rattle.script.specs.Promise.{Steps}
use Rattle.script.specs.Stored.{slot_in, Takes, stored_by}
use Rattle.script.proofs.Worlds.{world_of-count, world_of-forgets, Staged, world_of-side, world_of-placed}
use Rattle.script.proofs.Calls.{steps-as}
use Rattle.script.proofs.Settled.{line_in-within, line-here}

-- the window that is there changes nothing
window_same : (w : ℕ) (p : PlayerView) → p ≡ with_window w (window_at w p) p
window_same w p = sym (ap (with_windows p) (set-get_or p.windows w no_window))

-- the acks once an entry is taken
world_ack-taken : (x : Sent) (acks : List Ack) (b : Bool) →
    map world_ack (cond b (acks ++ (ack_for x ∷ [])) acks) ≡ cond b (map world_ack acks ++ (world_ack (ack_for x) ∷ [])) (map world_ack acks)
world_ack-taken x acks true = map-append world_ack acks (ack_for x ∷ [])
world_ack-taken x acks false = refl

-- a window's side once its front entry is taken
side_of-taken : (v : WindowView) (x : Slot) (own : Record) (l : Line) (sent : Sent) (rest : List Sent) →
    sent_in x.line.entries ≡ sent ∷ rest →
    own ≡ (take_numbers (five_of (placed_of sent.numbers)) x.record).record' → TakenOff x.line sent l →
    side_of v own l ≡ forget (take_front false (world_sent sent) (map world_sent rest) (side_of v x.record x.line))
unfolding take_front
side_of-taken v x own l sent rest front o off =
    ap₂ (λ a b. record { view = v; record' = own; line = a; back = b; taken = [] })
    (ap (map world_sent) (off.entries ∙ ap (drop 1) front))
    (ap (map world_ack) off.acks ∙ world_ack-taken sent (acks_in x.line.acks) sent.ends)
    ∙ ap (λ r. record {
      view = v;
      record' = r;
      line = map world_sent rest;
      back = cond sent.ends (map world_ack (acks_in x.line.acks) ++ (world_ack (ack_for sent) ∷ []))
          (map world_ack (acks_in x.line.acks));
      taken = [];
    }) o

pub take_steps : (j : List Entry) (s : Stage) → Staged s → (w : ℕ) (p : Player) (r : Settled) → player_of p ≡ player_of s.player →
    0 < (line_in w s).entries.len → Takes (slot_in w s) r → Steps j s (At Take w) (stored_by s w p r)
unfolding W.step_by
take_steps j s h w p r same some k =
    let wd : World = world_of j s in
    let v : WindowView = window_at w (player_of s.player) in
    let sent : Sent = get_or (line_in w s).entries.cells 0 no_sent in
    let rest : List Sent = drop 1 (sent_in (line_in w s).entries) in
    let front : sent_in (line_in w s).entries ≡ sent ∷ rest = sent_in-first (line_in w s).entries sent some refl in
    let within : w < s.player.count = line_in-within s w (λ l. l.entries.len) refl some in
    let there : w < length wd.sides = omega (arith, world_of-count j s) in
    let after : W.Side → W.Side = take_front false (world_sent sent) (map world_sent rest) in
    let own = world_of-side j s h w in
    steps-as j s (At Take w) (take_at_line w false (map world_sent (sent ∷ rest)) wd) (stored_by s w p r)
    (simp (lt-ltb w (length wd.sides) there) (ap (λ b. take_at_line w false b wd) (line-here j s h w ∙ ap (map world_sent) front)))
    (ap reply_of k.reply ∙ ap (λ p. answered (take_numbers (five_of (placed_of sent.numbers)) p.record').number) (sym own))
    (world_of-placed j s h w p v r.record r.line (same ∙ window_same w (player_of s.player))
    ∙ ap (λ p. with_side w p wd)
    (side_of-taken v (slot_in w s) r.record r.line sent rest front k.own k.line ∙ ap (λ p. forget (after p)) (sym own))
    ∙ sym (world_of-forgets j s w (after (side_at w wd))))
