-- A step that is answered before the player is asked: the stage is as it was.
use Rattle.std.specs.Prelude.{ℕ, ◌≤◌, ◌≡◌, refl, List, Bool, true, false, cond, ◌&&◌, length, leb, ltb, Option, Some, None}
use Rattle.std.proofs.Common.{sym, ap, ◌∙◌, true≢false, eqb-true, leb-true}
use Rattle.std.proofs.lemmas.Bool.{false≢true}
use Rattle.journal.specs.Entry.{in_shape, entries_of}
use Rattle.script_line.specs.declared.Step.{Step}
use Rattle.script_line.specs.declared.Step.TheVariants.{Main, At}
use Rattle.script_line.specs.declared.Verb.TheVariants.{Catch, Send, Written, Ack, Drop, Join, Take}
use Rattle.script.specs.declared.slot.Slot.{Slot}
use Rattle.script.specs.declared.Stage.{Stage}
use Rattle.script.specs.declared.Reply.{Reply}
use Rattle.script.specs.declared.Reply.TheVariants.{Answered, Empty}
use Rattle.script.specs.Stage.{window_of}
use Rattle.script.specs.Promise.{playable, Steps, Plays}
use Rattle.script.specs.Stored.{slot_in, has_room, lacks, early_at}
use Rattle.script.proofs.Worlds.{Staged}
use Rattle.script.proofs.Calls.{playable-facts}
use Rattle.script.proofs.Settled.{take-nothing, ack-nothing}

-- a reply with which the stage is as it was
pub plays-still : (ns : List ℕ) (s : Stage) (st : Step) (y : Reply) → length s.records ≡ 16 → length s.lines ≡ 16 →
    (playable ns s st ≡ true → Steps (entries_of ns) s st (record { reply = y; stage = s })) → (playable ns s st ≡ false → y ≡ Answered 1) →
    Plays ns s st (record { reply = y; stage = s })
plays-still ns s st y records lines played stuck = record {
  played = played;
  stuck = λ h. ap (λ y. record { reply = y; stage = s }) (stuck h);
  refused = λ h. refl;
  above = record { windows = refl; records = refl; lines = refl };
  records = records;
  lines = lines;
}

-- a Take or an Ack where the line is empty
nothing-steps : (ns : List ℕ) (s : Stage) → Staged s → (st : Step) → lacks (slot_in (window_of st) s) st ≡ true →
    Steps (entries_of ns) s st (record { reply = cond (ltb (window_of st) s.player.count) Empty (Answered 2); stage = s })
nothing-steps ns s h Main e = absurd (false≢true e)
nothing-steps ns s h (At Catch w) e = absurd (false≢true e)
nothing-steps ns s h (At Send w) e = absurd (false≢true e)
nothing-steps ns s h (At Written w) e = absurd (false≢true e)
nothing-steps ns s h (At Ack w) e = ack-nothing (entries_of ns) s h w (eqb-true _ _ e)
nothing-steps ns s h (At Drop w) e = absurd (false≢true e)
nothing-steps ns s h (At Join w) e = absurd (false≢true e)
nothing-steps ns s h (At Take w) e = take-nothing (entries_of ns) s h w (eqb-true _ _ e)

-- a step that goes on: the slot is what the stage has for its window, and it can be played and lacks nothing
pub record GoesOn (ns : List ℕ) (s : Stage) (st : Step) (x : Slot) : Type 0 where
  pub here : x ≡ slot_in (window_of st) s
  pub held : Staged s
  pub can : playable ns s st ≡ true
  pub has : lacks x st ≡ false

module _ (ns : List ℕ) (s : Stage) (st : Step) (x : Slot) (w : ℕ) (at : w ≡ window_of st) (slot : s.player.count ≤ 16 → x ≡ slot_in w s)
    (records : length s.records ≡ 16) (lines : length s.lines ≡ 16) where
  here : s.player.count ≤ 16 → x ≡ slot_in (window_of st) s
  here few = rw (← at) (slot few)

  abbrev test : Bool
  test = in_shape ns && (leb s.player.count 16 && has_room x)

  -- what is tested is whether the step can be played
  test-playable : test ≡ playable ns s st
  test-playable = by (leb s.player.count 16) refl
    where
      by : (b : Bool) → leb s.player.count 16 ≡ b →
          (in_shape ns && (b && has_room x)) ≡ (in_shape ns && (b && has_room (slot_in (window_of st) s)))
      by true e = ap (λ y. in_shape ns && has_room y) (here (leb-true _ _ e))
      by false e = refl

  -- a stage that can be played is one that code holds, and its slot is the step's
  goes-on : lacks x st ≡ false → playable ns s st ≡ true → GoesOn ns s st x
  goes-on has can =
      let few = (playable-facts ns s st can).room.few in
      record { here = here few; held = record { few = few; records = records; lines = lines }; can = can; has = has }

  pub early-none : {e : Option Reply} → e ≡ early_at ns s.player.count x st → e ≡ None → GoesOn ns s st x
  early-none is none = by test refl (lacks x st) refl (sym is ∙ none)
    where
      by : (a : Bool) → test ≡ a → (b : Bool) → lacks x st ≡ b →
          cond a (cond b (Some (cond x.there Empty (Answered 2))) None) (Some (Answered 1)) ≡ None → GoesOn ns s st x
      by true p true q e = cc
      by true p false q e = goes-on q (sym test-playable ∙ p)
      by false p b q e = cc

  pub early-plays : {y : Reply} {e : Option Reply} → e ≡ early_at ns s.player.count x st → e ≡ Some y →
      Plays ns s st (record { reply = y; stage = s })
  early-plays {y} is answer = by test refl (lacks x st) refl (sym is ∙ answer)
    where
      by : (a : Bool) → test ≡ a → (b : Bool) → lacks x st ≡ b →
          cond a (cond b (Some (cond x.there Empty (Answered 2))) None) (Some (Answered 1)) ≡ Some y →
          Plays ns s st (record { reply = y; stage = s })
      by true p true q e =
          let can = sym test-playable ∙ p in
          let few = (playable-facts ns s st can).room.few in
          let is : y ≡ cond x.there Empty (Answered 2) = cc in
          plays-still ns s st y records lines
          (λ h. rw (is, here few)
          (nothing-steps ns s (record { few = few; records = records; lines = lines }) st (ap (λ x. lacks x st) (sym (here few)) ∙ q)))
          (λ h. absurd (true≢false (sym can ∙ h)))
      by true p false q e = cc
      by false p b q e =
          plays-still ns s st y records lines (λ h. absurd (true≢false (sym h ∙ sym test-playable ∙ p))) (λ h. cc)
