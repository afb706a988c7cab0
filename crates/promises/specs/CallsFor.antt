-- For each list of steps there is a list of calls that meet their promises: demand 3 of the calls speaks of as many lists as demand 3 of
-- the steps.
use Rattle.std.specs.Prelude.{ℕ, ◌<◌, ◌≡◌, refl, List, [], ◌∷◌, map, Bool, true, false, ◌&&◌, length}
use Rattle.std.proofs.Common.{sym, ap₂, subst, ◌∙◌, ltb-true}
use Rattle.std.proofs.Math.Logic.{⊎_elim}
use Rattle.std.proofs.lemmas.Bool.{false≢true}
use Rattle.std.proofs.Math.Dec.{ltb}
use Rattle.lists.specs.Cases.{and_left, and_right, eq-or-ne, true-or-false}
use Rattle.journal.specs.declared.Entry.{Entry}
use Rattle.journal.specs.Entry.{count_of}
use Rattle.rules.specs.declared.Settings.{Settings}
use Rattle.rules.specs.declared.Term.{Term}
use Rattle.rules.specs.Rules.{Outcome, start_rule}
use Rattle.rules.proofs.Offers.{start_rule-done, start_rule-refuses}
use Rattle.player.specs.declared.Player.{Player}
use Rattle.player.specs.declared.Played.{Played}
use Rattle.player.specs.View.{player_of}
use Rattle.player.specs.Promise.{fresh_player, Starts}
use Rattle.operations.specs.Starting.{fresh_player-shown}
use Rattle.delivery.specs.World.{World, Step, Reply, answered, empty, unmade, is_new, step}
use Rattle.delivery.specs.World as W
use Rattle.delivery.proofs.Offers.{Reached, count-in, reached-step}
use Rattle.calls.specs.Host.{Host, Call, start, call_step, report_of, is_late, MadeAll, after}
use Rattle.calls.proofs.Shows.{Shows, shows-late}
use Rattle.calls.proofs.Runs.{follows}
use Rattle.calls.specs.Answers.{start-numbered}
use Rattle.calls.proofs.CallFor.{CallFor, call-main, call-catch, call-written, call-send, call-take, call-ack, call-late, call-drop, call-join, call-append}

-- ------------------------------------------------------------------------
-- Start

-- what Start gives
pub record StartGiven (before : Player) (ns : List ℕ) (count : ℕ) (settings : Settings) (reports : List ℕ) : Type 0 where
  pub gave : Played
  pub meets : Starts before (count_of ns) count settings reports gave (start_rule ns count settings reports (player_of before))

-- A result to be read: whatever Start is handed, something can be given that meets its promise.
pub start-given : (before : Player) (ns : List ℕ) (count : ℕ) (settings : Settings) (reports : List ℕ) →
    StartGiven before ns count settings reports
start-given before ns count settings reports =
    let o : Outcome = start_rule ns count settings reports (player_of before) in
    let a = start-numbered ns count settings reports (player_of before) in
    ⊎_elim
    (λ (z : o.answer ≡ 0).
    let d = start_rule-done ns count settings reports (player_of before) z in
    record {
      gave = record { player = fresh_player (count_of ns) count settings reports; answer = a.answer };
      meets = record {
        answer = a.number;
        next = fresh_player-shown (count_of ns) count settings reports d.given.each ∙ sym d.next;
        fresh = λ x. refl;
        unchanged = λ n. absurd (n z);
      };
    })
    (λ (n : o.answer ≡ 0 → ⊥). record {
      gave = record { player = before; answer = a.answer };
      meets = record {
        answer = a.number;
        next = sym (start_rule-refuses ns count settings reports (player_of before) n);
        fresh = λ z. absurd (n z);
        unchanged = λ x. refl;
      };
    })
    (eq-or-ne o.answer 0)

call-start : (h : Host) (settings : Settings) → h.greatest < settings.first.0 → CallFor h (W.start settings)
call-start h settings above =
    let g = start-given h.player h.journal (length h.windows) settings (map report_of h.windows) in
    record { call = start settings g.gave; same = refl; made = (above, g.meets) }

-- ------------------------------------------------------------------------
-- One step

-- a late ack of a term that is not older, a Start whose first term is not above the greatest used, and an append past 65,535 entries are
-- not made
abbrev pub is_made : Reply → Bool
is_made (answered n) = true
is_made empty = true
is_made unmade = false

module _ {h : Host} {wd : World} (is : Shows h wd) where
  late-made : (w : ℕ) (t : Term) (i : ℕ) → is_made (step (W.late-ack w t i) wd).reply ≡ true → is_late w t h ≡ true
  unfolding W.step_by
  late-made w t i made =
      ⊎_elim
      (λ (late : is_late w t h ≡ true). late)
      (λ (soon : is_late w t h ≡ false). absurd (false≢true (rw (sym (shows-late is w t) ∙ soon) at made)))
      (true-or-false (is_late w t h))

  first_above : (settings : Settings) → is_made (step (W.start settings) wd).reply ≡ true → h.greatest < settings.first.0
  unfolding W.step_by
  first_above settings made =
      ⊎_elim
      (λ (new : is_new settings.first wd ≡ true). rw is.greatest (ltb-true _ _ new))
      (λ (used : is_new settings.first wd ≡ false). absurd (false≢true (rw used at made)))
      (true-or-false (is_new settings.first wd))

  append-made : (e : Entry) → is_made (step (W.append e) wd).reply ≡ true → count_of h.journal < 65535
  unfolding W.step_by
  append-made e made =
      ⊎_elim
      (λ (room : ltb (length wd.journal) 65535 ≡ true). rw (is.journal, count-in wd) (ltb-true _ _ room))
      (λ (none : ltb (length wd.journal) 65535 ≡ false). absurd (false≢true (rw none at made)))
      (true-or-false (ltb (length wd.journal) 65535))

  pub call-for : (s : Step) → is_made (step s wd).reply ≡ true → CallFor h s
  call-for (W.main i) made = call-main h i
  call-for (W.catch w t i) made = call-catch h w t i
  call-for (W.written w t) made = call-written h w t
  call-for (W.send w lent) made = call-send h w lent
  call-for (W.take w acks) made = call-take h w acks
  call-for (W.ack w) made = call-ack h w
  call-for (W.late-ack w t i) made = call-late h w t i (late-made w t i made)
  call-for (W.drop w) made = call-drop h w
  call-for (W.join w) made = call-join h w
  call-for (W.start settings) made = call-start h settings (first_above settings made)
  call-for (W.append e) made = call-append h e (append-made e made)

-- ------------------------------------------------------------------------
-- A list of steps

unfoldable pub all_made : World → List Step → Bool
all_made wd [] = true
all_made wd (s ∷ ss) = is_made (step s wd).reply && all_made (step s wd).world ss

pub record CallsFor (h : Host) (ss : List Step) : Type 0 where
  pub calls : List Call
  pub same : map call_step calls ≡ ss
  pub made : MadeAll h calls

-- A result to be read: a list of steps can be made by calls, from any host that shows the world it starts from.
pub calls-for : {h : Host} {wd : World} → Shows h wd → Reached wd → (ss : List Step) → all_made wd ss ≡ true → CallsFor h ss
unfolding all_made
calls-for is r [] made = record { calls = []; same = refl; made = tt }
calls-for {h} {wd} is r (s ∷ ss) made =
    let c = call-for is s (and_left _ _ made) in
    let shows = subst (λ s. Shows (after c.call h) (step s wd).world) c.same (follows is r c.call c.made).shows in
    let rest = calls-for {h = after c.call h} shows (reached-step wd s r) ss (and_right (is_made (step s wd).reply) _ made) in
    record { calls = c.call ∷ rest.calls; same = ap₂ ◌∷◌ c.same rest.same; made = (c.made, rest.made) }
