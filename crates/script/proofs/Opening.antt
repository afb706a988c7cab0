-- Laws of what opening a stage gives.
use Prim.Native.Nat.{ℕ, zero, suc, ◌≤◌, ◌<◌}
use Rattle.std.specs.Prelude.{◌≡◌, Bool, not, ◌&&◌, length, take, replicate}
use Rattle.std.specs.Prelude.{Ok, Err}
use Rattle.std.specs.Result.{is_ok}
use Rattle.std.proofs.Math.Path.{refl, ap}
use Rattle.std.proofs.Common.{sym, ap₂, ◌∙◌, arith}
use mathlib.Core.List.{List, [], ◌∷◌, map}
use Rattle.std.proofs.Math.Bool.{true, false, cond}
use borrow.Author.Tests.{eqb-true, eqb-false, ne_eqb, lt-leb}
use Rattle.std.proofs.lemmas.List.{take-replicate, length-replicate}
use Rattle.std.proofs.Math.Dec.{eqb, leb}
use Rattle.lists.specs.All.{all}
use Rattle.lists.specs.Cases.{and_left}
use Rattle.lists.specs.Cells.{front}
use Rattle.journal.specs.declared.Entry.{Entry}
use Rattle.journal.specs.Entry.{count_of, in_shape, entries_of}
use Rattle.journal.specs.EntryLaws.{numbers_of-entries_of}
use Rattle.record.specs.Record.{new_record}
use Rattle.rules.specs.declared.Settings.{Settings}
use Rattle.rules.specs.View.{WindowView, PlayerView}
use Rattle.rules.specs.Shape.{limit_fits, spacing_fits}
use Rattle.rules.specs.Rules.{Outcome, refuse, said, is_start_report, first_fits, start_fits, start_rule}
use Rattle.rules.proofs.Offers.{start_next, start_next-count, start_rule-done}
use Rattle.window.specs.Promise.{Answer, number_of}
use Rattle.window.proofs.Refused.{refused-not-0}
use Rattle.player.specs.declared.Player.{Player}
use Rattle.player.specs.declared.Played.{Played}
use Rattle.player.specs.View.{player_of}
use Rattle.player.specs.Promise.{fresh_player, blank_player, Starts}
use Rattle.operations.specs.Starting.{fresh_player-shown}
use Rattle.delivery.specs.World.{Side, new_side, opened}
use Rattle.delivery.specs.Statement.{first_start, first_world}
use Rattle.queue.specs.Items.{items_in}
use Rattle.script.specs.Line.{fresh_line}
use Rattle.script.specs.Stage.{sides_of, world_with, world_of, forget, forgotten}
use Rattle.script.specs.Opening.{around_player, run_settings, opening_answer, opened_by}

-- ------------------------------------------------------------------------
-- sides_of

-- new records and empty lines
sides_of-new : (n : ℕ) (vs : List WindowView) → length vs ≤ n → sides_of vs (replicate n new_record) (replicate n fresh_line) ≡ map new_side vs
unfolding sides_of items_in front
sides_of-new n [] h = refl
sides_of-new zero (v ∷ vs) h = absurd (omega arith)
sides_of-new (suc n) (v ∷ vs) h = ap (λ ps. new_side v ∷ ps) (sides_of-new n vs (omega arith))

-- new sides have no history
new_side-forget : (vs : List WindowView) → map forget (map new_side vs) ≡ map new_side vs
new_side-forget [] = refl
new_side-forget (v ∷ vs) = ap (λ ps. new_side v ∷ ps) (new_side-forget vs)

-- ------------------------------------------------------------------------
-- start_rule

module _ (ns : List ℕ) (count : ℕ) (settings : Settings) (reports : List ℕ) where
  abbrev begun : Outcome
  begun = record { answer = 0; next = start_next (count_of ns) settings reports }

  abbrev wrong_report : Bool
  wrong_report = not (all (is_start_report (count_of ns)) (said settings.silent reports))

  -- what the player held before is not read
  start_rule-answer : (p q : PlayerView) → (start_rule ns count settings reports p).answer ≡ (start_rule ns count settings reports q).answer
  unfolding start_rule
  start_rule-answer p q = go begun (not (start_fits ns count settings reports)) (not (spacing_fits settings.spacing)) wrong_report
    where
      go : (o : Outcome) (a b c : Bool) →
          (cond a (refuse 1 p) (cond b (refuse 18 p) (cond c (refuse 13 p) o))).answer
          ≡ (cond a (refuse 1 q) (cond b (refuse 18 q) (cond c (refuse 13 q) o))).answer
      go o true b c = refl
      go o false true c = refl
      go o false false true = refl
      go o false false false = refl

  -- more windows than 16 are refused
  start_rule-over : (p : PlayerView) → 16 < count → start_rule ns count settings reports p ≡ refuse 1 p
  unfolding start_rule
  start_rule-over p h = go (leb 1 count)
    where
      go : (b : Bool) →
          cond (not ((b && leb count 16)
          && (limit_fits settings.limit && (first_fits settings.first && (in_shape ns && eqb (length reports) count)))))
          (refuse 1 p)
          (cond (not (spacing_fits settings.spacing)) (refuse 18 p) (cond wrong_report (refuse 13 p) begun))
          ≡ refuse 1 p
      go true = rw (lt-leb count 16 h)
      go false = refl

-- ------------------------------------------------------------------------
-- opened_by

-- the reports of so many windows, as many as there are
pub reports-count : (n : ℕ) → n ≤ 16 → n ≡ length (take {A = ℕ} n (replicate 16 0))
reports-count n h = sym (ap length (take-replicate n 16 0 h) ∙ length-replicate n 0)

module _ (ns : List ℕ) (count : ℕ) where
  abbrev zeros : List ℕ
  zeros = replicate count 0

  -- more windows than 16
  answer-over : 16 < count → opening_answer ns count ≡ 1
  unfolding opening_answer
  answer-over h = ap (λ o. o.answer) (start_rule-over ns count run_settings zeros (player_of blank_player) h)

  pub opened_by-over : (p : Player) → p ≡ blank_player → 16 < count → record { ok = false; stage = around_player p } ≡ opened_by ns count
  opened_by-over p b h = rw (answer-over h, b)

  -- a stage is open where Start's number is 0
  is_ok-number : (a : Answer) → is_ok a ≡ eqb (number_of a) 0
  is_ok-number (Ok x) = refl
  is_ok-number (Err e) = sym (ne_eqb _ 0 (refused-not-0 e))

  -- by what Start gives
  pub opened_by-start : (p : Player) → p ≡ blank_player → (r : Played) (reports : List ℕ) → count ≤ 16 →
      reports ≡ take {A = ℕ} count (replicate 16 0) →
      Starts p (count_of ns) count run_settings reports r (start_rule ns count run_settings reports (player_of p)) →
      record { ok = is_ok r.answer; stage = around_player r.player } ≡ opened_by ns count
  unfolding opening_answer
  opened_by-start p b r reports h e k =
      rw (is_ok-number r.answer, sym answer)
      (ap (λ q. record { ok = eqb (number_of r.answer) 0; stage = around_player q }) (by (eqb (number_of r.answer) 0) refl))
    where
      told : reports ≡ zeros
      told = e ∙ take-replicate count 16 0 h

      answer : number_of r.answer ≡ opening_answer ns count
      answer = k.answer ∙ ap₂ (λ x q. (start_rule ns count run_settings x (player_of q)).answer) told b

      by : (ok : Bool) → eqb (number_of r.answer) 0 ≡ ok →
          r.player ≡ cond ok (fresh_player (count_of ns) count run_settings zeros) blank_player
      by true z = k.fresh (sym k.answer ∙ eqb-true _ _ z) ∙ ap (fresh_player (count_of ns) count run_settings) told
      by false z = k.unchanged (λ n. eqb-false _ _ z (k.answer ∙ n)) ∙ b

  -- ------------------------------------------------------------------------
  -- an opened stage

  module _ (before : PlayerView) (ok : (opened_by ns count).ok ≡ true) where
    first-answer : (start_rule ns count run_settings zeros before).answer ≡ 0
    unfolding opening_answer
    first-answer = start_rule-answer ns count run_settings zeros before (player_of blank_player) ∙ eqb-true _ _ ok

    pub opened_by-journal : in_shape ns ≡ true
    opened_by-journal = (start_rule-done ns count run_settings zeros before first-answer).given.journal

    numbers : first_start before (entries_of ns) count run_settings ≡ start_rule ns count run_settings zeros before
    numbers =
        ap (λ x. start_rule x count run_settings zeros before) (numbers_of-entries_of ns (eqb-true _ _ (and_left _ _ opened_by-journal)))

    -- it is a first Start of demand 3, answered 0
    pub opened_by-done : (first_start before (entries_of ns) count run_settings).answer ≡ 0
    opened_by-done = ap (λ o. o.answer) numbers ∙ first-answer

    -- A result to be read: the stage shows the world after that Start, but for the history, whatever a player held before
    pub opened_by-world : world_of (entries_of ns) (opened_by ns count).stage
        ≡ forgotten (first_world before (entries_of ns) count run_settings)
    unfolding world_of opened forgotten
    opened_by-world =
        let j : List Entry = entries_of ns in
        let l : ℕ = count_of ns in
        let next : PlayerView = start_next l run_settings zeros in
        let d = start_rule-done ns count run_settings zeros before first-answer in
        let around : PlayerView → List Side = λ q. sides_of q.windows (replicate 16 new_record) (replicate 16 fresh_line) in
        rw ok
        (ap (λ q. world_with j q (around q)) (fresh_player-shown l count run_settings zeros d.given.each)
        ∙ ap (world_with j next)
        (sides_of-new 16 next.windows (omega (arith, start_next-count l run_settings zeros, d.given.each, d.given.most)))
        ∙ ap (λ q. world_with j q (map new_side q.windows)) (sym (ap (λ o. o.next) numbers ∙ d.next))
        ∙ ap (world_with j (first_start before j count run_settings).next)
        (sym (new_side-forget (first_start before j count run_settings).next.windows)))
