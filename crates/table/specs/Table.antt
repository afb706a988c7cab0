-- The proved table of document 01, together as one theorem about the rules. The paper's words stand beside each row, and a row holds of any
-- player and any record of which they are true.
use Rattle.std.specs.Prelude.{ℕ, ◌+◌, ◌-◌, ◌≤◌, ◌≡◌, List, [], ◌∷◌, ◌++◌, true, false, length, take, drop}
use Rattle.lists.specs.Answer.{answer}
use Rattle.record.specs.declared.Record.{Record}
use Rattle.record.specs.Record.{Outcome, take_numbers, may_stamp}
use Rattle.record.proofs.Races.{race_at}
use Rattle.rules.specs.View.{normal, fetching, WindowView, PlayerView}
use Rattle.rules.specs.Shape.{shape}
use Rattle.rules.specs.Window.{joined}
use Rattle.rules.specs.Rules.{window_at, main_rule, join_rule, send_rule, batch_at}
use Rattle.rules.proofs.Offers.{ready_of}
use Rattle.journal_text.specs.Text.{header}
use Rattle.journal_text.specs.Answers.{Current}
use Rattle.journal_text.proofs.AnswerLaws.{Reads}
use Rattle.table.specs.Run.{RunA, StageA}
use Rattle.table.specs.States.{OneMore, EightOut, MoreReady, Away, CanTake, OpenUntil, StillClosed}

pub record ProvedTable : Type 0 where
  -- (a) The run above.
  pub a : (before : PlayerView) → RunA before
  -- and so by the stage's own steps
  pub a-stage : StageA
  -- (b) Empty journal: Main gives 4.
  pub b : (i : ℕ) (p : PlayerView) → shape [] p ≡ true → (main_rule [] i p).answer ≡ 4
  -- (c) 128 queued, one more Main entry: Fetching. The 128 are then in the catch-up queue.
  pub c : (ns : List ℕ) (p : PlayerView) (w : ℕ) → OneMore ns p w 128 →
      let i : ℕ = p.current + 1 in
      let after : WindowView = window_at w (main_rule ns i p).next in
      (after.condition ≡ fetching i i) × (after.catch_queue ≡ (window_at w p).normal_queue) × (after.normal_queue ≡ [])
  -- (d) 127 queued, one more: Normal.
  pub d : (ns : List ℕ) (p : PlayerView) (w : ℕ) → OneMore ns p w 127 →
      let i : ℕ = p.current + 1 in
      let after : WindowView = window_at w (main_rule ns i p).next in
      (after.condition ≡ normal) × (after.normal_queue ≡ (window_at w p).normal_queue ++ (i ∷ []))
  -- (e) Eight batches out, line free: Send 9.
  pub e : (ns : List ℕ) (p : PlayerView) (w size : ℕ) → EightOut ns p w → (send_rule ns w size p).answer ≡ 9
  -- (f) Limit 32 with 33 ready: 32 go. They are the first, and the rest stays ready.
  pub f : (ns : List ℕ) (p : PlayerView) (w size : ℕ) → MoreReady ns p w size →
      ((send_rule ns w size p).answer ≡ 0)
      × (batch_at w p ≡ take 32 (ready_of (window_at w p)))
      × (length (batch_at w p) ≡ 32)
      × (ready_of (window_at w (send_rule ns w size p).next) ≡ drop 32 (ready_of (window_at w p)))
  -- (g) Report equal to sent: joined; sent + 1: 13. A report is joined if it is not below acknowledged.
  pub g : (ns : List ℕ) (p : PlayerView) (w : ℕ) → Away ns p w →
      let v : WindowView = window_at w p in
      (v.acked ≤ v.sent →
      ((join_rule ns w v.sent p).answer ≡ 0) × (window_at w (join_rule ns w v.sent p).next ≡ joined p.current v.sent v))
      × ((join_rule ns w (v.sent + 1) p).answer ≡ 13)
  -- (h) Second 50,399 with off 50,400: stamped; 50,400: not. A POST of 50,400 to an open race of any record gives it that off.
  pub h : (r : Record) (race : ℕ) → CanTake r race 1 → (race_at r (race - 1)).closed ≡ false → (index set : ℕ) →
      let posted : Outcome = take_numbers (index ∷ set ∷ 1 ∷ race ∷ 50400 ∷ []) r in
      (posted.number ≡ 0) × (may_stamp posted.record' race 50399 ≡ true) × (may_stamp posted.record' race 50400 ≡ false)
  -- and with any off second but 0
  pub h-any : (r : Record) (race s : ℕ) → OpenUntil r race (s + 1) → (may_stamp r race s ≡ true) × (may_stamp r race (s + 1) ≡ false)
  -- (i) Header alone: no entries; no bytes: 16 at 0. The output is as it was.
  pub i : (out : List ℕ) → Reads Current header out (answer 0 (0 ∷ [])) out × Reads Current [] out (answer 16 (0 ∷ [])) out
  -- (j) POST after CLOSE: still closed, in any record.
  pub j : (r : Record) (race : ℕ) → CanTake r race 2 → (index set value index' set' value' : ℕ) →
      let close : Outcome = take_numbers (index ∷ set ∷ 3 ∷ race ∷ value ∷ []) r in
      let post : Outcome = take_numbers (index' ∷ set' ∷ 1 ∷ race ∷ value' ∷ []) close.record' in
      (close.number ≡ 0) × (post.number ≡ 0) × StillClosed race r post.record'
  -- and in any race that is closed; no race changes
  pub j-any : (r : Record) (index set race value : ℕ) → (race_at r (race - 1)).closed ≡ true →
      let after : Record = (take_numbers (index ∷ set ∷ 1 ∷ race ∷ value ∷ []) r).record' in
      StillClosed race r after × (after.races ≡ r.races)
