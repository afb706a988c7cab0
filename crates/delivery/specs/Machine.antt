-- A player as the world sees it, whichever player it is: what each of its operations makes of what it holds, and the batch that a Send
-- answered 0 writes. The large player, of document 01, is one.
use Rattle.std.specs.Prelude.{ℕ, List}
use Rattle.rules.specs.declared.Settings.{Settings}
use Rattle.rules.specs.declared.Term.{Term}
use Rattle.rules.specs.View.{PlayerView}
use Rattle.rules.specs.Rules.{Outcome, main_rule, catch_rule, written_rule, ack_rule, drop_rule, join_rule, send_rule, batch_at, start_rule}

-- each rule takes the journal as numbers first and the player last, and between them what the operation takes; a Send the output's length
pub record Machine : Type 0 where
  pub start : List ℕ → (count : ℕ) → Settings → (reports : List ℕ) → PlayerView → Outcome
  pub main : List ℕ → (index : ℕ) → PlayerView → Outcome
  pub catch : List ℕ → (w : ℕ) → Term → (index : ℕ) → PlayerView → Outcome
  pub send : List ℕ → (w size : ℕ) → PlayerView → Outcome
  pub batch : List ℕ → (w : ℕ) → PlayerView → List ℕ
  pub written : List ℕ → (w : ℕ) → Term → PlayerView → Outcome
  pub ack : List ℕ → (w : ℕ) → Term → (index : ℕ) → PlayerView → Outcome
  pub drop : List ℕ → (w : ℕ) → PlayerView → Outcome
  pub join : List ℕ → (w report : ℕ) → PlayerView → Outcome

-- the player of document 01
abbrev pub large : Machine
large = record {
  start = start_rule;
  main = main_rule;
  catch = catch_rule;
  send = send_rule;
  batch = λ ns w p. batch_at w p;
  written = written_rule;
  ack = ack_rule;
  drop = drop_rule;
  join = join_rule;
}
