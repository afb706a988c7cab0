-- What the private functions promise: what a stage has for one window, what a step is answered early, asks of the player, and leaves there.
use Rattle.std.specs.Prelude.{ℕ, ◌+◌, ◌≡◌, List, Bool, true, false, cond, ◌&&◌, get_or, set, replicate, ltb, leb, eqb, Option, Some, None}
use Rattle.journal.specs.declared.Index.{Index}
use Rattle.journal.specs.Entry.{in_shape, five_of}
use Rattle.record.specs.declared.Record.{Record}
use Rattle.record.specs.Record as Taking
use Rattle.record.specs.Record.{new_record, take_numbers}
use Rattle.rules.specs.View.{WindowView}
use Rattle.rules.specs.Rules.{Outcome, window_at, main_rule, catch_rule, send_rule, written_rule, ack_rule, drop_rule, join_rule, send_output}
use Rattle.player.specs.declared.Player.{Player}
use Rattle.player.specs.declared.Played.{Played}
use Rattle.player.specs.View.{player_of}
use Rattle.player.specs.Promise.{Meets}
use Rattle.script_line.specs.declared.Step.{Step}
use Rattle.script_line.specs.declared.Step.TheVariants.{Main, At}
use Rattle.script_line.specs.declared.Verb.TheVariants.{Catch, Send, Written, Ack, Drop, Join, Take}
use Rattle.script.specs.declared.line.Line.{Line}
use Rattle.script.specs.declared.slot.Slot.{Slot}
use Rattle.script.specs.declared.settle.Settled.{Settled}
use Rattle.script.specs.declared.Stage.{Stage}
use Rattle.script.specs.declared.Reply.{Reply}
use Rattle.script.specs.declared.Reply.TheVariants.{Answered, Empty}
use Rattle.script.specs.declared.Stepped.{Stepped}
use Rattle.script.specs.Line.{placed_of, no_sent, no_ack, fresh_line, batch_shown, Grown, TakenOff, AckedOff}
use Rattle.script.specs.Stage.{due_in, record_in, line_in}

-- ------------------------------------------------------------------------
-- What a stage has for one window

-- for a window that is not there, and for one that is
abbrev pub absent : Slot
absent = record {
  there = false;
  term = record { 0 = 0 };
  due = record { 0 = 0 };
  «record» = new_record;
  line = fresh_line;
  ack = no_ack;
}

abbrev pub present : WindowView → Record → Line → Slot
present v r l = record {
  there = true;
  term = v.term;
  due = record { 0 = due_in v.condition };
  «record» = r;
  line = l;
  ack = get_or l.acks.cells 0 no_ack;
}

-- for window w
abbrev pub slot_in : ℕ → Stage → Slot
slot_in w s = record {
  there = ltb w s.player.count;
  term = (window_at w (player_of s.player)).term;
  due = record { 0 = due_in (window_at w (player_of s.player)).condition };
  «record» = record_in w s;
  line = line_in w s;
  ack = get_or (line_in w s).acks.cells 0 no_ack;
}

-- ------------------------------------------------------------------------
-- What a step is answered before the player is asked

abbrev pub has_room : Slot → Bool
has_room x = leb x.line.entries.len 16 && leb x.line.acks.len 8

-- a Take or an Ack for which there is nothing on the line
abbrev pub lacks : Slot → Step → Bool
lacks x Main = false
lacks x (At Catch w) = false
lacks x (At Send w) = false
lacks x (At Written w) = false
lacks x (At Ack w) = eqb x.line.acks.len 0
lacks x (At Drop w) = false
lacks x (At Join w) = false
lacks x (At Take w) = eqb x.line.entries.len 0

abbrev pub early_at : List ℕ → ℕ → Slot → Step → Option Reply
early_at ns count x st =
    cond (in_shape ns && (leb count 16 && has_room x))
    (cond (lacks x st) (Some (cond x.there Empty (Answered 2))) None)
    (Some (Answered 1))

-- ------------------------------------------------------------------------
-- What a step asks of the player

-- the index after this one, where there is one
abbrev pub index_after : Index → Index
index_after i = cond (eqb i.0 4294967295) i (record { 0 = i.0 + 1 })

-- `main` and `catch` offer the index due, `ack` the front ack, terms are current, and `join` reports the last index; `take` asks nothing
abbrev pub outcome_at : List ℕ → Player → Slot → Step → Outcome
outcome_at ns p x Main = main_rule ns (index_after p.current).0 (player_of p)
outcome_at ns p x (At Catch w) = catch_rule ns w x.term x.due.0 (player_of p)
outcome_at ns p x (At Send w) = send_rule ns w 10 (player_of p)
outcome_at ns p x (At Written w) = written_rule ns w x.term (player_of p)
outcome_at ns p x (At Ack w) = ack_rule ns w x.ack.term x.ack.index.0 (player_of p)
outcome_at ns p x (At Drop w) = drop_rule ns w (player_of p)
outcome_at ns p x (At Join w) = join_rule ns w x.record.last.0 (player_of p)
outcome_at ns p x (At Take w) = record { answer = 0; next = player_of p }

-- what is then in the output of ten zeros
abbrev pub output_at : List ℕ → Player → Step → List ℕ
output_at ns p Main = replicate 10 0
output_at ns p (At Catch w) = replicate 10 0
output_at ns p (At Send w) = send_output ns w (replicate 10 0) (player_of p)
output_at ns p (At Written w) = replicate 10 0
output_at ns p (At Ack w) = replicate 10 0
output_at ns p (At Drop w) = replicate 10 0
output_at ns p (At Join w) = replicate 10 0
output_at ns p (At Take w) = replicate 10 0

-- what the call gave, and what is then in the output
pub record Made (ns : List ℕ) (p : Player) (x : Slot) (st : Step) (r : Played) (out : List ℕ) : Type 0 where
  pub meets : Meets p r (outcome_at ns p x st)
  pub wrote : out ≡ output_at ns p st

-- ------------------------------------------------------------------------
-- What a step leaves that is answered 0

-- the record as it was, and this line
abbrev pub settled_as : Slot → Line → Settled
settled_as x l = record { reply = Answered 0; «record» = x.record; line = l }

-- a line of which this holds
pub record Relined (x : Slot) (after : Line → Type 0) (r : Settled) : Type 0 where
  pub is : r ≡ settled_as x r.line
  pub line : after r.line

-- the front entry taken
abbrev pub take_from : Slot → Taking.Outcome
take_from x = take_numbers (five_of (placed_of (get_or x.line.entries.cells 0 no_sent).numbers)) x.record

pub record Takes (x : Slot) (r : Settled) : Type 0 where
  pub reply : r.reply ≡ Answered (take_from x).number
  pub own : r.record ≡ (take_from x).record'
  pub line : TakenOff x.line (get_or x.line.entries.cells 0 no_sent) r.line

abbrev pub Settles : Slot → Step → List ℕ → Settled → Type 0
Settles x Main out r = r ≡ settled_as x x.line
Settles x (At Catch w) out r = r ≡ settled_as x x.line
Settles x (At Send w) out r = Relined x (Grown x.line (batch_shown out x.term)) r
Settles x (At Written w) out r = r ≡ settled_as x x.line
Settles x (At Ack w) out r = Relined x (AckedOff x.line) r
Settles x (At Drop w) out r = r ≡ settled_as x x.line
Settles x (At Join w) out r = r ≡ settled_as x fresh_line
Settles x (At Take w) out r = Takes x r

-- ------------------------------------------------------------------------
-- The stage after a step

-- another player, and another record and line for window w
abbrev pub stored_at : ℕ → Player → Record → Line → Stage → Stage
stored_at w p r l s = record { player = p; records = set s.records w r; lines = set s.lines w l }

-- with the reply
abbrev pub stored_by : Stage → ℕ → Player → Settled → Stepped
stored_by s w p x = record { reply = x.reply; stage = stored_at w p x.record x.line s }
