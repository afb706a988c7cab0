-- What the operations at one window promise: the papers' number for each answer, and the equations between code and rule.
use Rattle.std.specs.Prelude.{ℕ, ◌≡◌, false, ⊤, Result, Ok, Err}
use Rattle.journal.specs.declared.Index.{Index}
use Rattle.queue.specs.Items.{fresh_queue, fresh_batches}
use Rattle.window.specs.declared.Refusal.{Refusal}
use Rattle.window.specs.declared.Refusal.TheVariants.{OutOfShape, NoSuchWindow, Suspended, NothingToRead, OtherTerm, OtherIndex, NothingReady, LineState, TooManyBatches, CatchUpFull, BadAck, NotSuspended, BadReport, LastTerm, OutputTooShort, BadSpacing}
use Rattle.window.specs.declared.Condition.{Condition}
use Rattle.window.specs.declared.Condition.TheVariants.{Normal}
use Rattle.window.specs.declared.Condition.TheVariants as Held
use Rattle.window.specs.declared.Window.{Window}
use Rattle.window.specs.declared.Turned.{Turned}
use Rattle.window.specs.View.{view_of}
use Rattle.rules.specs.declared.Term.{Term}
use Rattle.rules.specs.Window.{Turn, Report, told, silence}

abbrev pub refusal_number : Refusal → ℕ
refusal_number OutOfShape = 1
refusal_number NoSuchWindow = 2
refusal_number Suspended = 3
refusal_number NothingToRead = 4
refusal_number OtherTerm = 5
refusal_number OtherIndex = 6
refusal_number NothingReady = 7
refusal_number LineState = 8
refusal_number TooManyBatches = 9
refusal_number CatchUpFull = 10
refusal_number BadAck = 11
refusal_number NotSuspended = 12
refusal_number BadReport = 13
refusal_number LastTerm = 14
refusal_number OutputTooShort = 17
refusal_number BadSpacing = 18

-- an answer is a success or a refusal, and a success is 0
abbrev pub Answer : Type 0
Answer = Result ⊤ Refusal

abbrev pub number_of : Answer → ℕ
number_of (Ok done) = 0
number_of (Err refusal) = refusal_number refusal

-- an operation at one window: its answer and the view of the next state are the rule's, and a refusal gives back the window handed in,
-- stale cells too
pub record MeetsWindow (before : Window) (r : Turned) (t : Turn) : Type 0 where
  pub answer : number_of r.answer ≡ t.answer
  pub next : view_of r.window ≡ t.next
  pub unchanged : (t.answer ≡ 0 → ⊥) → r.window ≡ before

-- what an operation leaves that gives the next window or a refusal
abbrev pub turned : Window → Result Window Refusal → Turned
turned before (Ok after) = record { window = after; answer = Ok tt }
turned before (Err refusal) = record { window = before; answer = Err refusal }

-- a window as Start leaves it, whole: on the first term, the line free, 128 zeros in each queue
abbrev pub window_at_start : Term → Index → Index → Condition → Window
window_at_start first acked sent condition = record {
  head = record {
    term = first;
    acked = acked;
    sent = sent;
    busy = false;
    batches = fresh_batches;
    condition = condition;
  };
  normal = fresh_queue;
  catch_up = fresh_queue;
}

-- one that has a report is Normal, acknowledged and sent the report
abbrev pub started_window : Term → ℕ → Window
started_window first r = window_at_start first (record { 0 = r }) (record { 0 = r }) Normal

-- a silent one is Suspended, acknowledged 0 and sent L
abbrev pub silent_window : Term → ℕ → Window
silent_window first l = window_at_start first (record { 0 = 0 }) (record { 0 = l }) Held.Suspended

abbrev pub started_window_by : Term → ℕ → Report → Window
started_window_by first l (told r) = started_window first r
started_window_by first l silence = silent_window first l
