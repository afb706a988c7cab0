-- The laws that the rules offer to other crates, all in one place. Demand 3 goes by these, and unfolds no rule. First of each operation
-- stands its answer, `..Rule-refusals`: its refusals in the papers' order.

-- A check in a rule: where it stops the rule, and where the rule goes on.
pub use Rattle.rules.proofs.Checks.{check-yes, check-no, check-passed}
-- The clauses of the shape as facts, and one that follows.
pub use Rattle.rules.proofs.Shaped.{normal-fits, catch-fits, batches-fit, window_shaped, shaped}
pub use Rattle.rules.proofs.Parts.{batches-here}
-- When a window is there; an operation on a window. `LawfulRule` says of its outcome all that demand 3 needs: a refusal changes nothing; an
-- answer 0 has the operation's effect on that window and no other; a state in shape stays in shape.
pub use Rattle.rules.proofs.Operate.{window_at-within, operated-at, operate-cases, Effect, LawfulRule}
-- Main: what it makes of a window, case by case; each window by its own rule; when it is answered 0; the shape.
pub use Rattle.rules.proofs.Main.{main_rule-refusals, enqueue-suspended, enqueue-room, read_at-wanted, read_at-other, read_at-suspended, read_at-room, read_at-normal, read_at-fetching, read_at-completed, is_empty-nil, Ticked, ticked, ticked-same, tick_at-quiet, tick_at-cases, main_at-both, main_at-either, main_at-untouched, main_next-at, main_rule-cases, main_rule-done, main_rule-refuses, main_rule-count, main_rule-can, main-shaped}
-- Catch: what it makes of a window; what its answer 0 tells; when it is answered 0.
pub use Rattle.rules.proofs.Catch.{catch_rule-refusals, one_if, fetched-more, fetched-last, fetched-untouched, Caught, catch_effect, catch_rule-lawful, catch_rule-can}
-- The batch of a Send: its closed form; what is ready, of which it is the first; what it leaves of the window.
pub use Rattle.rules.proofs.Batch.{batch_of-cases, is_empty-some, is_empty-drop, batch_of-normal, batch_of-fetching, batch_of-more, batch_of-all, batch_of-drained, batch_of-suspended, batch_of-most, batch_of-queued, ready_of, ready_of-here, TakesReady, batch_of-ready, ConditionAfter, same, emptied, batch_of-condition, batch_of-untouched}
-- Send: the window after a batch; how many numbers a batch has; what goes out for an index; what its answer 0 tells; when it is answered 0.
pub use Rattle.rules.proofs.Send.{send_rule-refusals, launched-is, launched-ready, batch_numbers-length, sent_for-own, sent_for-tick, sent_for-numbers, sent_for-index, sent_for-append, sent_for-is_own, sent_for-kept, SentOut, send_at-refuses, send_at-done, send_at-can, send_effect, send_rule-lawful, send_rule-done, send_rule-can}
-- Written: what its answer 0 tells; when it is answered 0.
pub use Rattle.rules.proofs.Written.{written_rule-refusals, WrittenOff, written_effect, written_rule-lawful, written_rule-can}
-- Ack: the batches that it leaves; what its answer 0 tells; when it is answered 0.
pub use Rattle.rules.proofs.Ack.{ack_rule-refusals, acknowledged-leaves, acknowledged-rises, acknowledged-newest, acknowledged-oldest, AckTaken, ack_effect, ack_rule-lawful, ack_rule-done, ack_rule-can}
-- Catch, Written and Ack with a term that the window does not hold.
pub use Rattle.rules.proofs.OtherTerm.{turned_away-some, catch_rule-turned, written_rule-turned, ack_rule-turned}
-- Drop: what its answer 0 tells.
pub use Rattle.rules.proofs.Drop.{drop_rule-refusals, drop_effect, drop_rule-lawful}
-- Join: what its answer 0 tells; when it is answered 0.
pub use Rattle.rules.proofs.Join.{join_rule-refusals, join_effect, join_rule-lawful, join_rule-done, join_rule-can}
-- Start: what it is told, and a bound of the reports; the player that it makes: how many windows, each of them, and `current`; what its
-- answer 0 tells; the shape.
pub use Rattle.rules.proofs.Said.{said-length, said_at, said-unread, reports-le}
pub use Rattle.rules.proofs.Start.{start_rule-refusals, start_next, start_next-count, start_next-at, start_next-current, StartDone, start_rule-done, start_rule-refuses, start_rule-unread, start-shaped}
-- An append: the shape.
pub use Rattle.rules.proofs.Append.{append-shaped}
