-- The laws that `delivery` offers to other crates, all in one place. Its definitions stand in Machine, World, Same, Sorts, Statement,
-- Counts and Stragglers, and runs computed on them in the files of examples; of its proofs nothing else is used.

-- The journal, the player and a side in a world.
pub use Rattle.delivery.proofs.Worlds.{entries-in, count-in, window-in, windows-in, with_windows, with_player-same, with_player-window, with_player-player, with_side-here, with_side-player, with_side-twice, with_window-same}
-- A call of the player by a step: refused, answered 0, alone.
pub use Rattle.delivery.proofs.Stepped.{called_then-refused, called_then-done, called-then}
-- What a batch puts on a line.
pub use Rattle.delivery.proofs.KeepSend.{launched_side}
pub use Rattle.delivery.proofs.Lines.{on_line-entries, ends_of-append, on_line-ends, unacked-none}
-- What a step does at one window.
pub use Rattle.delivery.proofs.Effects.{Worked, caught, sent, written, took, acked}
pub use Rattle.delivery.proofs.Moves.{Moved, still, appended, mained, worked, dropped-here, joined-here, started-here, Keeps, step_count, step_keeps, side-moves}
-- Looking the same.
pub use Rattle.delivery.proofs.SameLaws.{same_world-itself}
-- A world that a run reaches, and what is known of it.
pub use Rattle.delivery.proofs.Invariant.{last_of, line_entries, back_indices, QueuesOf, Inv, Reached}
unfoldable pub use Rattle.delivery.proofs.Invariant.{ends_of}
pub use Rattle.delivery.proofs.Reach.{read-in, reached-step, reached-run, run-count}
pub use Rattle.delivery.proofs.Demand3.{opened-reached, opened-count, opened-side}
-- The theorems.
pub use Rattle.delivery.proofs.Demand3.{demand-3}
pub use Rattle.delivery.proofs.ExactCounts.{exact-counts}
pub use Rattle.delivery.proofs.OldTerms.{term_at, older-late, terms-above}
