-- Whether two worlds look the same: the player, the records and the lines, and nothing else. Each test decides equality.
use Rattle.std.specs.Prelude.{Bool, true, false, ◌&&◌, eqb}
use Rattle.lists.specs.Same.{same_bool, same_list}
use Rattle.journal.specs.declared.Entry.{Entry}
use Rattle.record.specs.Same.{same_record}
use Rattle.rules.specs.View.{Condition, normal, fetching, completed, suspended, WindowView}
use Rattle.delivery.specs.World.{Sent, Ack, Side, World}

abbrev pub same_condition : Condition → Condition → Bool
same_condition normal normal = true
same_condition normal (fetching n e) = false
same_condition normal (completed e) = false
same_condition normal suspended = false
same_condition (fetching n e) normal = false
same_condition (fetching n e) (fetching m f) = eqb n m && eqb e f
same_condition (fetching n e) (completed f) = false
same_condition (fetching n e) suspended = false
same_condition (completed e) normal = false
same_condition (completed e) (fetching m f) = false
same_condition (completed e) (completed f) = eqb e f
same_condition (completed e) suspended = false
same_condition suspended normal = false
same_condition suspended (fetching n e) = false
same_condition suspended (completed e) = false
same_condition suspended suspended = true

unfoldable pub same_window : WindowView → WindowView → Bool
same_window a b =
    eqb a.term.0 b.term.0
    && (eqb a.acked b.acked
    && (eqb a.sent b.sent
    && (same_bool a.busy b.busy
    && (same_list eqb a.batches b.batches
    && (same_list eqb a.normal_queue b.normal_queue
    && (same_list eqb a.catch_queue b.catch_queue && same_condition a.condition b.condition))))))

unfoldable pub same_entry : Entry → Entry → Bool
same_entry a b = eqb a.set b.set && (eqb a.kind b.kind && (eqb a.race b.race && eqb a.value b.value))

unfoldable pub same_sent : Sent → Sent → Bool
same_sent a b =
    eqb a.placed.index b.placed.index
    && (same_entry a.placed.entry b.placed.entry && (eqb a.term.0 b.term.0 && same_bool a.ends b.ends))

unfoldable pub same_ack : Ack → Ack → Bool
same_ack a b = eqb a.term.0 b.term.0 && eqb a.index b.index

-- a side but for the history of what was taken
unfoldable pub same_side : Side → Side → Bool
same_side a b =
    same_window a.view b.view
    && (same_record a.record' b.record' && (same_list same_sent a.line b.line && same_list same_ack a.back b.back))

-- the player's state, the records and the lines
unfoldable pub same_world : World → World → Bool
same_world a b =
    eqb a.limit b.limit
    && (eqb a.spacing b.spacing && (eqb a.current b.current && same_list same_side a.sides b.sides))
