-- The view of one window: what document 01 says is held for it, seen from the cells and the fields that hold it.
use Rattle.queue.specs.Items.{items_of, batches_of}
use Rattle.rules.specs.View.{Condition, normal, fetching, completed, suspended, WindowView}
use Rattle.window.specs.declared.Condition.{Condition as HeldCondition}
use Rattle.window.specs.declared.Condition.TheVariants.{Normal, Fetching, Completed, Suspended}
use Rattle.window.specs.declared.Window.{Window}

abbrev pub condition_of : HeldCondition → Condition
condition_of Normal = normal
condition_of (Fetching next end) = fetching next.0 end.0
condition_of (Completed end) = completed end.0
condition_of Suspended = suspended

unfoldable pub view_of : Window → WindowView
view_of w = record {
  term = w.head.term;
  acked = w.head.acked.0;
  sent = w.head.sent.0;
  busy = w.head.busy;
  batches = batches_of w.head.batches;
  normal_queue = items_of w.normal;
  catch_queue = items_of w.catch_up;
  condition = condition_of w.head.condition;
}
