-- Bounded queues as lists: the view of the cells, what each operation makes of the list, and laws of those lists.
pub mod Items
