-- The laws, proved of the definitions of specs/.
pub mod Counted
pub mod PlanLaws
pub mod Least
pub mod Examples
