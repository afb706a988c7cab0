-- The laws of the calls, proved of the definitions of specs/.
pub mod Shows
pub mod Sends
pub mod Steps
pub mod StepsLine
pub mod SameHosts
pub mod Runs
pub mod CallFor
pub mod NoneCan
pub mod Demand3Calls
pub mod ExactCountsCalls
pub mod OldTermsCalls
pub mod SameRuns
