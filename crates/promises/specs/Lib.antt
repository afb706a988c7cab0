-- What a run of the calls asks of each call is the contract of that call; a list of calls for each list of steps; and a run, computed.
pub mod Promises
pub mod CallsFor
pub mod Examples
