-- Send at one window: its rule by itself, the batch as code makes it, and a batch's numbers in the output.
pub mod Sending
pub mod Shares
pub mod BatchNumbers
