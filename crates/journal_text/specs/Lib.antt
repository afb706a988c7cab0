-- Journal text: the line of an entry, the text of a list of entries, what reading and writing answer, the pass over a held journal, and
-- bytes put at a place of the output.
pub mod Text
pub mod Scan
pub mod LineLaws
pub mod ScanLaws
pub mod Answers
pub mod Laws
pub mod Clean
pub mod Put
