-- No block has two writes pending through a commit.
pub mod OnePending
pub mod KeepsOne
