pub mod count_trees
pub mod kept_events
pub mod log_rows
pub mod disk_calls
pub mod settled_places
pub mod crash_images
