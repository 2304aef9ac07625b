-- What the contracts of this program say: of arguments and files, and of a run of edits.
pub mod Editing
pub mod Files
