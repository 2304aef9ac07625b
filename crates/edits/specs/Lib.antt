-- What an edit leaves of the state, and what still holds of a call whatever it was handed.
pub mod Edited
