-- That what opening and an edit give is held.
pub mod Held
