-- What judging a record that is offered comes to, and what moves where a node is removed.
pub mod Offers
pub mod MovesDown
