-- The rule of the order.
pub mod Order
