-- What a reader must believe of the rule: Lists, Order, Graph, Wave, Reach, Renumbering, Bounds, Numbers, Refusals. WorkList serves the proofs.
pub mod Lists
pub mod Order
pub mod Graph
pub mod Wave
pub mod Reach
pub mod Renumbering
pub mod Bounds
pub mod Numbers
pub mod Refusals
pub mod WorkList
