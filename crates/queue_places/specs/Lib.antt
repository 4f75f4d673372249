-- What the functions speak of beside the definitions of the queue. No reader need believe it.
pub mod inner
