-- What a reader must believe of the queue: Queue. The others serve the proofs.
pub mod Queue
pub mod inner
