pub mod BodiesAre
pub mod KeepsPromise
pub mod PromiseLaws
