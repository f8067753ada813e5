pub mod Elem
pub mod Range
pub mod Widening
pub mod Private
pub use Rattle.sqlite_items.specs.declared.boxed.Boxed
