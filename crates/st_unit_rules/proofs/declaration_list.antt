pub mod GlobalLaws
