pub mod DeclarerLaws
