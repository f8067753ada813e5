pub mod Booleans
pub mod ListLaws
pub mod Numbers
pub mod ChainLaws
pub mod UpwardLaws
pub mod LeadsLaws
pub mod TypeLaws
pub mod FaultLaws
pub mod ClassLaws
pub mod InterfaceLaws
pub mod SignatureLaws
mod Examples
pub mod RowLaws
pub mod KindLaws
mod ExpressionExamples
