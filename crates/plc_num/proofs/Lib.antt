pub mod BitLaws
pub mod Machine
pub mod WrappingLaws
pub mod OperationLaws
pub mod Wide
