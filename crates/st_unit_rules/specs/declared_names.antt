pub mod Constants
pub mod WrittenTypes
pub mod Variables
pub mod Declarations
pub mod UnitNames
pub mod ConstantLaws
