pub mod AddLaws
pub mod ScopeLaws
pub mod StructureLaws
pub mod ParameterLaws
pub mod RoutineLaws
pub mod UnitLaws
