pub mod RefusalCodes
