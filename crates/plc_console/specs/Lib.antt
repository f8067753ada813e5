pub mod Plc
