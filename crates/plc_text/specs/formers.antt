pub mod plc_series
