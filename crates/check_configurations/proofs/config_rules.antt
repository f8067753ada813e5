pub mod ConfigLaws
pub mod SettingLaws
