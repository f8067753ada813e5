pub mod console_words
pub mod play_console
pub mod check_console
