pub mod FormedTexts
