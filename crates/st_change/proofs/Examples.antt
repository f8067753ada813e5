mod Hooks
mod Marks
mod Shrinks
mod Stopped
mod Lists
mod Settling
