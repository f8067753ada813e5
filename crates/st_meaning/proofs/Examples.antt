mod Fault
mod Dispatch
mod Aliases
mod Count
mod Blocks
mod Outputs
mod Depth
