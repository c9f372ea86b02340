mod Sizes
mod Sending
mod Passed
mod Turns
mod Quiet
