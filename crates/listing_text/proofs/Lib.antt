mod Turns
mod Ids
mod Pens
mod Decimals
