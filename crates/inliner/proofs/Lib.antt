mod Bounds
mod Counts
mod Owned
mod Placing
mod Spliced
mod Within
