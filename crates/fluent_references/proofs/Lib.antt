mod Bare
mod Distinct
mod Fed
mod Gathered
mod HashedRows
mod Passed
mod Slotted
mod Viewed
