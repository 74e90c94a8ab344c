-- Laws that belong to no one function.
mod Reading
mod Writing
mod Calls
