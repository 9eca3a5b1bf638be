mod Rows
mod Writes
