pub mod TwoQueues
pub mod Arc
pub mod Sieve
pub mod S3Fifo
pub mod ClockProPlay
pub mod Lirs
