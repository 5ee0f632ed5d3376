pub mod Sink
