pub mod Files
pub mod FilesInMemory
pub mod Reading
pub mod Sink
pub mod SinkInMemory
