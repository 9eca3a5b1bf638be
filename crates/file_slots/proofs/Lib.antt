mod Numbered
mod Flushed
