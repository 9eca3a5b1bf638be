pub mod FrameRuns
