pub mod FramesLaws
