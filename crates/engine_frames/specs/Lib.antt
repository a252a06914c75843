pub mod OurFrames
