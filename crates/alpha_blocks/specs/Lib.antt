pub mod AlphaBlocks
