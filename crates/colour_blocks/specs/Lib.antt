pub mod ColourBlocks
