pub mod ScratchTurns
pub mod Finished
pub mod PassageTurns
pub mod Lanes
