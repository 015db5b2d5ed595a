pub mod Stand
pub mod Walk
pub mod Replay
pub mod Resume
pub mod ReplayLaws
pub mod WalkLaws
