pub mod Places
pub mod Joined
pub mod Accepted
pub mod Parents
pub mod SoundBranches
pub mod Patches
pub mod Ends
pub mod SoundProjects
