pub mod FirstRecord
pub mod OneRecord
pub mod CrashLaws
