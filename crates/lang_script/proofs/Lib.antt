pub mod Numbers
pub mod Steps
pub mod RoundTrip
pub mod Lawful
pub mod OneText
