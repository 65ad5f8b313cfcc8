pub mod Past
pub mod DeoverlapLoop
