mod Pairs
pub mod Puts
mod MarkScans
mod RingScans
mod PolygonScans
mod WordScans
mod MemberScans
mod TextScans
