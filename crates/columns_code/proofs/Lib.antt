pub mod NumberOrder
pub mod Exchanges
pub mod Network
pub mod SideOrder
