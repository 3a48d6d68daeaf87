pub mod OnWay
pub mod Events
pub mod Shows
