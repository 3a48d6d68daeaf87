pub mod Text
pub mod Operands
pub mod UntilFault
pub mod Lines
pub mod Form
pub mod Job
pub mod Grammar
pub mod Language
