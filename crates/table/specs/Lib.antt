pub mod Table
pub mod Grammar
