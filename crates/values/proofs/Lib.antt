pub mod Checked
pub mod Annotated
