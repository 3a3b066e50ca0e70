pub mod Tops
pub mod Locals
