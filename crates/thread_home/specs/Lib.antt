pub mod ThreadTable
