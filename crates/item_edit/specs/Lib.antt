pub mod ItemEdit
