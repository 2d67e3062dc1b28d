pub mod SomeBytes
