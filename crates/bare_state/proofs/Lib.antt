mod Leaf
mod New
