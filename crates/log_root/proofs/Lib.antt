mod Filled
mod Ranges
mod Shapes
