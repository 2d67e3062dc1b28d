mod Summing
mod Files
