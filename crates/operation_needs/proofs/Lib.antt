mod Counting
mod Hashes
mod With
mod Inodes
mod Places
