mod Pieces
mod Words
