mod Seeks
mod Cells
mod Counts
mod Lengths
mod Bytes
