mod Gathering
mod Pairs
mod Filling
mod Tying
mod Lengths
