mod Ascii
mod Floats
