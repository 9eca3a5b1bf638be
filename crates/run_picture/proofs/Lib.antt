mod Filming
mod Harts
mod Numbering
mod Telling
