mod BehindConst
mod Endings
mod Objects
mod Rows
mod Padding
mod Weighing
