mod Rows
mod Without
mod Worked
