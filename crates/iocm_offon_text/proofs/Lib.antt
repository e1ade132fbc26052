mod Few
mod Leading
mod Placed
mod ToldReasons
mod Whole
mod Worked
