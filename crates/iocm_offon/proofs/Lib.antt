mod Grown
mod HaveReasons
mod InPlace
mod Worked
