mod Lists
mod Messages
mod Steps
mod Settling
mod Speaking
mod Counting
