mod Below
mod Capitals
mod Finding
mod Words
