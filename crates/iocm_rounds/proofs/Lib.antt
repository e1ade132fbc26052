mod Lines
mod Working
mod Rounds
mod Sends
