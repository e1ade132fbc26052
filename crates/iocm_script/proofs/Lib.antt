mod Again
mod Counting
mod Cutting
mod Fitting
mod Keeping
mod OperandsAgain
mod Rows
mod Splitting
