mod Again
mod Linted
