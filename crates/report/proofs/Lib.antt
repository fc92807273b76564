mod Outlining
mod Places
mod Viewing
