mod Places
mod Merges
